-- What the definitions of passes say of each other.
use Rattle.std.specs.Prelude.{◌≡◌, ℕ, ◌<◌, List, length, slice_get, Some}
use mathlib.Core.List.{IsPrefix}
use Rattle.atomic_table.specs.Seated.{TableId}
use Rattle.pass_table.specs.Passes.{new_pass, new_passes, AreOfOneList}

-- of two fronts of one list one is a front of the other
abbrev pub FrontsAreOfOneList : Type 0
FrontsAreOfOneList = (one other whole : List (ℕ × ℕ)) → IsPrefix one whole → IsPrefix other whole → AreOfOneList one other

-- the first passes are as many as their callers, and in each place is the pass of that caller: so no two name one caller
abbrev pub EachCallerHasItsPass : Type 0
EachCallerHasItsPass =
    (table : TableId) (callers : ℕ) → (length (new_passes table callers) ≡ callers)
    × ((caller : ℕ) → caller < callers → slice_get (new_passes table callers) caller ≡ Some (new_pass table caller))
