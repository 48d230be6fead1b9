-- How the slots of a hall lie: for each meeting one for the record, and after it one for each place.
use Rattle.std.specs.Prelude.{ℕ, ◌+◌, ◌<◌, ◌^◌, zero, suc, List, [], ◌∷◌, length, slice_index}

-- the number of the record's slot of a meeting, and past the last meeting the number of slots
abbrev pub start_of : List ℕ → ℕ → ℕ
start_of [] m = 0
start_of (p ∷ ps) zero = 0
start_of (p ∷ ps) (suc m) = suc p + start_of ps m

-- each meeting has fewer than 2^32 - 1 places
abbrev pub IsNarrow : List ℕ → Type 0
IsNarrow places = (m : ℕ) → m < length places → slice_index places m + 1 < 2 ^ 32
