-- The first of the requests that are left.
use Rattle.std.proofs.Common.{◌≡◌, ℕ, List, [], ◌∷◌, Option, Some, None, Result, Ok, Err, refl, ap, arith}
use Rattle.std.specs.Prelude.{slice_get, slice_index_or}
use Rattle.rt_base.specs.declared.data.FaultKind.{FaultKind}
use Rattle.rt_base.specs.declared.data.FaultKind.TheVariants as fault
use Rattle.task_unroll.specs.declared.refusal.ExpandRefusal.TheVariants as refusal
use Rattle.task_unroll.specs.Acts.{none_left}

pub none_is_left : (lines left : List ℕ) → None ≡ slice_get left 0 → none_left lines left ≡ Ok tt
none_is_left lines [] is = refl
none_is_left lines (n ∷ more) is = absurd (cc)

pub one_is_left : (lines left : List ℕ) (n : ℕ) → Some n ≡ slice_get left 0
    → none_left lines left ≡ Err (refusal.Fault (slice_index_or lines n 0) fault.RequestLeft)
one_is_left lines [] n is = absurd (cc)
one_is_left lines (m ∷ more) n is = cc
