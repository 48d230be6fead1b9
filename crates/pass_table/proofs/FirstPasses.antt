-- The passes that a table begins with.
use Rattle.std.proofs.Common.{◌≡◌, ℕ, zero, suc, ◌<◌, List, [], ◌∷◌, ◌++◌, length, slice_get, Some, refl, ap, sym, ◌∙◌, arith, length-append}
use native.Mathlib.Decide.{ℕ_discrete}
use Rattle.atomic_table.specs.Seated.{TableId}
use Rattle.pass_table.specs.Passes.{new_pass, new_passes}
use Rattle.pass_table.specs.Laws.{EachCallerHasItsPass}

length-new_passes : (table : TableId) (callers : ℕ) → length (new_passes table callers) ≡ callers
length-new_passes table zero = refl
length-new_passes table (suc callers) = omega (arith, length-append (new_passes table callers) (new_pass table callers ∷ []), length-new_passes table callers)

module _ {A : Type 0} where
  get_before : (xs : List A) (x : A) (k : ℕ) → k < length xs → slice_get (xs ++ x ∷ []) k ≡ slice_get xs k
  get_before [] x k lt = absurd (omega arith)
  get_before (y ∷ xs) x zero lt = refl
  get_before (y ∷ xs) x (suc k) lt = get_before xs x k (omega arith)

  get_last : (xs : List A) (x : A) (k : ℕ) → length xs ≡ k → slice_get (xs ++ x ∷ []) k ≡ Some x
  get_last [] x zero e = refl
  get_last [] x (suc k) e = absurd (omega arith)
  get_last (y ∷ xs) x zero e = absurd (omega arith)
  get_last (y ∷ xs) x (suc k) e = get_last xs x k (omega arith)

pass_at : (table : TableId) (callers caller : ℕ) → caller < callers → slice_get (new_passes table callers) caller ≡ Some (new_pass table caller)
pass_at table zero caller lt = absurd (omega arith)
pass_at table (suc callers) caller lt =
    let before = new_passes table callers in
    let count = length-new_passes table callers in
    elim (ℕ_discrete caller callers) [
      | yes last ↦ get_last before (new_pass table callers) caller (count ∙ sym last) ∙ ap (λ (k : ℕ). Some (new_pass table k)) (sym last)
      | no other ↦ get_before before (new_pass table callers) caller (omega (arith, count)) ∙ pass_at table callers caller (omega arith)
    ]

pub each_has_its_pass : EachCallerHasItsPass
each_has_its_pass table callers = (length-new_passes table callers, pass_at table callers)
