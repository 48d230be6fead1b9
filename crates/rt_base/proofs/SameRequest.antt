-- One request or two.
use Rattle.std.proofs.Common.{◌≡◌, ℕ, true, false, ◌==◌, sym, refl, ap, ◌∙◌, eqb-true, eq-eqb, ◌⊎◌, inl, inr}
use Rattle.std.proofs.lemmas.Bool.{and_parts, and_from, both_ways, false_from_ne_true, cases_Bool}
use Rattle.rt_base.specs.declared.data.ReqNo.{ReqNo}
use Rattle.rt_base.specs.Operations.{request}
use Rattle.rt_base.specs.Matching.{same_request}

-- requests of the same numbers are one
pub one_request : (a b : ReqNo) → same_request a b ≡ true → a ≡ b
one_request a b same =
    let parts = and_parts (a.task.0 == b.task.0) (a.nth == b.nth) same in
    ap (λ (t : ℕ). request t a.nth) (eqb-true a.task.0 b.task.0 parts.0) ∙ ap (λ (n : ℕ). request b.task.0 n) (eqb-true a.nth b.nth parts.1)

pub same_request-self : (a : ReqNo) → same_request a a ≡ true
same_request-self a = and_from (a.task.0 == a.task.0) (a.nth == a.nth) (eq-eqb a.task.0 a.task.0 refl) (eq-eqb a.nth a.nth refl)

pub same_from_eq : (a b : ReqNo) → a ≡ b → same_request a b ≡ true
same_from_eq a b e = ap (λ (r : ReqNo). same_request a r) (sym e) ∙ same_request-self a

-- two requests in either order
pub other_request : (a b : ReqNo) → same_request a b ≡ false → same_request b a ≡ false
other_request a b other =
    false_from_ne_true (same_request b a) (λ same. both_ways (same_request a b) other (same_from_eq a b (sym (one_request b a same))))

by_cases : (a b : ReqNo) → (same_request a b ≡ true) ⊎ (same_request a b ≡ false) → same_request a b ≡ same_request b a
by_cases a b (inl same) = same ∙ sym (same_from_eq b a (sym (one_request a b same)))
by_cases a b (inr other) = other ∙ sym (other_request a b other)

pub same_request-comm : (a b : ReqNo) → same_request a b ≡ same_request b a
same_request-comm a b = by_cases a b (cases_Bool (same_request a b))
