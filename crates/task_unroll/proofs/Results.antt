-- What holds of the value that a chain of results gives, whatever stops it.
use Rattle.std.proofs.Common.{◌≡◌, ℕ, ◌+◌, ◌≤◌, Bool, true, false, List, [], ◌∷◌, ◌++◌, Result, Ok, Err, refl, sym, ap, ◌∙◌, subst, arith}
use Rattle.std.specs.Prelude.{⊤, nat_le, sum, if◌then◌else◌}
use Rattle.std.proofs.lemmas.Bool.Decides.{nat_tests}
use Rattle.std.proofs.lemmas.List.Sums.{sum_by_push}
use Rattle.rt_base.specs.declared.data.FaultKind.{FaultKind}
use Rattle.rt_base.specs.declared.data.LimitName.{LimitName}
use Rattle.task_unroll.specs.declared.refusal.ExpandRefusal.{ExpandRefusal}
use Rattle.task_unroll.specs.declared.refusal.ExpandRefusal.TheVariants as refusal
use Rattle.task_unroll.specs.Unrolling.{◌>>=◌, at}
use Rattle.rt_base.specs.Limits.{most}
use Rattle.task_unroll.specs.Counting.{kept}
use Rattle.task_unroll.specs.Checks.{Check, check, passed}

-- the fact holds of the value, if there is one
abbrev pub Holds : {E X : Type 0} → (X → Type 0) → Result X E → Type 0
Holds Fact (Ok x) = Fact x
Holds Fact (Err e) = ⊤

-- it holds of a chain's value where it holds of what each value of the first part leads to
pub bind : {E X Y : Type 0} (Fact : Y → Type 0) (c : Result X E) (f : X → Result Y E) → ((x : X) → c ≡ Ok x → Holds Fact (f x)) → Holds Fact (c >>= f)
bind Fact (Ok x) f each = each x refl
bind Fact (Err e) f each = tt

-- the same with what holds of the first value
pub bind_by : {E X Y : Type 0} (Before : X → Type 0) (Fact : Y → Type 0) (c : Result X E) (f : X → Result Y E)
    → Holds Before c → ((x : X) → Before x → Holds Fact (f x)) → Holds Fact (c >>= f)
bind_by Before Fact (Ok x) f before each = each x before
bind_by Before Fact (Err e) f before each = tt

pub holds_of : {E X : Type 0} (Fact : X → Type 0) (c : Result X E) (x : X) → Holds Fact c → c ≡ Ok x → Fact x
holds_of Fact c x holds is = subst (Holds Fact) is holds

-- a value at a line is the value
pub at_ok : {A : Type 0} (line : ℕ) (c : Result A FaultKind) (x : A) → at line c ≡ Ok x → c ≡ Ok x
at_ok line (Ok y) x is = cc
at_ok line (Err kind) x is = absurd (cc)

-- a count that is kept is the count, and keeps the limit
pub kept_ok : (which : LimitName) (count n : ℕ) → kept which count ≡ Ok n → (n ≡ count) × (count ≤ most which)
unfolding kept
kept_ok which count n is = by (nat_le count (most which)) refl is
  where
    by : (b : Bool) → nat_le count (most which) ≡ b → (if b then Ok count else Err (refusal.Limit which)) ≡ Ok n → (n ≡ count) × (count ≤ most which)
    by true below is = ((cc), grind (arith, nat_tests))
    by false above is = absurd (cc)

-- the first of the tests finds nothing, and the others pass
pub passed_first : (one : Check) (more : List Check) (u : ⊤) → passed (one ∷ more) ≡ Ok u → (one.finds ≡ false) × (passed more ≡ Ok u)
passed_first one more u is = by one.finds refl is
  where
    by : (b : Bool) → one.finds ≡ b → (if b then Err one.kind else passed more) ≡ Ok u → (one.finds ≡ false) × (passed more ≡ Ok u)
    by true found is = absurd (cc)
    by false none is = (none, is)

-- tests that stand before others
pub passed_front : (checks more : List Check) (u : ⊤) → passed (checks ++ more) ≡ Ok u → (passed checks ≡ Ok tt) × (passed more ≡ Ok u)
passed_front [] more u is = (refl, is)
passed_front (one ∷ checks) more u is =
    let both = passed_first one (checks ++ more) u is in
    let rest = passed_front checks more u both.1 in
    (ap (λ (b : Bool). if b then Err one.kind else passed checks) both.0 ∙ rest.0, rest.1)

-- one more length
pub sum_push : (lens : List ℕ) (len : ℕ) → sum (lens ++ len ∷ []) ≡ sum lens + len
sum_push lens len = sum_by_push (λ (n : ℕ). n) lens len
