-- How a step of a meeting changes its count, and how often a place stands in a list.
use Rattle.std.proofs.Common.{◌≡◌, ℕ, ◌+◌, ◌≤◌, ◌≢◌, Bool, List, [], ◌∷◌, ◌++◌, Option, None, Some, ap, sym, ◌∙◌, refl, arith, eq-eqb, ne_eqb, ◌==◌, subst, ◌<◌}
use mathlib.Core.Logic.{dite}
use native.Mathlib.Decide.{ℕ_discrete}
use Rattle.meetings.specs.Meetings.{Meeting, one, times, tickets_due, holder_due, count_of, issuing, parking, arriving}

pub one_same : (p q : ℕ) → p ≡ q → one (p == q) ≡ 1
one_same p q e = ap one (eq-eqb p q e)

pub one_else : (p q : ℕ) → p ≢ q → one (p == q) ≡ 0
one_else p q n = ap one (ne_eqb p q n)

pub times-append : (p : ℕ) (l m : List ℕ) → times p (l ++ m) ≡ times p l + times p m
times-append p [] m = omega arith
times-append p (q ∷ l) m = omega (arith, times-append p l m)

-- a place that has not come before is due in one list just as often as it is not once it came
due_one : (p q : ℕ) (came : List ℕ) → times p came ≡ 0 → one (times q (p ∷ came) == 0) + one (q == p) ≡ one (times q came == 0)
due_one p q came h = dite (ℕ_discrete q p)
    (λ e.
    let a : one (q == p) ≡ 1 = one_same q p e in
    let b : one (p == q) ≡ 1 = one_same p q (sym e) in
    let c : times q came ≡ 0 = ap (λ (r : ℕ). times r came) e ∙ h in
    let d : one (times q (p ∷ came) == 0) ≡ 0 = one_else (times q (p ∷ came)) 0 (λ z. omega arith) in
    let f : one (times q came == 0) ≡ 1 = one_same (times q came) 0 c in
    omega arith)
    (λ n.
    let a : one (q == p) ≡ 0 = one_else q p n in
    let b : one (p == q) ≡ 0 = one_else p q (λ e. n (sym e)) in
    let c : times q (p ∷ came) ≡ times q came = omega arith in
    let d : one (times q (p ∷ came) == 0) ≡ one (times q came == 0) = ap (λ (k : ℕ). one (k == 0)) c in
    omega arith)

pub due-came : (p : ℕ) (came l : List ℕ) → times p came ≡ 0 → tickets_due (p ∷ came) l + times p l ≡ tickets_due came l
due-came p came [] h = refl
due-came p came (q ∷ l) h = let a = due_one p q came h in let b = due-came p came l h in omega arith

pub due-append : (came l m : List ℕ) → tickets_due came (l ++ m) ≡ tickets_due came l + tickets_due came m
due-append came [] m = omega arith
due-append came (q ∷ l) m = omega (arith, due-append came l m)

-- where nothing is due, each place that stands in the list came
pub due_none : (came l : List ℕ) (p : ℕ) → tickets_due came l ≡ 0 → 0 < times p l → 0 < times p came
due_none came [] p h there = absurd (omega arith)
due_none came (q ∷ l) p h there = dite (ℕ_discrete q p)
    (λ e. dite (ℕ_discrete (times q came) 0)
    (λ z. let a : one (times q came == 0) ≡ 1 = one_same (times q came) 0 z in absurd (omega arith))
    (λ n. let a : times q came ≡ times p came = ap (λ (r : ℕ). times r came) e in omega arith))
    (λ n. let a : one (q == p) ≡ 0 = one_else q p n in due_none came l p (omega arith) (omega arith))

module _ {Kept : Type 0} where
  pub count-issuing : (p : ℕ) (x : Meeting Kept) → times p x.came ≡ 0 → count_of (issuing p x) ≡ count_of x + 1
  count-issuing p x h =
      let a : one (times p x.came == 0) ≡ 1 = one_same (times p x.came) 0 h in
      let b = due-append x.came x.issued (p ∷ []) in
      omega arith

  pub count-parking : (kept : Kept) (x : Meeting Kept) → x.parked ≡ None → count_of (parking kept x) + 1 ≡ count_of x
  count-parking kept x h = let a : holder_due x.parked ≡ 1 = ap holder_due h in omega arith

  pub count-arriving : (p : ℕ) (x : Meeting Kept) → times p x.issued ≡ 1 → times p x.came ≡ 0 → count_of (arriving p x) + 1 ≡ count_of x
  count-arriving p x once new = let a = due-came p x.came x.issued new in omega arith
