-- How many elements of a list pass a test.
use Rattle.std.proofs.Common.{◌≡◌, ◌∙◌, ℕ, zero, suc, ◌+◌, ◌<◌, ◌≤◌, cond, Bool, true, false, nat_eq, List, [], ◌∷◌, length, slice_index_or, count_by}
use Rattle.std.proofs.Common.{sym, ap, arith, ⊎_elim}
use Rattle.std.proofs.lemmas.Bool.{eqb-true, cases_Bool, cases_lt, cases_eq}
use Rattle.std.specs.List.{remove}
use Rattle.std.specs.List.Sorted.{IsNonDecreasing}
use Rattle.std.proofs.lemmas.List.Quantifiers.{all_pairs_remove}
use Rattle.std.proofs.lemmas.List.Sums.{sum_by-cons}

-- of the first element, and of the others
pub count_first : {X : Type 0} (test : X → Bool) (x : X) (xs : List X) → count_by test (x ∷ xs) ≡ cond (test x) 1 0 + count_by test xs
count_first test x xs = sum_by-cons (λ y. cond (test y) 1 0) x xs

pub count_yes : {X : Type 0} (test : X → Bool) (x : X) (xs : List X) → test x ≡ true → count_by test (x ∷ xs) ≡ 1 + count_by test xs
count_yes test x xs e = count_first test x xs ∙ ap (λ b. cond b 1 0 + count_by test xs) e

pub count_no : {X : Type 0} (test : X → Bool) (x : X) (xs : List X) → test x ≡ false → count_by test (x ∷ xs) ≡ count_by test xs
count_no test x xs e = let step : count_by test (x ∷ xs) ≡ 0 + count_by test xs = count_first test x xs ∙ ap (λ b. cond b 1 0 + count_by test xs) e in
    omega arith

-- where the elements before a place pass and the others don't
pub count_split : (test : ℕ → Bool) (xs : List ℕ) (n : ℕ) → n ≤ length xs → ((k : ℕ) → k < n → test (slice_index_or xs k 0) ≡ true)
    → ((k : ℕ) → n ≤ k → k < length xs → test (slice_index_or xs k 0) ≡ false) → n ≡ count_by test xs
count_split test [] n within before after = omega arith
count_split test (x ∷ xs) zero within before after =
    omega (
      arith,
      count_no test x xs (after zero (omega arith) (omega arith)),
      count_split test xs zero (omega arith) (λ k below. absurd (omega arith)) (λ k low high. after (suc k) (omega arith) (omega arith)),
    )
count_split test (x ∷ xs) (suc n) within before after =
    omega (
      arith,
      count_yes test x xs (before zero (omega arith)),
      count_split test xs n (omega arith) (λ k below. before (suc k) (omega arith)) (λ k low high. after (suc k) (omega arith) (omega arith)),
    )

-- a number that is counted stands somewhere
pub stands : (v : ℕ) (xs : List ℕ) → 0 < count_by (nat_eq v) xs → (k : ℕ) × (k < length xs) × (slice_index_or xs k 0 ≡ v)
stands v [] some = absurd (omega arith)
stands v (x ∷ xs) some =
    ⊎_elim (λ (here : nat_eq v x ≡ true). (0, omega arith, sym (eqb-true _ _ here)))
    (λ (not_here : nat_eq v x ≡ false). let rest : (k : ℕ) × (k < length xs) × (slice_index_or xs k 0 ≡ v) =
    stands v xs (omega (arith, count_no (nat_eq v) x xs not_here, some)) in
    (suc rest.0, omega (arith, rest.1), rest.2)) (cases_Bool (nat_eq v x))

-- among ascending numbers it stands where the smaller ones end
pub stands_first : (v : ℕ) (xs : List ℕ) (place : ℕ) → IsNonDecreasing xs → ((k : ℕ) → k < place → slice_index_or xs k 0 < v)
    → ((k : ℕ) → place ≤ k → k < length xs → v ≤ slice_index_or xs k 0) → 0 < count_by (nat_eq v) xs → (place < length xs) × (slice_index_or xs place 0 ≡ v)
stands_first v xs place sorted before after some =
    let at : (k : ℕ) × (k < length xs) × (slice_index_or xs k 0 ≡ v) = stands v xs some in
    let reach : place ≤ at.0 =
    ⊎_elim (λ (early : at.0 < place). absurd (omega (arith, before at.0 early, at.2))) (λ (late : place ≤ at.0). late) (cases_lt at.0 place) in
    let inside : place < length xs = omega (arith, reach, at.1) in
    (inside, omega (arith, after place (omega arith) inside, sorted place at.0 0 reach at.1, at.2))

-- they stay ascending
pub ascends_removed : (xs : List ℕ) (n : ℕ) → n < length xs → IsNonDecreasing xs → IsNonDecreasing (remove xs n)
ascends_removed xs n inside sorted i j d low high =
    ⊎_elim (λ (same : i ≡ j). rw same (omega arith)) (λ (other : i ≡ j
    → ⊥). all_pairs_remove ◌≤◌ xs n inside (λ a b e below within. sorted a b e (omega arith) within) i j d (omega (arith, other)) high) (cases_eq i j)
