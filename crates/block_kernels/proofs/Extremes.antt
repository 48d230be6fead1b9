-- The least and the greatest cell: found, a bound, and but one number.
use Rattle.std.proofs.Common.{◌≡◌, ℕ, zero, suc, ◌+◌, ◌<◌, ℤ, pos, List, [], ◌∷◌, length, take, fold, sym, refl, arith, Contains, ◌≤ℤ◌, ⊎_elim, subst, add-one}
use Rattle.std.specs.Int.{int_min, int_max}
use Rattle.std.proofs.lemmas.List.Elements.{Contains-append_right, All-cons}
use Rattle.std.proofs.lemmas.List.Sums.{fold_more}
use Rattle.std.proofs.lemmas.Int.{ints, fold-int_min_bounds, fold-int_min_reached, fold-int_max_bounds, fold-int_max_reached}
use Rattle.block_kernels.specs.Kernels.{cell, IsLeast, IsGreatest, least_of, greatest_of}

-- ---- the least cell

-- of one cell
pub least_of_one : (left : List ℤ) → 0 < length left → cell left 0 ≡ least_of (take 1 left)
least_of_one [] some = absurd (omega arith)
least_of_one (x ∷ xs) some = refl

-- of one cell more
pub least_of_more : (left : List ℤ) (i : ℕ) → 0 < i → i < length left
    → int_min (least_of (take i left)) (cell left i) ≡ least_of (take (i + 1) left)
least_of_more [] i some within = absurd (omega arith)
least_of_more (x ∷ xs) zero some within = absurd (omega arith)
least_of_more (x ∷ xs) (suc j) some within =
    rw add-one (sym (rw add-one at (fold_more int_min x xs j (pos 0) (omega arith))))

-- it is found, and a bound
pub least_of_is : (left : List ℤ) → 0 < length left → IsLeast left (least_of left)
least_of_is [] some = absurd (omega arith)
least_of_is (x ∷ xs) some =
    let least : ℤ = fold int_min x xs in
    let bounds = fold-int_min_bounds x xs least refl in
    record {
      found = ⊎_elim (λ (first : least ≡ x). (0, omega arith, sym first))
          (λ (later : Contains xs least). Contains-append_right (x ∷ []) xs least later) (fold-int_min_reached x xs least refl);
      bound = All-cons (λ y. least ≤ℤ y) x xs bounds.0 bounds.1;
    }

-- it is the only such number
pub least_is_one : (left : List ℤ) (one other : ℤ) → IsLeast left one → IsLeast left other → one ≡ other
least_is_one left one other is_one is_other =
    let here = is_one.found in
    let there = is_other.found in
    let below : one ≤ℤ other = subst (λ (y : ℤ). one ≤ℤ y) there.2 (is_one.bound there.0 other there.1) in
    let above : other ≤ℤ one = subst (λ (y : ℤ). other ≤ℤ y) here.2 (is_other.bound here.0 one here.1) in
    omega (arith, ints)

-- ---- the greatest cell

-- of one cell
pub greatest_of_one : (left : List ℤ) → 0 < length left → cell left 0 ≡ greatest_of (take 1 left)
greatest_of_one [] some = absurd (omega arith)
greatest_of_one (x ∷ xs) some = refl

-- of one cell more
pub greatest_of_more : (left : List ℤ) (i : ℕ) → 0 < i → i < length left
    → int_max (greatest_of (take i left)) (cell left i) ≡ greatest_of (take (i + 1) left)
greatest_of_more [] i some within = absurd (omega arith)
greatest_of_more (x ∷ xs) zero some within = absurd (omega arith)
greatest_of_more (x ∷ xs) (suc j) some within =
    rw add-one (sym (rw add-one at (fold_more int_max x xs j (pos 0) (omega arith))))

-- it is found, and a bound
pub greatest_of_is : (left : List ℤ) → 0 < length left → IsGreatest left (greatest_of left)
greatest_of_is [] some = absurd (omega arith)
greatest_of_is (x ∷ xs) some =
    let greatest : ℤ = fold int_max x xs in
    let bounds = fold-int_max_bounds x xs greatest refl in
    record {
      found = ⊎_elim (λ (first : greatest ≡ x). (0, omega arith, sym first))
          (λ (later : Contains xs greatest). Contains-append_right (x ∷ []) xs greatest later) (fold-int_max_reached x xs greatest refl);
      bound = All-cons (λ y. y ≤ℤ greatest) x xs bounds.0 bounds.1;
    }

-- it is the only such number
pub greatest_is_one : (left : List ℤ) (one other : ℤ) → IsGreatest left one → IsGreatest left other → one ≡ other
greatest_is_one left one other is_one is_other =
    let here = is_one.found in
    let there = is_other.found in
    let above : other ≤ℤ one = subst (λ (y : ℤ). y ≤ℤ one) there.2 (is_one.bound there.0 other there.1) in
    let below : one ≤ℤ other = subst (λ (y : ℤ). y ≤ℤ other) here.2 (is_other.bound here.0 one here.1) in
    omega (arith, ints)
