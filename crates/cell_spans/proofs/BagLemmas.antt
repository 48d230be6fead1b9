-- What is left of numbers when others are taken out.
use Rattle.std.proofs.Common.{◌≡◌, ◌∙◌, ℕ, ◌+◌, ◌<◌, ◌≤◌, cond, Bool, true, false, nat_eq, nat_lt, nat_le, List, [], ◌∷◌, length, slice_index_or}
use Rattle.std.proofs.Common.{count_by, refl, sym, ap, arith, ⊎_elim, if◌then◌else◌}
use Rattle.std.proofs.lemmas.Bool.{cases_Bool, eqb-true, eq-eqb, le-leb}
use Rattle.std.proofs.lemmas.Bool.Decides.{nat_tests}
use Rattle.cell_spans.specs.Bags.{without_one, without, IsPart}
use Rattle.cell_spans.proofs.CountLemmas.{count_first, count_yes, count_no, count_split}

-- a number that is there is taken out once
one_less : (test : ℕ → Bool) (number : ℕ) (xs : List ℕ) → 0 < count_by (nat_eq number) xs
    → count_by test (without_one number xs) + cond (test number) 1 0 ≡ count_by test xs
one_less test number [] some = absurd (omega arith)
one_less test number (x ∷ xs) some =
    ⊎_elim (λ (here : nat_eq number x ≡ true). let same : ◌≡◌ {A = ℕ} (cond (test number) 1 0) (cond (test x) 1 0) =
    ap (λ n. cond (test n) 1 0) (eqb-true _ _ here) in
    omega (arith, ap (λ b. count_by test (if b then xs else x ∷ without_one number xs)) here, same, count_first test x xs))
    (λ (not_here : nat_eq number x ≡ false).
    omega (
      arith,
      ap (λ b. count_by test (if b then xs else x ∷ without_one number xs)) not_here,
      count_first test x (without_one number xs),
      one_less test number xs (omega (arith, count_no (nat_eq number) x xs not_here, some)),
      count_first test x xs,
    )) (cases_Bool (nat_eq number x))

-- those that are left and those that were taken out are all
pub left_and_gone : (gone xs : List ℕ) → IsPart gone xs → (test : ℕ → Bool) → count_by test (without gone xs) + count_by test gone ≡ count_by test xs
left_and_gone [] xs part test = omega arith
left_and_gone (x ∷ gone) xs part test =
    let there : 0 < count_by (nat_eq x) xs = omega (arith, part x, count_yes (nat_eq x) x gone (eq-eqb x x refl)) in
    let rest : IsPart gone (without_one x xs) = λ number. omega (arith, part number, one_less (nat_eq number) x xs there, count_first (nat_eq number) x gone) in
    omega (arith, left_and_gone gone (without_one x xs) rest test, one_less test x xs there, count_first test x gone)

-- all are counted where all pass
pub all_counted : (xs : List ℕ) → count_by (λ x. true) xs ≡ length xs
all_counted [] = refl
all_counted (x ∷ xs) = omega (arith, count_yes (λ y. true) x xs refl, all_counted xs)

none_left : (xs : List ℕ) → length xs ≡ 0 → xs ≡ []
none_left [] none = refl
none_left (x ∷ xs) none = absurd (omega arith)

-- where as many were taken out as there were, none is left
pub spent : (gone xs : List ℕ) → IsPart gone xs → length xs ≡ length gone → without gone xs ≡ []
spent gone xs part same =
    none_left (without gone xs) (omega (arith, all_counted (without gone xs), all_counted gone, all_counted xs, left_and_gone gone xs part (λ x. true), same))

-- of one number: it is at most another exactly where it is below it or the same
at_most : (number x : ℕ) → cond (nat_le x number) 1 0 ≡ cond (nat_lt x number) 1 0 + cond (nat_eq number x) 1 0
at_most number x = grind (arith, nat_tests)

-- of several
pub counted_between : (number : ℕ) (xs : List ℕ) → count_by (λ x. nat_le x number) xs ≡ count_by (λ x. nat_lt x number) xs + count_by (nat_eq number) xs
counted_between number [] = refl
counted_between number (x ∷ xs) =
    omega (
      arith,
      at_most number x,
      counted_between number xs,
      count_first (λ y. nat_le y number) x xs,
      count_first (λ y. nat_lt y number) x xs,
      count_first (nat_eq number) x xs,
    )

below_next : (number x : ℕ) → ◌≡◌ {A = ℕ} (cond (nat_lt x (number + 1)) 1 0) (cond (nat_le x number) 1 0)
below_next number x = grind (arith, nat_tests)

pub counted_next : (number : ℕ) (xs : List ℕ) → count_by (λ x. nat_lt x (number + 1)) xs ≡ count_by (λ x. nat_le x number) xs
counted_next number [] = refl
counted_next number (x ∷ xs) =
    omega (
      arith,
      below_next number x,
      counted_next number xs,
      count_first (λ y. nat_lt y (number + 1)) x xs,
      count_first (λ y. nat_le y number) x xs,
    )

-- where no number is greater, all are counted
pub all_at_most : (number : ℕ) (xs : List ℕ) → ((k : ℕ) → k < length xs → slice_index_or xs k 0 ≤ number) → length xs ≡ count_by (λ x. nat_le x number) xs
all_at_most number xs all =
    count_split (λ x. nat_le x number) xs (length xs) (omega arith) (λ k inside. le-leb _ _ (all k inside)) (λ k low high. absurd (omega (arith, low, high)))

-- a number that is there more often than it was taken out may be taken out once more
pub one_more_gone : (number : ℕ) (gone more all : List ℕ) → IsPart gone all → count_by (nat_eq number) gone < count_by (nat_eq number) all
    → ((test : ℕ → Bool) → count_by test more ≡ count_by test gone + cond (test number) 1 0) → IsPart more all
one_more_gone number gone more all part there is n =
    ⊎_elim (λ (same : nat_eq n number ≡ true). let once : count_by (nat_eq n) more ≡ count_by (nat_eq n) gone + 1 = is (nat_eq n)
    ∙ ap (λ b. count_by (nat_eq n) gone + cond b 1 0) same in
    omega (arith, once, ap (λ k. count_by (nat_eq k) gone) (eqb-true _ _ same), ap (λ k. count_by (nat_eq k) all) (eqb-true _ _ same), there))
    (λ (other : nat_eq n number ≡ false). let not_once : count_by (nat_eq n) more ≡ count_by (nat_eq n) gone + 0 = is (nat_eq n)
    ∙ ap (λ b. count_by (nat_eq n) gone + cond b 1 0) other in
    omega (arith, not_once, part n)) (cases_Bool (nat_eq n number))

-- or may leave
pub one_less_there : (number : ℕ) (gone fewer all : List ℕ) → IsPart gone all → count_by (nat_eq number) gone < count_by (nat_eq number) all
    → ((test : ℕ → Bool) → count_by test fewer + cond (test number) 1 0 ≡ count_by test all) → IsPart gone fewer
one_less_there number gone fewer all part there is n =
    ⊎_elim (λ (same : nat_eq n number ≡ true). let once : count_by (nat_eq n) fewer + 1 ≡ count_by (nat_eq n) all =
    ap (λ b. count_by (nat_eq n) fewer + cond b 1 0) (sym same) ∙ is (nat_eq n) in
    omega (arith, once, ap (λ k. count_by (nat_eq k) gone) (eqb-true _ _ same), ap (λ k. count_by (nat_eq k) all) (eqb-true _ _ same), there))
    (λ (other : nat_eq n number ≡ false). let not_once : count_by (nat_eq n) fewer + 0 ≡ count_by (nat_eq n) all =
    ap (λ b. count_by (nat_eq n) fewer + cond b 1 0) (sym other) ∙ is (nat_eq n) in
    omega (arith, not_once, part n)) (cases_Bool (nat_eq n number))
