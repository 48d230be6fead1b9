-- Sums over a list of which one element is looked at or changed.
use Rattle.std.proofs.Common.{◌≡◌, ◌≢◌, ℕ, zero, suc, ◌+◌, ◌*◌, ◌≤◌, Bool, true, false, cond, List, [], ◌∷◌, length, set, sym, refl, ap, ◌∙◌, arith}
use Rattle.std.proofs.Common.{mul-add, mul-one, mul-zero}
use Rattle.std.specs.List.{sum_by, count_by, All, flat_map}
use Rattle.std.proofs.lemmas.List.Sums.{sum_by-cons, sum_by-append, sum_by-le-sum_by}
use mathlib.Core.Option.{some, some-injective, some-ne-none}
use lib.ListN.{get_elem?}

module _ {A : Type 0} where
  -- one element is changed
  pub sum_by_set : (f : A → ℕ) (xs : List A) (i : ℕ) (v w : A) → get_elem? xs i ≡ some v → sum_by f (set xs i w) + f v ≡ sum_by f xs + f w
  sum_by_set f [] i v w at = absurd (some-ne-none v (sym at))
  sum_by_set f (x ∷ xs) zero v w at =
      let same : f x ≡ f v = ap f (some-injective x v at) in
      omega (arith, same, sum_by-cons f x xs, sum_by-cons f w xs)
  sum_by_set f (x ∷ xs) (suc i) v w at =
      omega (arith, sum_by_set f xs i v w at, sum_by-cons f x xs, sum_by-cons f x (set xs i w))

  -- one element is within the sum
  pub one_within : (f : A → ℕ) (xs : List A) (i : ℕ) (v : A) → get_elem? xs i ≡ some v → f v ≤ sum_by f xs
  one_within f [] i v at = absurd (some-ne-none v (sym at))
  one_within f (x ∷ xs) zero v at =
      let same : f x ≡ f v = ap f (some-injective x v at) in
      omega (arith, same, sum_by-cons f x xs)
  one_within f (x ∷ xs) (suc i) v at = omega (arith, one_within f xs i v at, sum_by-cons f x xs)

  -- and so are two
  pub two_within : (f : A → ℕ) (xs : List A) (i j : ℕ) (v w : A) → i ≢ j → get_elem? xs i ≡ some v → get_elem? xs j ≡ some w → f v + f w ≤ sum_by f xs
  two_within f [] i j v w apart at also = absurd (some-ne-none v (sym at))
  two_within f (x ∷ xs) zero zero v w apart at also = absurd (apart refl)
  two_within f (x ∷ xs) zero (suc j) v w apart at also =
      let same : f x ≡ f v = ap f (some-injective x v at) in
      omega (arith, same, one_within f xs j w also, sum_by-cons f x xs)
  two_within f (x ∷ xs) (suc i) zero v w apart at also =
      let same : f x ≡ f w = ap f (some-injective x w also) in
      omega (arith, same, one_within f xs i v at, sum_by-cons f x xs)
  two_within f (x ∷ xs) (suc i) (suc j) v w apart at also =
      omega (arith, two_within f xs i j v w (λ e. apart (ap suc e)) at also, sum_by-cons f x xs)

  -- where one element has the whole of a sum, it has the whole of each smaller one
  pub whole_of : (f g : A → ℕ) → ((x : A) → f x ≤ g x) → (xs : List A) (i : ℕ) (v : A) → get_elem? xs i ≡ some v → g v ≡ sum_by g xs → f v ≡ sum_by f xs
  whole_of f g less [] i v at whole = absurd (some-ne-none v (sym at))
  whole_of f g less (x ∷ xs) zero v at whole =
      let same : f x ≡ f v = ap f (some-injective x v at) in
      let same_g : g x ≡ g v = ap g (some-injective x v at) in
      omega (arith, same, same_g, whole, sum_by-cons f x xs, sum_by-cons g x xs, sum_by-le-sum_by f g xs less)
  whole_of f g less (x ∷ xs) (suc i) v at whole =
      let within = one_within g xs i v at in
      let rest : g v ≡ sum_by g xs = omega (arith, within, whole, sum_by-cons g x xs) in
      let none : f x ≤ g x = less x in
      omega (arith, whole_of f g less xs i v at rest, none, rest, whole, sum_by-cons f x xs, sum_by-cons g x xs)

  -- the sum of sums
  pub sum_by-add : (f g : A → ℕ) (xs : List A) → sum_by (λ x. f x + g x) xs ≡ sum_by f xs + sum_by g xs
  sum_by-add f g [] = omega arith
  sum_by-add f g (x ∷ xs) = omega (arith, sum_by-add f g xs, sum_by-cons f x xs, sum_by-cons g x xs, sum_by-cons (λ y. f y + g y) x xs)

  pub sum_by-same : (f g : A → ℕ) (xs : List A) → All (λ x. f x ≡ g x) xs → sum_by f xs ≡ sum_by g xs
  sum_by-same f g [] same = refl
  sum_by-same f g (x ∷ xs) same =
      let here : f x ≡ g x = same 0 x (omega arith) in
      let rest : All (λ y. f y ≡ g y) xs = λ k d lt. same (suc k) d (omega arith) in
      omega (arith, here, sum_by-same f g xs rest, sum_by-cons f x xs, sum_by-cons g x xs)

  -- a number for each element that passes
  pub weighed : (n : ℕ) (test : A → Bool) (xs : List A) → sum_by (λ x. cond (test x) n 0) xs ≡ n * count_by test xs
  weighed n test [] = sym (mul-zero n)
  weighed n test (x ∷ xs) =
      let step : (b : Bool) → cond b n 0 + n * count_by test xs ≡ n * (cond b 1 0 + count_by test xs) =
      elim [ true ↦ omega (arith, mul-add n 1 (count_by test xs), mul-one n) | false ↦ omega (arith, mul-add n 0 (count_by test xs), mul-zero n) ] in
      sum_by-cons (λ y. cond (test y) n 0) x xs ∙ ap (λ (m : ℕ). cond (test x) n 0 + m) (weighed n test xs) ∙ step (test x)
      ∙ ap (λ (m : ℕ). n * m) (sym (sum_by-cons (λ y. cond (test y) 1 0) x xs))

  pub count_all : (xs : List A) → count_by (λ _. true) xs ≡ length xs
  count_all [] = refl
  count_all (x ∷ xs) = omega (arith, count_all xs, sum_by-cons (λ (_ : A). 1) x xs)

  pub count_one : (test : A → Bool) (x : A) → count_by test (x ∷ []) ≡ cond (test x) 1 0
  count_one test x = omega (arith, sum_by-cons (λ y. cond (test y) 1 0) x [])

  pub count-flat_map : {B : Type 0} (test : B → Bool) (f : A → List B) (xs : List A) → count_by test (flat_map f xs) ≡ sum_by (λ x. count_by test (f x)) xs
  count-flat_map test f [] = refl
  count-flat_map test f (x ∷ xs) = sum_by-append (λ y. cond (test y) 1 0) (f x) (flat_map f xs)
      ∙ ap (λ (n : ℕ). count_by test (f x) + n) (count-flat_map test f xs) ∙ sym (sum_by-cons (λ y. count_by test (f y)) x xs)

  -- an element that no one counts fails the test
  pub none_counts : (test : A → Bool) (x : A) (xs : List A) → count_by test (x ∷ xs) ≡ 0 → (test x ≡ false) × (count_by test xs ≡ 0)
  none_counts test x xs none =
      let step : (b : Bool) → cond b 1 0 + count_by test xs ≡ 0 → (b ≡ false) × (count_by test xs ≡ 0) =
      elim [ true ↦ λ e. absurd (omega arith) | false ↦ λ e. (refl, omega arith) ] in
      step (test x) (sym (sum_by-cons (λ y. cond (test y) 1 0) x xs) ∙ none)
