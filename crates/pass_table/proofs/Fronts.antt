-- Fronts of one list, and how often a caller stands in them.
use Rattle.std.proofs.Common.{◌≡◌, ℕ, ◌+◌, ◌≤◌, Bool, true, false, ◌⊎◌, inl, inr, if◌then◌else◌, nat_le, List, [], ◌∷◌, ◌++◌, length}
use Rattle.std.proofs.Common.{refl, ap, sym, ◌∙◌, arith, append_assoc, length-append, eq-eqb}
use Rattle.std.proofs.lemmas.Bool.Decides.{nat_tests}
use mathlib.Core.List.{IsPrefix}
use Rattle.pass_table.specs.Passes.{times, longer}
use Rattle.pass_table.specs.Laws.{FrontsAreOfOneList}

module _ {A : Type 0} where
  -- the empty list is a front of every list
  pub prefix_nil : (xs : List A) → IsPrefix [] xs
  prefix_nil xs = (xs, refl)

  -- every list is a front of itself
  pub prefix_self : (xs : List A) → IsPrefix xs xs
  prefix_self [] = ([], refl)
  prefix_self (x ∷ xs) = ((prefix_self xs).0, ap (λ ys. x ∷ ys) (prefix_self xs).1)

  -- a front of a front is a front
  pub prefix_trans : (xs ys zs : List A) → IsPrefix xs ys → IsPrefix ys zs → IsPrefix xs zs
  prefix_trans xs ys zs p q = (p.0 ++ q.0, sym (append_assoc xs p.0 q.0) ∙ (ap (λ w. w ++ q.0) p.1 ∙ q.1))

  -- a list is a front of itself with more behind it
  pub prefix_more : (xs ys zs : List A) → IsPrefix xs ys → IsPrefix xs (ys ++ zs)
  prefix_more xs ys zs p = prefix_trans xs ys (ys ++ zs) p (zs, refl)

  -- of two fronts of one list the shorter is a front of the longer
  pub prefix_shorter : (xs ys zs : List A) → IsPrefix xs zs → IsPrefix ys zs → length xs ≤ length ys → IsPrefix xs ys
  prefix_shorter [] ys zs p q le = (ys, refl)
  prefix_shorter (x ∷ xs) [] zs p q le = absurd (omega arith)
  prefix_shorter (x ∷ xs) (y ∷ ys) [] p q le = absurd (cc (p.1))
  prefix_shorter (x ∷ xs) (y ∷ ys) (z ∷ zs) p q le =
      let heads : x ≡ y = cc (p.1, q.1) in
      let rest = prefix_shorter xs ys zs (p.0, cc (p.1)) (q.0, cc (q.1)) (omega arith) in
      (rest.0, cc (heads, rest.1))

  -- of two fronts of one list one is a front of the other
  pub either_front : (xs ys zs : List A) → IsPrefix xs zs → IsPrefix ys zs → IsPrefix xs ys ⊎ IsPrefix ys xs
  either_front [] ys zs p q = inl (ys, refl)
  either_front (x ∷ xs) [] zs p q = inr (x ∷ xs, refl)
  either_front (x ∷ xs) (y ∷ ys) [] p q = absurd (cc (p.1))
  either_front (x ∷ xs) (y ∷ ys) (z ∷ zs) p q =
      let heads : x ≡ y = cc (p.1, q.1) in
      elim (either_front xs ys zs (p.0, cc (p.1)) (q.0, cc (q.1))) [
        | inl first ↦ inl (first.0, cc (heads, first.1))
        | inr second ↦ inr (second.0, cc (heads, second.1))
      ]

  -- a front is no longer than the whole
  pub prefix_length : (xs ys : List A) → IsPrefix xs ys → length xs ≤ length ys
  prefix_length xs ys p = omega (arith, sym (ap length p.1) ∙ length-append xs p.0)

-- how often a caller stands in two lists, one behind the other
pub times-append : (caller : ℕ) (xs ys : List (ℕ × ℕ)) → times caller (xs ++ ys) ≡ times caller xs + times caller ys
times-append caller [] ys = omega arith
times-append caller (x ∷ xs) ys = omega (arith, times-append caller xs ys)

-- once more with a pair of its own behind
pub times-own : (caller what : ℕ) (xs : List (ℕ × ℕ)) → times caller (xs ++ (caller, what) ∷ []) ≡ times caller xs + 1
times-own caller what xs =
    let once : times caller ((caller, what) ∷ []) ≡ 1 = rw (eq-eqb caller caller refl) (omega arith) in
    omega (arith, times-append caller xs ((caller, what) ∷ []), once)

-- a caller stands in a front no more often than in the whole
pub times-prefix : (caller : ℕ) (xs ys : List (ℕ × ℕ)) → IsPrefix xs ys → times caller xs ≤ times caller ys
times-prefix caller xs ys p = omega (arith, ap (times caller) p.1, times-append caller xs p.0)

-- the longer of two fronts of one list begins with the first
pub longer_first : (xs ys zs : List (ℕ × ℕ)) → IsPrefix xs zs → IsPrefix ys zs → IsPrefix xs (longer xs ys)
longer_first xs ys zs p q = by_test (nat_le (length ys) (length xs)) refl where
  by_test : (b : Bool) → nat_le (length ys) (length xs) ≡ b → IsPrefix xs (if b then xs else ys)
  by_test true test = prefix_self xs
  by_test false test = prefix_shorter xs ys zs p q (grind (arith, nat_tests))

-- and with the second
pub longer_second : (xs ys zs : List (ℕ × ℕ)) → IsPrefix xs zs → IsPrefix ys zs → IsPrefix ys (longer xs ys)
longer_second xs ys zs p q = by_test (nat_le (length ys) (length xs)) refl where
  by_test : (b : Bool) → nat_le (length ys) (length xs) ≡ b → IsPrefix ys (if b then xs else ys)
  by_test true test = prefix_shorter ys xs zs q p (grind (arith, nat_tests))
  by_test false test = prefix_self ys

-- and is itself a front of that list
pub longer_within : (xs ys zs : List (ℕ × ℕ)) → IsPrefix xs zs → IsPrefix ys zs → IsPrefix (longer xs ys) zs
longer_within xs ys zs p q = by_test (nat_le (length ys) (length xs)) where
  by_test : (b : Bool) → IsPrefix (if b then xs else ys) zs
  by_test true = p
  by_test false = q

-- where the second is no longer, it is the first
pub longer_is_first : (xs ys : List (ℕ × ℕ)) → length ys ≤ length xs → longer xs ys ≡ xs
longer_is_first xs ys le = by_test (nat_le (length ys) (length xs)) refl where
  by_test : (b : Bool) → nat_le (length ys) (length xs) ≡ b → (if b then xs else ys) ≡ xs
  by_test true test = refl
  by_test false test = absurd (grind (arith, nat_tests))

pub of_one_list : FrontsAreOfOneList
of_one_list one other whole = either_front one other whole
