-- The first place that passes a test, along a list.
use Rattle.std.proofs.Common.{◌≡◌, ◌⊎◌, ℕ, suc, ◌+◌, ◌≤◌, ◌<◌, Bool, true, false, not, ◌||◌, List, [], ◌∷◌, length, get_or, map, position, cond, ltb, min}
use Rattle.std.proofs.Common.{Option, Some, None, option_map, refl, sym, ap, ◌∙◌, arith, inl, inr}
use Rattle.std.specs.List.{position_or_len}
use Rattle.std.proofs.lemmas.Bool.{cases_lt, cond-true, cond-false, lt-ltb, le-ltb}
use Rattle.match_lanes.specs.Waiting.{lower}
use Rattle.match_lanes.proofs.Places.{position_some}

-- the place n, where it is within
abbrev if_within : ℕ → ℕ → Option ℕ
if_within n len = cond (ltb n len) (Some n) None

within_is : (n len : ℕ) → n < len → if_within n len ≡ Some n
within_is n len h = cond-true (ltb n len) (Some n) None (lt-ltb n len h)

past_is : (n len : ℕ) → len ≤ n → if_within n len ≡ None
past_is n len h = cond-false (ltb n len) (Some n) None (le-ltb n len h)

if_within_suc : (n len : ℕ) → (n < len) ⊎ (len ≤ n) → if_within (suc n) (suc len) ≡ option_map suc (if_within n len)
if_within_suc n len (inl h) = within_is (suc n) (suc len) (omega arith) ∙ sym (ap (option_map suc) (within_is n len h))
if_within_suc n len (inr h) = past_is (suc n) (suc len) (omega arith) ∙ sym (ap (option_map suc) (past_is n len h))

one_more : (n : ℕ) → 1 + n ≡ suc n
one_more n = omega arith

-- the first place of a list with one item in front
pub position_cons : {X : Type 0} (p : X → Bool) (x : X) (xs : List X) → position p (x ∷ xs) ≡ cond (p x) (Some 0) (option_map suc (position p xs))
position_cons p x xs = by (p x) refl
  where
    by : (b : Bool) → p x ≡ b → position p (x ∷ xs) ≡ cond (p x) (Some 0) (option_map suc (position p xs))
    by true e =
        position_some p (x ∷ xs) 0 x (omega arith) e (λ k h. absurd (omega arith)) ∙ sym (cond-true (p x) (Some 0) (option_map suc (position p xs)) e)
    by false e =
        ap (λ (b : Bool). if_within (cond (not b) (1 + position_or_len p xs) 0) (suc (length xs))) e
        ∙ ap (λ (n : ℕ). if_within n (suc (length xs))) (one_more (position_or_len p xs))
        ∙ if_within_suc (position_or_len p xs) (length xs) (cases_lt (position_or_len p xs) (length xs))
        ∙ sym (cond-false (p x) (Some 0) (option_map suc (position p xs)) e)

-- where tests agree at each place, so do the first places that pass
pub position_by : {X Y : Type 0} (p : Y → Bool) (f : X → Y) (q : X → Bool) (xs : List X) (d : X)
    → ((k : ℕ) → k < length xs → p (f (get_or xs k d)) ≡ q (get_or xs k d)) → position p (map f xs) ≡ position q xs
position_by p f q [] d same = refl
position_by p f q (x ∷ xs) d same =
    let rest = position_by p f q xs d (λ k h. same (suc k) (omega arith)) in
    position_cons p (f x) (map f xs)
    ∙ ap (λ (b : Bool). cond b (Some 0) (option_map suc (position p (map f xs)))) (same 0 (omega arith))
    ∙ ap (λ (o : Option ℕ). cond (q x) (Some 0) (option_map suc o)) rest
    ∙ sym (position_cons q x xs)

lower_suc : (a b : Option ℕ) → option_map suc (lower a b) ≡ lower (option_map suc a) (option_map suc b)
lower_suc None b = refl
lower_suc (Some a) None = refl
lower_suc (Some a) (Some b) = let e : suc (min a b) ≡ min (suc a) (suc b) = omega arith in ap (λ (n : ℕ). Some n) e

lower_front : (b : Option ℕ) → lower (Some 0) b ≡ Some 0
lower_front None = refl
lower_front (Some b) = let e : min 0 b ≡ 0 = omega arith in ap (λ (n : ℕ). Some n) e

lower_back : (a : Option ℕ) → lower (option_map suc a) (Some 0) ≡ Some 0
lower_back None = refl
lower_back (Some a) = let e : min (suc a) 0 ≡ 0 = omega arith in ap (λ (n : ℕ). Some n) e

either : (b c : Bool) (m n : Option ℕ) → cond (b || c) (Some 0) (option_map suc (lower m n))
    ≡ lower (cond b (Some 0) (option_map suc m)) (cond c (Some 0) (option_map suc n))
either true c m n = sym (lower_front (cond c (Some 0) (option_map suc n)))
either false true m n = sym (lower_back m)
either false false m n = lower_suc m n

-- the first place that passes one of two tests is the lower of the first places that pass each
pub lower_first : {X : Type 0} (p q : X → Bool) (xs : List X) → position (λ x. p x || q x) xs ≡ lower (position p xs) (position q xs)
lower_first p q [] = refl
lower_first p q (x ∷ xs) =
    position_cons (λ x. p x || q x) x xs
    ∙ ap (λ (o : Option ℕ). cond (p x || q x) (Some 0) (option_map suc o)) (lower_first p q xs)
    ∙ either (p x) (q x) (position p xs) (position q xs)
    ∙ sym (ap (λ (o : Option ℕ). lower o (position q (x ∷ xs))) (position_cons p x xs)
    ∙ ap (λ (o : Option ℕ). lower (cond (p x) (Some 0) (option_map suc (position p xs))) o) (position_cons q x xs))

-- the first place of four
pub lower_four : {X : Type 0} (p q r s : X → Bool) (xs : List X) (a b c d : Option ℕ) → a ≡ position p xs → b ≡ position q xs → c ≡ position r xs
    → d ≡ position s xs → lower (lower a b) (lower c d) ≡ position (λ x. (p x || q x) || (r x || s x)) xs
lower_four p q r s xs a b c d a_is b_is c_is d_is =
    ap (λ (o : Option ℕ). lower (lower o b) (lower c d)) a_is
    ∙ ap (λ (o : Option ℕ). lower (lower (position p xs) o) (lower c d)) b_is
    ∙ ap (λ (o : Option ℕ). lower (lower (position p xs) (position q xs)) (lower o d)) c_is
    ∙ ap (λ (o : Option ℕ). lower (lower (position p xs) (position q xs)) (lower (position r xs) o)) d_is
    ∙ ap (λ (o : Option ℕ). lower o (lower (position r xs) (position s xs))) (sym (lower_first p q xs))
    ∙ ap (λ (o : Option ℕ). lower (position (λ x. p x || q x) xs) o) (sym (lower_first r s xs))
    ∙ sym (lower_first (λ x. p x || q x) (λ x. r x || s x) xs)
