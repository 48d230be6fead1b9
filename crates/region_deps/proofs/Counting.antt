-- Counts of a list: by a test that fails everywhere, by two tests that agree, and by a test that two others share out.
use Rattle.std.proofs.Common.{◌≡◌, ℕ, ◌+◌, ◌-◌, ◌<◌, ◌≤◌, Bool, false, cond, List, [], ◌∷◌, length, get_or, take, drop, refl, ap, ◌∙◌, arith}
use Rattle.std.specs.List.{All, count_by}
use Rattle.std.proofs.lemmas.List.Elements.{All-head, All-tail}
use Rattle.std.proofs.lemmas.List.Sums.{sum_by-cons, sum_by-take-drop}
use Rattle.std.proofs.lemmas.List.{get_or-take, get_or-drop, length-drop, length-take}

pub count_none : {X : Type 0} (p : X → Bool) (xs : List X) → All (λ x. p x ≡ false) xs → count_by p xs ≡ 0
count_none p [] each = refl
count_none p (x ∷ xs) each =
    let here : p x ≡ false = All-head (λ y. p y ≡ false) x xs each in
    let later = count_none p xs (All-tail (λ y. p y ≡ false) x xs each) in
    omega (arith, sum_by-cons (λ y. cond (p y) 1 0) x xs, ap {B = ℕ} (λ (b : Bool). cond b 1 0) here, later)

pub count_same : {X : Type 0} (p q : X → Bool) (xs : List X) → All (λ x. p x ≡ q x) xs → count_by p xs ≡ count_by q xs
count_same p q [] each = refl
count_same p q (x ∷ xs) each =
    let here : p x ≡ q x = All-head (λ y. p y ≡ q y) x xs each in
    let later = count_same p q xs (All-tail (λ y. p y ≡ q y) x xs each) in
    omega (arith, sum_by-cons (λ y. cond (p y) 1 0) x xs, sum_by-cons (λ y. cond (q y) 1 0) x xs, ap {B = ℕ} (λ (b : Bool). cond b 1 0) here, later)

pub count_sum : {X : Type 0} (p q r : X → Bool) (xs : List X) → ((x : X) → cond (p x) 1 0 ≡ cond (q x) 1 0 + cond (r x) 1 0)
    → count_by p xs ≡ count_by q xs + count_by r xs
count_sum p q r [] each = refl
count_sum p q r (x ∷ xs) each =
    omega (
      arith,
      sum_by-cons (λ y. cond (p y) 1 0) x xs,
      sum_by-cons (λ y. cond (q y) 1 0) x xs,
      sum_by-cons (λ y. cond (r y) 1 0) x xs,
      each x,
      count_sum p q r xs each,
    )

-- where only a part in the middle passes the one test, and passes it as the other one, the part's count is that of the whole
pub count_middle : {X : Type 0} (p q : X → Bool) (xs : List X) (from to : ℕ) → from ≤ to → to ≤ length xs →
    ((k : ℕ) (d : X) → k < from → q (get_or xs k d) ≡ false) → ((k : ℕ) (d : X) → to ≤ k → k < length xs → q (get_or xs k d) ≡ false) →
    ((k : ℕ) (d : X) → from ≤ k → k < to → p (get_or xs k d) ≡ q (get_or xs k d)) → count_by p (take (to - from) (drop from xs)) ≡ count_by q xs
count_middle p q xs from to order inside before behind same =
    let first = sum_by-take-drop (λ x. cond (q x) 1 0) xs from in
    let second = sum_by-take-drop (λ x. cond (q x) 1 0) (drop from xs) (to - from) in
    let lead = count_none q (take from xs) (λ k d lt. let within : k < from = omega (arith, length-take from xs) in
    rw (get_or-take from xs k d within) (before k d within)) in
    let tail = count_none q (drop (to - from) (drop from xs)) (λ k d lt.
    let long = length-drop (to - from) (drop from xs) in
    let long' = length-drop from xs in
    let at = get_or-drop (to - from) (drop from xs) k d ∙ get_or-drop from xs ((to - from) + k) d in
    rw at (behind (from + ((to - from) + k)) d (omega arith) (omega arith))) in
    let middle = count_same p q (take (to - from) (drop from xs)) (λ k d lt.
    let within : k < to - from = omega (arith, length-take (to - from) (drop from xs)) in
    let at = get_or-take (to - from) (drop from xs) k d within ∙ get_or-drop from xs k d in
    rw at (same (from + k) d (omega arith) (omega arith))) in
    omega (arith, first, second, lead, tail, middle)
