-- Lists of places: how long one of places that differ can be, and what a place that is taken leaves.
use native.Mathlib.Decide.{dec_le}
use Rattle.std.proofs.Common.{◌≡◌, ℕ, suc, zero, ◌+◌, ◌-◌, ◌<◌, ◌≤◌, ◌≢◌, ◌==◌, Bool, List, [], ◌∷◌, ◌++◌, map, length, take, drop, sym, refl, ap}
use Rattle.std.proofs.Common.{◌∙◌, subst, arith, if◌then◌else◌, eq-eqb, ne_eqb, get_or}
use Rattle.std.specs.Prelude.{Option, Some, None, slice_get}
use mathlib.Core.Logic.{dite}
use native.Mathlib.Decide.{ℕ_discrete}
use Rattle.meetings.specs.Meetings.{one, times}
use Rattle.meetings.proofs.Counts.{one_same, one_else, times-append}
use Rattle.meet_hall.specs.Places.{without, AreSpread}

-- how often all places below k stand in the list
together : ℕ → List ℕ → ℕ
together zero l = 0
together (suc k) l = times k l + together k l

together-empty : (k : ℕ) → together k [] ≡ 0
unfolding together
together-empty zero = refl
together-empty (suc k) = let a = together-empty k in omega arith

together_above : (k p : ℕ) (l : List ℕ) → k ≤ p → together k (p ∷ l) ≡ together k l
unfolding together
together_above zero p l h = refl
together_above (suc k) p l h =
    let a = together_above k p l (omega arith) in
    let b : one (p == k) ≡ 0 = one_else p k (λ e. omega arith) in
    omega arith

together_in : (k p : ℕ) (l : List ℕ) → p < k → together k (p ∷ l) ≡ together k l + 1
unfolding together
together_in zero p l h = absurd (omega arith)
together_in (suc k) p l h = dite (ℕ_discrete p k)
    (λ e.
    let a = together_above k p l (omega arith) in
    let b : one (p == k) ≡ 1 = one_same p k e in
    omega arith)
    (λ n.
    let a = together_in k p l (omega arith) in
    let b : one (p == k) ≡ 0 = one_else p k n in
    omega arith)

-- a list of places below k is as long as they stand in it together
length_together : (k : ℕ) (l : List ℕ) → ((p : ℕ) → k ≤ p → times p l ≡ 0) → length l ≡ together k l
length_together k [] none = sym (together-empty k)
length_together k (q ∷ l) none =
    let below : q < k = dite (dec_le k q) (λ le. let a : one (q == q) ≡ 1 = one_same q q refl in let b = none q le in absurd (omega arith))
    (λ n. omega arith) in
    let a = length_together k l (λ p le. let b = none p le in omega arith) in
    let b = together_in k q l below in
    omega arith

together_most : (k : ℕ) (l : List ℕ) → ((p : ℕ) → times p l ≤ 1) → together k l ≤ k
unfolding together
together_most zero l h = omega arith
together_most (suc k) l h = let a = together_most k l h in let b = h k in omega arith

together_less : (k p : ℕ) (l : List ℕ) → ((q : ℕ) → times q l ≤ 1) → p < k → times p l ≡ 0 → together k l < k
unfolding together
together_less zero p l h below none = absurd (omega arith)
together_less (suc k) p l h below none = dite (ℕ_discrete p k)
    (λ e. let a = together_most k l h in let b : times k l ≡ times p l = ap (λ q. times q l) (sym e) in omega arith)
    (λ n. let a = together_less k p l h (omega arith) none in let b = h k in omega arith)

-- a list in which each place below k stands at most once, and this one not at all, is shorter than k
pub spread_shorter : (k p : ℕ) (l : List ℕ) → AreSpread k l → p < k → times p l ≡ 0 → length l < k
spread_shorter k p l spread below none =
    let a = length_together k l spread.1 in
    let b = together_less k p l spread.0 below none in
    omega arith

pub spread_added : (k p : ℕ) (l : List ℕ) → AreSpread k l → p < k → times p l ≡ 0 → AreSpread k (l ++ p ∷ [])
spread_added k p l spread below none = (
  (λ q.
      let a = times-append q l (p ∷ []) in
      dite (ℕ_discrete p q)
      (λ e. let b : one (p == q) ≡ 1 = one_same p q e in let c : times q l ≡ times p l = ap (λ r. times r l) (sym e) in omega arith)
      (λ n. let b : one (p == q) ≡ 0 = one_else p q n in let c = spread.0 q in omega arith)),
  (λ q le.
      let a = times-append q l (p ∷ []) in
      let b : one (p == q) ≡ 0 = one_else p q (λ e. omega arith) in
      let c = spread.1 q le in
      omega arith),
)

pub times-without : (p q : ℕ) (l : List ℕ) → 0 < times p l → times q (without p l) + one (p == q) ≡ times q l
times-without p q [] h = absurd (omega arith)
times-without p q (r ∷ l) h = dite (ℕ_discrete r p)
    (λ e.
    let a : without p (r ∷ l) ≡ l = ap (λ b. if b then l else r ∷ without p l) (eq-eqb r p e) in
    let b : times q (without p (r ∷ l)) ≡ times q l = ap (times q) a in
    let c : one (r == q) ≡ one (p == q) = ap (λ k. one (k == q)) e in
    omega arith)
    (λ n.
    let a : without p (r ∷ l) ≡ r ∷ without p l = ap (λ b. if b then l else r ∷ without p l) (ne_eqb r p n) in
    let b : times q (without p (r ∷ l)) ≡ one (r == q) + times q (without p l) = ap (times q) a in
    let c : one (r == p) ≡ 0 = one_else r p n in
    let d = times-without p q l (omega arith) in
    omega arith)

-- where a place stands first, the list without it is what stands before and behind
pub without_at : (l : List ℕ) (i p : ℕ) → i < length l → get_or l i 0 ≡ p → ((k : ℕ) → k < i → get_or l k 0 ≢ p) → take i l ++ drop (suc i) l ≡ without p l
without_at [] i p below at none = absurd (omega arith)
without_at (x ∷ l) zero p below at none = ap (λ b. if b then l else x ∷ without p l) (sym (eq-eqb x p at))
without_at (x ∷ l) (suc i) p below at none =
    let tail = without_at l i p (omega arith) at (λ k h. none (suc k) (omega arith)) in
    ap (λ m. x ∷ m) tail ∙ ap (λ b. if b then l else x ∷ without p l) (sym (ne_eqb x p (none 0 (omega arith))))

-- a place that is not among the first i, and stands in the list, is found further on
pub further_on : (l : List ℕ) (i p : ℕ) → 0 < times p l → ((k : ℕ) → k < i → get_or l k 0 ≢ p) → i < length l
further_on [] i p h none = absurd (omega arith)
further_on (x ∷ l) zero p h none = omega arith
further_on (x ∷ l) (suc i) p h none =
    let a : one (x == p) ≡ 0 = one_else x p (none 0 (omega arith)) in
    let b = further_on l i p (omega arith) (λ k q. none (suc k) (omega arith)) in
    omega arith

pub issued_there : (l : List ℕ) (p : ℕ) → slice_get l 0 ≡ Some p → 0 < times p l
issued_there [] p h = absurd (let e : None ≡ Some p = h in cc)
issued_there (x ∷ l) p h = let e : x ≡ p = cc in let a : one (x == p) ≡ 1 = one_same x p e in omega arith

pub issued_none : (l : List ℕ) → slice_get l 0 ≡ None → l ≡ []
issued_none [] h = refl
issued_none (x ∷ l) h = absurd (cc)

pub without_shorter : (p : ℕ) (l : List ℕ) → 0 < times p l → length (without p l) + 1 ≡ length l
without_shorter p [] h = absurd (omega arith)
without_shorter p (x ∷ l) h = dite (ℕ_discrete x p)
    (λ e.
    let a : length (without p (x ∷ l)) ≡ length l = ap (λ (b : Bool). length (if b then l else x ∷ without p l)) (eq-eqb x p e) in
    omega arith)
    (λ n.
    let a : length (without p (x ∷ l)) ≡ length (x ∷ without p l) = ap (λ (b : Bool). length (if b then l else x ∷ without p l)) (ne_eqb x p n) in
    let b : one (x == p) ≡ 0 = one_else x p n in
    let c = without_shorter p l (omega arith) in
    omega arith)

take_all : (l : List ℕ) → take (length l) l ≡ l
take_all [] = refl
take_all (x ∷ l) = ap (λ m. x ∷ m) (take_all l)

-- an element that is removed behind the first t is removed from what is left without them
pub drop_removed : (l : List ℕ) (t a j : ℕ) → j ≡ t + a → drop t (take j l ++ drop (suc j) l) ≡ take a (drop t l) ++ drop (suc a) (drop t l)
drop_removed l zero a j e = ap (λ i. take i l ++ drop (suc i) l) (let h : j ≡ a = omega arith in h)
drop_removed [] (suc t) a zero e = absurd (omega arith)
drop_removed [] (suc t) zero (suc j) e = refl
drop_removed [] (suc t) (suc a) (suc j) e = refl
drop_removed (x ∷ l) (suc t) a zero e = absurd (omega arith)
drop_removed (x ∷ l) (suc t) a (suc j) e = drop_removed l t a j (omega arith)

take_none : (n : ℕ) → let l : List ℕ = [] in take n l ≡ l
take_none zero = refl
take_none (suc n) = refl

-- the part of a list from the t-th on, as it is read
pub from_there : (l : List ℕ) (t : ℕ) → take (length l - t) (drop t l) ≡ drop t l
from_there l zero = ap (λ n. take n l) (let h : length l - 0 ≡ length l = omega arith in h) ∙ take_all l
from_there [] (suc t) = take_none (0 - suc t)
from_there (x ∷ l) (suc t) = ap (λ n. take n (drop t l)) (let h : suc (length l) - suc t ≡ length l - t = omega arith in h) ∙ from_there l t

-- a place that is removed of what is left behind the first t
pub without_behind : (l : List ℕ) (t a p : ℕ)
    → take a (take (length l - t) (drop t l)) ++ drop (a + 1) (take (length l - t) (drop t l)) ≡ without p (take (length l - t) (drop t l))
    → drop t (take (t + a) l ++ drop (suc (t + a)) l) ≡ without p (drop t l)
without_behind l t a p h =
    drop_removed l t a (t + a) refl
    ∙ ap (λ i. take a (drop t l) ++ drop i (drop t l)) (let e : suc a ≡ a + 1 = omega arith in e)
    ∙ subst (λ m. take a m ++ drop (a + 1) m ≡ without p m) (from_there l t) h

-- the last element of a list whose image has one element
pub of_one : {A B : Type 0} (f : A → B) (l : List A) (a : A) (b : B) → map f (l ++ a ∷ []) ≡ b ∷ [] → f a ≡ b
of_one f [] a b e = cc
of_one f (x ∷ []) a b e = absurd (let n : 2 ≡ 1 = ap length e in omega arith)
of_one f (x ∷ y ∷ l) a b e = absurd (let n : suc (suc (length (map f (l ++ a ∷ [])))) ≡ 1 = ap length e in omega arith)
