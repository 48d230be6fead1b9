-- How many pairs of each number a sound list has, and so how long it is.
use Rattle.std.proofs.Common.{◌≡◌, ◌≢◌, ℕ, zero, suc, ◌+◌, ◌^◌, ◌<◌, ◌≤◌, Bool, true, false, cond, List, [], ◌∷◌, ◌++◌, length, ◌⊎◌, inl, inr, refl, sym}
use Rattle.std.proofs.Common.{subst, arith, append_assoc}
use Rattle.std.proofs.Common.{eq-eqb, ne_eqb, eqb-true, lt-ltb, ltb-true, ltb-false, le-ltb, add-one}
use Rattle.std.specs.Prelude.{nat_eq, nat_lt}
use Rattle.std.proofs.lemmas.List.{append-nil}
use Rattle.rt_base.specs.declared.data.Program.{Program}
use Rattle.shared_lists.specs.Deeds.{Offer, Look, Stop, Nothing, deed, moves, how_many, looks, look_number, stop_number}
use Rattle.shared_lists.specs.Sound.{MayDo, IsSoundAfter, IsSound}
use Rattle.shared_lists.specs.Laws.{SoundListsHaveFew}
use Rattle.shared_lists.proofs.Pairs.{how_many-own, how_many-else}

-- ---- which number stands for what

pub deed_offer : (n t : ℕ) → t < n → deed n (t + 1) ≡ Offer t
deed_offer n t exists = rw (add-one t) (rw (lt-ltb t n exists) refl)

pub deed_look : (n : ℕ) → deed n (n + 1) ≡ Look
deed_look n = rw (add-one n) (rw (le-ltb n n (omega arith), eq-eqb n n refl) refl)

pub deed_stop : (n : ℕ) → deed n (n + 2) ≡ Stop
deed_stop n =
    let next : n + 2 ≡ suc (n + 1) = omega arith in
    rw (next, le-ltb (n + 1) n (omega arith), ne_eqb (n + 1) n (λ e. absurd (omega (arith, e))), eq-eqb (n + 1) (n + 1) refl) refl

-- a number that stands for something is at most that of a stop
known : (p : Program) (w : ℕ) (before : List (ℕ × ℕ)) (c number : ℕ) → MayDo p w before c (deed (length p.tasks.items) number)
    → number ≤ stop_number p
known p w before c zero may = omega arith
known p w before c (suc t) may = by_task (nat_lt t n) refl may where
  n : ℕ
  n = length p.tasks.items

  by_stop : (b : Bool) → nat_eq t (n + 1) ≡ b → MayDo p w before c (cond b Stop Nothing) → suc t ≤ n + 2
  by_stop true test may = omega (arith, eqb-true t (n + 1) test)
  by_stop false test may = absurd may

  by_look : (b : Bool) → nat_eq t n ≡ b → MayDo p w before c (cond b Look (cond (nat_eq t (n + 1)) Stop Nothing)) → suc t ≤ n + 2
  by_look true test may = omega (arith, eqb-true t n test)
  by_look false test may = by_stop (nat_eq t (n + 1)) refl may

  by_task : (b : Bool) → nat_lt t n ≡ b → MayDo p w before c (cond b (Offer t) (cond (nat_eq t n) Look (cond (nat_eq t (n + 1)) Stop Nothing))) → suc t ≤ n + 2
  by_task true test may = omega (arith, ltb-true t n test)
  by_task false test may = by_look (nat_eq t n) refl may

-- ---- a number that may come only while there are fewer than so many comes so often at most

abbrev IsLimited : Program → ℕ → ℕ → ℕ → Type 0
IsLimited p w number most =
    (before : List (ℕ × ℕ)) (c : ℕ) → MayDo p w before c (deed (length p.tasks.items) number) → how_many number before < most

one_more : (p : Program) (w number most : ℕ) (before : List (ℕ × ℕ)) (c m : ℕ) → IsLimited p w number most
    → MayDo p w before c (deed (length p.tasks.items) m) → how_many number before ≤ most → how_many number (before ++ (c, m) ∷ []) ≤ most
one_more p w number most before c m limit may few = by_test (nat_eq m number) refl where
  by_test : (b : Bool) → nat_eq m number ≡ b → how_many number (before ++ (c, m) ∷ []) ≤ most
  by_test true test =
      let same = eqb-true m number test in
      let below = limit before c (subst (λ (k : ℕ). MayDo p w before c (deed (length p.tasks.items) k)) same may) in
      subst (λ (k : ℕ). how_many number (before ++ (c, k) ∷ []) ≤ most) (sym same) (omega (arith, how_many-own number c before, below))
  by_test false test = omega (arith, how_many-else number c m before (λ e. absurd (cc (test, eq-eqb m number e))), few)

few_after : (p : Program) (w number most : ℕ) → IsLimited p w number most → (before pairs : List (ℕ × ℕ)) → IsSoundAfter p w before pairs
    → how_many number before ≤ most → how_many number (before ++ pairs) ≤ most
few_after p w number most limit before [] sound few = subst (λ (b : List (ℕ × ℕ)). how_many number b ≤ most) (sym (append-nil before)) few
few_after p w number most limit before (pair ∷ pairs) sound few =
    subst (λ (b : List (ℕ × ℕ)). how_many number b ≤ most) (append_assoc before (pair ∷ []) pairs)
    (few_after p w number most limit (before ++ pair ∷ []) pairs sound.1 (one_more p w number most before pair.0 pair.1 limit sound.0 few))

none_before : (number : ℕ) (pairs : List (ℕ × ℕ)) → nat_lt 0 (how_many number pairs) ≡ false → how_many number pairs < 1
none_before number pairs test = omega (arith, ltb-false 0 (how_many number pairs) test)

pub few_offers : (p : Program) (w : ℕ) (pairs : List (ℕ × ℕ)) → IsSound p w pairs → (t : ℕ) → t < length p.tasks.items → how_many (t + 1) pairs ≤ 1
few_offers p w pairs sound t exists = few_after p w (t + 1) 1 limit [] pairs sound (omega arith) where
  limit : IsLimited p w (t + 1) 1
  limit before c may = none_before (t + 1) before ((subst (MayDo p w before c) (deed_offer (length p.tasks.items) t exists) may).2)

pub few_looks : (p : Program) (w : ℕ) (pairs : List (ℕ × ℕ)) → IsSound p w pairs → looks p pairs ≤ 2 ^ 63
few_looks p w pairs sound = few_after p w (look_number p) (2 ^ 63) limit [] pairs sound (omega arith) where
  limit : IsLimited p w (look_number p) (2 ^ 63)
  limit before c may = (subst (MayDo p w before c) (deed_look (length p.tasks.items)) may).1

pub few_stops : (p : Program) (w : ℕ) (pairs : List (ℕ × ℕ)) → IsSound p w pairs → how_many (stop_number p) pairs ≤ 1
few_stops p w pairs sound = few_after p w (stop_number p) 1 limit [] pairs sound (omega arith) where
  limit : IsLimited p w (stop_number p) 1
  limit before c may = none_before (stop_number p) before ((subst (MayDo p w before c) (deed_stop (length p.tasks.items)) may).1)

-- ---- the length

-- how many pairs have a number from 1 to k
numbered : ℕ → List (ℕ × ℕ) → ℕ
numbered zero pairs = 0
numbered (suc k) pairs = numbered k pairs + how_many (suc k) pairs

numbered-out : (k c m : ℕ) (pairs : List (ℕ × ℕ)) → (m ≡ 0) ⊎ (k < m) → numbered k ((c, m) ∷ pairs) ≡ numbered k pairs
unfolding numbered
numbered-out zero c m pairs out = refl
numbered-out (suc k) c m pairs out =
    let other : m ≢ suc k = λ e. elim out [ inl none ↦ absurd (omega (arith, e, none)) | inr above ↦ absurd (omega (arith, e, above)) ] in
    let before = numbered-out k c m pairs (elim out [ inl none ↦ inl none | inr above ↦ inr (omega (arith, above)) ]) in
    rw (ne_eqb m (suc k) other) (omega (arith, before))

numbered-in : (k c m : ℕ) (pairs : List (ℕ × ℕ)) → 0 < m → m ≤ k → numbered k ((c, m) ∷ pairs) ≡ suc (numbered k pairs)
unfolding numbered
numbered-in zero c m pairs some within = absurd (omega arith)
numbered-in (suc k) c m pairs some within = by_test (λ below. numbered-in k c m pairs some below) (nat_eq m (suc k)) refl where
  by_test : (m ≤ k → numbered k ((c, m) ∷ pairs) ≡ suc (numbered k pairs)) → (b : Bool) → nat_eq m (suc k) ≡ b
      → numbered k ((c, m) ∷ pairs) + (cond b 1 0 + how_many (suc k) pairs) ≡ suc (numbered k pairs + how_many (suc k) pairs)
  by_test fewer true test =
      let same = eqb-true m (suc k) test in omega (arith, numbered-out k c m pairs (inr (omega (arith, same))))
  by_test fewer false test =
      let other : m ≢ suc k = λ e. absurd (cc (test, eq-eqb m (suc k) e)) in
      omega (arith, fewer (omega (arith, other, within)))

numbered-few : (k : ℕ) (pairs : List (ℕ × ℕ)) → ((j : ℕ) → j < k → how_many (j + 1) pairs ≤ 1) → numbered k pairs ≤ k
unfolding numbered
numbered-few zero pairs few = omega arith
numbered-few (suc k) pairs few =
    let here : how_many (suc k) pairs ≤ 1 = rw (add-one k) at (few k (omega arith)) in
    omega (arith, here, numbered-few k pairs (λ j below. few j (omega (arith, below))))

numbered-none : (k : ℕ) → numbered k [] ≡ 0
unfolding numbered
numbered-none zero = refl
numbered-none (suc k) = omega (arith, numbered-none k)

-- where each number is that of a step or at most k, the list is its steps and its numbers
length_by : (p : Program) (w : ℕ) (before pairs : List (ℕ × ℕ)) → IsSoundAfter p w before pairs
    → length pairs ≡ length (moves pairs) + numbered (stop_number p) pairs
length_by p w before [] sound = omega (arith, numbered-none (stop_number p))
length_by p w before ((c, zero) ∷ pairs) sound =
    omega (arith, length_by p w (before ++ (c, zero) ∷ []) pairs sound.1, numbered-out (stop_number p) c zero pairs (inl refl))
length_by p w before ((c, suc n) ∷ pairs) sound =
    let within = known p w before c (suc n) sound.0 in
    omega (arith, length_by p w (before ++ (c, suc n) ∷ []) pairs sound.1, numbered-in (stop_number p) c (suc n) pairs (omega arith) within)

total : (p : Program) (w : ℕ) (pairs : List (ℕ × ℕ)) → IsSound p w pairs
    → length pairs ≤ length (moves pairs) + length p.tasks.items + 2 ^ 63 + 1
unfolding numbered
total p w pairs sound =
    let n = length p.tasks.items in
    let two : n + 2 ≡ suc (suc n) = omega arith in
    let whole : length pairs ≡ length (moves pairs) + (numbered n pairs + how_many (suc n) pairs + how_many (suc (suc n)) pairs) =
    subst (λ (k : ℕ). length pairs ≡ length (moves pairs) + numbered k pairs) two (length_by p w [] pairs sound) in
    let offers = numbered-few n pairs (λ t exists. few_offers p w pairs sound t exists) in
    let seen_looks : how_many (suc n) pairs ≤ 2 ^ 63 = subst (λ (k : ℕ). how_many k pairs ≤ 2 ^ 63) (add-one n) (few_looks p w pairs sound) in
    let seen_stops : how_many (suc (suc n)) pairs ≤ 1 = subst (λ (k : ℕ). how_many k pairs ≤ 1) two (few_stops p w pairs sound) in
    omega (arith, whole, offers, seen_looks, seen_stops)

pub has_few : SoundListsHaveFew
has_few p w pairs sound = record {
  offers = few_offers p w pairs sound;
  few_looks = few_looks p w pairs sound;
  stops = few_stops p w pairs sound;
  short = total p w pairs sound;
}
