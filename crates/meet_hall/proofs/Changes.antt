-- A function with one value changed, a list with one element set, and the words of meetings as numbers.
use Rattle.std.proofs.Common.{◌≡◌, ℕ, suc, zero, ◌+◌, ◌*◌, ◌/◌, ◌%◌, ◌^◌, ◌-◌, ◌<◌, ◌≤◌, ◌≢◌, ◌⊎◌, inl, inr, ⊎_elim, ◌==◌, List, [], ◌∷◌, ◌++◌}
use Rattle.std.proofs.Common.{length, set, sym, refl, ap, ◌∙◌, subst, arith, eq-eqb, ne_eqb, if◌then◌else◌, get_or, slice_index, length-set}
use Rattle.std.proofs.lemmas.List.{get_or-set_same, get_or-set_other}
use mathlib.Core.Option.{Option, some, none, some-injective, some-ne-none}
use mathlib.Core.Logic.{dite}
use native.Mathlib.Decide.{ℕ_discrete}
use lib.ListN.{get_elem?}
use Rattle.atomic_table.proofs.Lists.{at_set, set_here, set_else, at_longer, at_last}
use Rattle.meet_hall.specs.Seatings.{changed}

module _ {A : Type 0} where
  pub changed-here : (f : ℕ → A) (k : ℕ) (a : A) → changed f k a k ≡ a
  changed-here f k a = ap (λ b. if b then a else f k) (eq-eqb k k refl)

  pub changed-else : (f : ℕ → A) (k j : ℕ) (a : A) → j ≢ k → changed f k a j ≡ f j
  changed-else f k j a n = ap (λ b. if b then a else f j) (ne_eqb j k n)

  -- what holds of the new value, and of the old one everywhere else, holds of the changed function
  pub changed_all : (P : ℕ → A → Type 0) (f : ℕ → A) (k : ℕ) (a : A) → P k a → ((j : ℕ) → j ≢ k → P j (f j)) → (j : ℕ) → P j (changed f k a j)
  changed_all P f k a here others j = dite (ℕ_discrete j k)
      (λ e. let h : P j a = subst (λ i. P i a) (sym e) here in
      subst (P j) (sym (ap (λ i. changed f k a i) e ∙ changed-here f k a)) h)
      (λ n. subst (P j) (sym (changed-else f k j a n)) (others j n))

  -- the same of one value, which the change keeps
  pub changed_keeps : (P : A → Type 0) (f : ℕ → A) (k j : ℕ) (a : A) → (P (f k) → P a) → P (f j) → P (changed f k a j)
  changed_keeps P f k j a keeps h = dite (ℕ_discrete j k)
      (λ e. subst P (sym (ap (λ i. changed f k a i) e ∙ changed-here f k a)) (keeps (subst (λ i. P (f i)) e h)))
      (λ n. subst P (sym (changed-else f k j a n)) h)

  pub there : (l : List A) (i : ℕ) (a : A) → get_elem? l i ≡ some a → i < length l
  there [] i a e = absurd (some-ne-none a (sym e))
  there (x ∷ xs) zero a e = omega arith
  there (x ∷ xs) (suc i) a e = let h = there xs i a e in omega arith

  pub set_at : (l : List A) (i : ℕ) (a b : A) → get_elem? l i ≡ some a → get_elem? (set l i b) i ≡ some b
  set_at l i a b e = set_here l i b (there l i a e)

  -- an element of a list with one more at its end
  pub at_end : (l : List A) (a b : A) (j : ℕ) → get_elem? (l ++ a ∷ []) j ≡ some b → (get_elem? l j ≡ some b) ⊎ ((j ≡ length l) × (a ≡ b))
  at_end [] a b zero e = inr (refl, some-injective a b e)
  at_end [] a b (suc j) e = absurd (some-ne-none b (sym e))
  at_end (x ∷ xs) a b zero e = inl e
  at_end (x ∷ xs) a b (suc j) e = ⊎_elim (λ h. inl h) (λ h. inr (ap suc h.0, h.1)) (at_end xs a b j e)

-- the words after one of them became this number
pub record Words (m number : ℕ) (before now : List ℕ) : Type 0 where
  pub width : length now ≡ length before
  pub here : slice_index now m ≡ number
  pub others : (j : ℕ) → j ≢ m → slice_index now j ≡ slice_index before j

pub words_set : (m number n : ℕ) (words : List ℕ) → m < length words → n ≡ number → Words m number words (set words m n)
words_set m number n words below e = record {
  width = length-set words m n;
  here = get_or-set_same words m n 0 below ∙ e;
  others = λ j ne. get_or-set_other words m j n 0 ne;
}

pub words_stay : (m number : ℕ) (words : List ℕ) → slice_index words m ≡ number → Words m number words words
words_stay m number words e = record { width = refl; here = e; others = λ j ne. refl }

-- a word whose count is one more
pub word_more : (r c : ℕ) → c + 1 < 2 ^ 32 → (r % 2 ^ 32 * 2 ^ 32 + c + 1) % 2 ^ 64 ≡ r % 2 ^ 32 * 2 ^ 32 + (c + 1)
word_more r c h = omega arith

-- a word whose count is one less
pub word_less : (r c : ℕ) → c + 1 < 2 ^ 32 → (r % 2 ^ 32 * 2 ^ 32 + (c + 1) + (2 ^ 64 - 1)) % 2 ^ 64 ≡ r % 2 ^ 32 * 2 ^ 32 + c
word_less r c h = omega arith

pub count_in : (r c : ℕ) → c < 2 ^ 32 → (r % 2 ^ 32 * 2 ^ 32 + c) % 2 ^ 32 ≡ c
count_in r c h = omega arith

pub round_in : (r c : ℕ) → c < 2 ^ 32 → (r % 2 ^ 32 * 2 ^ 32 + c) / 2 ^ 32 ≡ r % 2 ^ 32
round_in r c h = omega arith
