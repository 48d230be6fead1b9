-- A table whose one seat changes, or that gets a seat more, keeps the rule.
use Rattle.std.proofs.Common.{◌≡◌, ◌≢◌, ℕ, zero, suc, ◌⊎◌, inl, inr, List, [], ◌∷◌, ◌++◌, length, set, refl, ap, sym}
use Rattle.std.proofs.Common.{subst, ◌∙◌, arith}
use mathlib.Core.Option.{some, some-injective, some-ne-none}
use lib.ListN.{get_elem?}
use Rattle.atomic_table.proofs.Lists.{at_set}
use Rattle.pass_table.specs.declared.view.View.{View}
use Rattle.pass_table.specs.Views.{Fits, Beside, KeptBy}

module _ {A : Type 0} where
  -- what stands in a list with one element more: an old one, or the last
  pub at_end : (l : List A) (a b : A) (j : ℕ) → get_elem? (l ++ a ∷ []) j ≡ some b → (get_elem? l j ≡ some b) ⊎ ((j ≡ length l) × (a ≡ b))
  at_end [] a b zero e = inr (refl, some-injective a b e)
  at_end [] a b (suc j) e = absurd (some-ne-none b (sym e))
  at_end (x ∷ xs) a b zero e = inl e
  at_end (x ∷ xs) a b (suc j) e = elim (at_end xs a b j e) [ inl old ↦ inl old | inr last ↦ inr (omega (arith, last.0), last.1) ]

  -- two places are written in either order
  pub set-comm : (l : List A) (i j : ℕ) (a b : A) → i ≢ j → set (set l i a) j b ≡ set (set l j b) i a
  set-comm [] i j a b ne = refl
  set-comm (x ∷ xs) zero zero a b ne = absurd (ne refl)
  set-comm (x ∷ xs) zero (suc j) a b ne = refl
  set-comm (x ∷ xs) (suc i) zero a b ne = refl
  set-comm (x ∷ xs) (suc i) (suc j) a b ne = ap (λ ys. x ∷ ys) (set-comm xs i j a b (λ e. ne (ap suc e)))

-- two seats, each beside the other
abbrev pub Both : View → View → Type 0
Both v w = Beside v w × Beside w v

-- the seat changes, and maybe the list: the new data fits, and so does that of the others beside it
pub kept_put : (log log' : List (ℕ × ℕ)) (words words' : List ℕ) (views : List View) (i : ℕ) (w : View)
    → KeptBy log words views → words' ≡ length log' ∷ [] → Fits log' w
    → ((j : ℕ) (u : View) → j ≢ i → get_elem? views j ≡ some u → Fits log' u × Both w u) → KeptBy log' words' (set views i w)
kept_put log log' words words' views i w kept word fit others =
    record {
      word = word;
      fits = λ j u e. elim (at_set views i j w u e) [ inl here ↦ subst (Fits log') here.1 fit | inr away ↦ (others j u away.0 away.1).0 ];
      beside = λ j k u v ne e f. elim (at_set views i j w u e) [
        | inl here ↦ elim (at_set views i k w v f) [
          | inl there ↦ absurd (ne (here.0 ∙ sym there.0))
          | inr there ↦ subst (λ x. Beside x v) here.1 (others k v there.0 there.1).1.0
        ]
        | inr here ↦ elim (at_set views i k w v f) [
          | inl there ↦ subst (λ x. Beside u x) there.1 (others j u here.0 here.1).1.1
          | inr there ↦ kept.beside j k u v ne here.1 there.1
        ]
      ];
    }

-- a seat more: its data fits beside that of the others
pub kept_add : (log : List (ℕ × ℕ)) (words : List ℕ) (views : List View) (w : View) → KeptBy log words views → Fits log w
    → ((j : ℕ) (u : View) → get_elem? views j ≡ some u → Both w u) → KeptBy log words (views ++ w ∷ [])
kept_add log words views w kept fit others =
    record {
      word = kept.word;
      fits = λ j u e. elim (at_end views w u j e) [ inl old ↦ kept.fits j u old | inr last ↦ subst (Fits log) last.1 fit ];
      beside = λ j k u v ne e f. elim (at_end views w u j e) [
        | inl here ↦ elim (at_end views w v k f) [
          | inl there ↦ kept.beside j k u v ne here there
          | inr there ↦ subst (λ x. Beside u x) there.1 (others j u here).1
        ]
        | inr here ↦ elim (at_end views w v k f) [
          | inl there ↦ subst (λ x. Beside x v) here.1 (others k v there).0
          | inr there ↦ absurd (ne (here.0 ∙ sym there.0))
        ]
      ];
    }
