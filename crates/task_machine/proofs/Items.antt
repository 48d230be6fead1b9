-- Items of lists and their places.
use Rattle.std.proofs.Common.{◌≡◌, ◌≢◌, ℕ, zero, suc, ◌<◌, ◌⊎◌, slice_get, replicate, Some, refl, ap, inl, inr, arith}

pub same_some : {X : Type 0} {a b : X} → Some a ≡ Some b → a ≡ b
same_some e = cc

-- a place that is either this one or another
pub either_place : (u t : ℕ) → (u ≡ t) ⊎ (u ≢ t)
either_place zero zero = inl refl
either_place zero (suc t) = inr (λ e. absurd (omega arith))
either_place (suc u) zero = inr (λ e. absurd (omega arith))
either_place (suc u) (suc t) = elim (either_place u t) [ inl same ↦ inl (ap suc same) | inr other ↦ inr (λ e. other (omega arith)) ]

-- what stands in a list of equal items
pub at_replicate : {X : Type 0} (n : ℕ) (y : X) (i : ℕ) → i < n → slice_get (replicate n y) i ≡ Some y
at_replicate zero y i within = absurd (omega arith)
at_replicate (suc n) y zero within = refl
at_replicate (suc n) y (suc i) within = at_replicate n y i (omega arith)
