-- Steps of sums that wrap.
use Rattle.std.proofs.Common.{◌≡◌, ℕ, ◌+◌, ◌*◌, ◌%◌, ◌^◌, ℤ, pos, ◌+ℤ◌, ◌*ℤ◌, FitsSigned, to_z, of_z, sym, ◌∙◌, ap, add-one, arith, w64}
use Rattle.std.proofs.lemmas.Int.{ints, to_z-of_z, int_wrap-add_left, int_wrap-add_right, wrapping_add-bits, wrapping_add_onto, wrapping_mul_is}
use Rattle.std.proofs.Math.Facts.{Fits-of_z}
use Rattle.std.proofs.Math.IntN.{+ℤ_assoc, suc_ℤ-*ℤ, *ℤ_comm}
use Rattle.block_kernels.specs.Kernels.{wrapped}

-- the next cell of a ramp is one step on
pub ramp_more : (value step : ℤ) (i : ℕ)
    → wrapped (wrapped (value +ℤ (pos i *ℤ step)) +ℤ step) ≡ wrapped (value +ℤ (pos (i + 1) *ℤ step))
ramp_more value step i =
    let distribute : pos (i + 1) *ℤ step ≡ (pos i *ℤ step) +ℤ step = rw add-one (suc_ℤ-*ℤ (pos i) step) in
    int_wrap-add_left w64 (value +ℤ (pos i *ℤ step)) step
    ∙ ap wrapped (+ℤ_assoc value (pos i *ℤ step) step ∙ ap (λ n. value +ℤ n) (sym distribute))

-- the sum under the stencil, each part of it wrapped, is the whole sum wrapped once
pub stencil_sum : (before here after : ℤ) → FitsSigned w64 before → FitsSigned w64 here → FitsSigned w64 after
    → to_z w64 (((of_z w64 before + (of_z w64 here * 2) % 2 ^ 64) % 2 ^ 64 + of_z w64 after) % 2 ^ 64)
    ≡ wrapped ((before +ℤ (pos 2 *ℤ here)) +ℤ after)
stencil_sum before here after before_fits here_fits after_fits =
    let doubled_bits : ℕ = (of_z w64 here * 2) % 2 ^ 64 in
    let sum_bits : ℕ = (of_z w64 before + doubled_bits) % 2 ^ 64 in
    let doubled : to_z w64 doubled_bits ≡ wrapped (pos 2 *ℤ here) =
    wrapping_mul_is w64 here (pos 2) here_fits (omega (arith, ints)) ∙ ap wrapped (*ℤ_comm here (pos 2)) in
    let summed : to_z w64 sum_bits ≡ wrapped (before +ℤ (pos 2 *ℤ here)) =
    wrapping_add-bits w64 (of_z w64 before) doubled_bits (Fits-of_z before_fits).fits (omega arith)
    ∙ (ap (λ n. wrapped (n +ℤ to_z w64 doubled_bits)) (to_z-of_z w64 before before_fits)
    ∙ (ap (λ n. wrapped (before +ℤ n)) doubled ∙ int_wrap-add_right w64 before (pos 2 *ℤ here))) in
    wrapping_add_onto w64 sum_bits after (omega arith) after_fits
    ∙ (ap (λ n. wrapped (n +ℤ after)) summed ∙ int_wrap-add_left w64 (before +ℤ (pos 2 *ℤ here)) after)
