-- Numbers in lanes. No clause of a public call cites this module.
use Rattle.std.specs.Prelude.{◌≡◌, ℕ, ◌+◌, ◌<◌, ◌+ℤ◌, ℤ, List, length, FitsSigned}
use Rattle.std.specs.Int.{w64}
use Rattle.std.specs.Simd.Lanes.{Each1}
use Rattle.block_kernels.specs.Kernels.{cell, wrapped}

-- the sum of two numbers, wrapped
abbrev pub wrapped_sum : ℤ → ℤ → ℤ
wrapped_sum one other = wrapped (one +ℤ other)

-- each number fits 64 bits
abbrev pub Fit : List ℤ → Type 0
Fit lanes = Each1 (FitsSigned w64) lanes

-- eight numbers are the cells from this one on
pub record AreAt (left : List ℤ) (at : ℕ) (lanes : List ℤ) : Type 0 where
  pub long : length lanes ≡ 8
  pub cells : (k : ℕ) → k < 8 → cell lanes k ≡ cell left (at + k)
