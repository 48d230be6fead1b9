-- Numbers of few digits.
use Rattle.std.proofs.Common.{ℕ, ◌^◌, ◌≤◌, lit<}
use Rattle.std.proofs.Math.Nat.{pow-le-pow_right}

-- a power of ten of at most nine zeros
pub few_zeros : (k : ℕ) → k ≤ 9 → 10 ^ k ≤ 1000000000
few_zeros k few = pow-le-pow_right (lit< tt) few
