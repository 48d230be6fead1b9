-- What follows from the definitions of the kernels alone.
use Rattle.std.specs.Prelude.{ℕ, ◌-◌, ◌≡◌, ℤ, List, length}
use Rattle.block_kernels.specs.Kernels.{filled, ramped, copied, added, subtracted, scaled, shifted, jacobi, IsLeast, IsGreatest}

-- what a kernel gives has as many cells as the destination that it asks for (this project's)
pub record KeepsLengths : Type 0 where
  pub of_fill : (count : ℕ) (value : ℤ) → length (filled count value) ≡ count
  pub of_ramp : (count : ℕ) (value step : ℤ) → length (ramped count value step) ≡ count
  pub of_copy : (left : List ℤ) → length (copied left) ≡ length left
  pub of_add : (left right : List ℤ) → length (added left right) ≡ length left
  pub of_sub : (left right : List ℤ) → length (subtracted left right) ≡ length left
  pub of_scale : (left : List ℤ) (value : ℤ) → length (scaled left value) ≡ length left
  pub of_shift : (left : List ℤ) (places : ℕ) → length (shifted left places) ≡ length left
  pub of_jacobi2 : (left : List ℤ) → length (jacobi left) ≡ length left - 2

-- a list has at most one least number (this project's)
abbrev pub HasOneLeast : Type 0
HasOneLeast = (left : List ℤ) (one other : ℤ) → IsLeast left one → IsLeast left other → one ≡ other

-- a list has at most one greatest number (this project's)
abbrev pub HasOneGreatest : Type 0
HasOneGreatest = (left : List ℤ) (one other : ℤ) → IsGreatest left one → IsGreatest left other → one ≡ other
