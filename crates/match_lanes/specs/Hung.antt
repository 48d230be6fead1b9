-- What contracts see of lanes.
use Rattle.std.specs.Prelude.{ℕ, ◌+◌, ◌≤◌, Bool, false, ◌==◌, List, Option, Some, None}

-- the lane of each place, in the order in which they were taken, and None where what hung there is gone; how many lanes there are;
-- and how many places more there is memory for
pub record Hung : Type 0 where
  pub lanes : List (Option ℕ)
  pub count : ℕ
  pub room : ℕ

-- so many places are taken, there is memory for so many more, and together they are at most so many
pub record HasPlaces (taken room capacity most : ℕ) : Type 0 where
  pub memory : taken + room ≤ capacity
  pub numbers : taken + room ≤ most

-- something hangs there, in this lane
abbrev pub is_lane : ℕ → Option ℕ → Bool
is_lane lane None = false
is_lane lane (Some other) = lane == other
