use Rattle.std.proofs.Common.{ℕ, ◌<◌, ◌-◌, length}
use Rattle.match_lanes.specs.Links.{IsFrontOf}
use Rattle.match_lanes.proofs.lanes.front_of.Given as goal

-- before the place all of the lane is gone
abbrev pub invariant-loop-place : goal.invariant-loop-place
invariant-loop-place l = (l.place < length l.hooks) × ((lane : ℕ) → IsFrontOf l.hooks lane l.front → IsFrontOf l.hooks lane l.place)

-- the places behind it
abbrev pub decreases-loop-place : goal.decreases-loop-place
decreases-loop-place l = length l.hooks - l.place
