use Rattle.std.proofs.Common.{◌≡◌, replicate, None}
use Rattle.match_lanes.proofs.lanes.no_ends.Given as goal

-- the lanes so far have no place
abbrev pub invariant-loop-lane : goal.invariant-loop-lane
invariant-loop-lane l = l.ends.items ≡ replicate l._lane None
