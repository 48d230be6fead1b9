use Rattle.std.proofs.Common.{map, to_z, w64}
use Rattle.std.specs.Int.{int_min}
use Rattle.block_kernels.proofs.Groups.{IsGrouped}
use Rattle.block_kernels.proofs.folds.least_by_lanes.Given as goal

-- the least numbers of the lanes so far
abbrev pub invariant-loop-k : goal.invariant-loop-k
invariant-loop-k l = IsGrouped int_min l.first l.left (map (to_z w64) l.lanes) l.k
