use Rattle.std.proofs.Common.{map, to_z, w64}
use Rattle.std.specs.Int.{int_max}
use Rattle.block_kernels.proofs.Groups.{IsGrouped}
use Rattle.block_kernels.proofs.folds.greatest_by_lanes.Given as goal

-- the greatest numbers of the lanes so far
abbrev pub invariant-loop-k : goal.invariant-loop-k
invariant-loop-k l = IsGrouped int_max l.first l.left (map (to_z w64) l.lanes) l.k
