use Rattle.std.proofs.Common.{pos, map, to_z, w64}
use Rattle.block_kernels.specs.Lanes.{wrapped_sum}
use Rattle.block_kernels.proofs.Groups.{IsGrouped}
use Rattle.block_kernels.proofs.folds.sum_by_lanes.Given as goal

-- the sums of the lanes so far
abbrev pub invariant-loop-k : goal.invariant-loop-k
invariant-loop-k l = IsGrouped wrapped_sum (pos 0) l.left (map (to_z w64) l.lanes) l.k
