use Rattle.std.proofs.Common.{◌≡◌, take, fold}
use Rattle.block_kernels.specs.Lanes.{wrapped_sum}
use Rattle.block_kernels.proofs.folds.sum_from.Given as goal

-- the sum of the first number and the cells so far
abbrev pub invariant-loop-i : goal.invariant-loop-i
invariant-loop-i l = l.so_far ≡ fold wrapped_sum l.first (take l.i l.left)
