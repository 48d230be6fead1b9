use Rattle.std.proofs.Common.{◌≡◌, take, fold}
use Rattle.std.specs.Int.{int_min}
use Rattle.block_kernels.proofs.folds.least_from.Given as goal

-- the least of the first number and the cells so far
abbrev pub invariant-loop-i : goal.invariant-loop-i
invariant-loop-i l = l.so_far ≡ fold int_min l.first (take l.i l.left)
