use Rattle.std.proofs.Common.{◌≡◌, take, fold}
use Rattle.std.specs.Int.{int_max}
use Rattle.block_kernels.proofs.folds.greatest_from.Given as goal

-- the greatest of the first number and the cells so far
abbrev pub invariant-loop-i : goal.invariant-loop-i
invariant-loop-i l = l.so_far ≡ fold int_max l.first (take l.i l.left)
