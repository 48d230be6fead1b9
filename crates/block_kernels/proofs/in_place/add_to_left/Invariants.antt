use Rattle.std.proofs.Common.{length, ◌+ℤ◌}
use Rattle.block_kernels.specs.Kernels.{cell, wrapped}
use Rattle.block_kernels.proofs.Loops.{IsPartly}
use Rattle.block_kernels.proofs.in_place.add_to_left.Given as goal

-- the cells so far are made, and the others are as before
abbrev pub invariant-loop-i : goal.invariant-loop-i
invariant-loop-i l = IsPartly (length l.initial.dst) (λ i. wrapped (cell l.initial.dst i +ℤ cell l.right i)) l.initial.dst l.dst l.i
