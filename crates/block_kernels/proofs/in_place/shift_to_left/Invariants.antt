use Rattle.std.proofs.Common.{length}
use Rattle.std.specs.Int.{int_shr}
use Rattle.block_kernels.specs.Kernels.{cell}
use Rattle.block_kernels.proofs.Loops.{IsPartly}
use Rattle.block_kernels.proofs.in_place.shift_to_left.Given as goal

-- the cells so far are made, and the others are as before
abbrev pub invariant-loop-i : goal.invariant-loop-i
invariant-loop-i l = IsPartly (length l.initial.dst) (λ i. int_shr (cell l.initial.dst i) l.value) l.initial.dst l.dst l.i
