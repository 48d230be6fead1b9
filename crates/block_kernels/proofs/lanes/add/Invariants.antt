use Rattle.std.proofs.Common.{◌≡◌, take}
use Rattle.block_kernels.specs.Kernels.{added}
use Rattle.block_kernels.proofs.lanes.add.Given as goal

-- what is written so far is the front of the answer
abbrev pub invariant-loop-i : goal.invariant-loop-i
invariant-loop-i l = take l.i l.dst ≡ take l.i (added l.left l.right)
