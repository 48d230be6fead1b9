use Rattle.std.proofs.Common.{◌≡◌, take, length}
use Rattle.block_kernels.specs.Kernels.{filled}
use Rattle.block_kernels.proofs.lanes.fill.Given as goal

-- what is written so far is the front of the answer
abbrev pub invariant-loop-i : goal.invariant-loop-i
invariant-loop-i l = take l.i l.dst ≡ take l.i (filled (length l.initial.dst) l.value)
