use Rattle.std.proofs.Common.{take}
use Rattle.task_local.specs.Kept.{IsScratchOf}
use Rattle.task_local.proofs.compute.longest_scratch.Given as goal

-- so many cells are what the operations so far ask for
abbrev pub invariant-loop-op : goal.invariant-loop-op
invariant-loop-op l = IsScratchOf l.index (take l.op-index l.body) l.longest
