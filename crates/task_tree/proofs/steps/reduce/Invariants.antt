use Rattle.std.proofs.Common.{◌≡◌, length}
use Rattle.task_tree.specs.Expressions.{reduce}
use Rattle.task_tree.proofs.steps.reduce.Given as goal

-- what is left of the frames makes of the operand what all of them make of the first
abbrev pub invariant-loop-frame : goal.invariant-loop-frame
invariant-loop-frame l = reduce l.level l.initial.operand l.initial.frames ≡ reduce l.level l.operand l.frames

abbrev pub decreases-loop-frame : goal.decreases-loop-frame
decreases-loop-frame l = length l.frames
