use Rattle.std.specs.Prelude.{⊤}
use Rattle.plain_run.proofs.run.next_task.Given as goal

-- any tasks may stand in the list
abbrev pub invariant-loop-task : goal.invariant-loop-task
invariant-loop-task l = ⊤

-- each turn of the loop takes one from the list
abbrev pub decreases-loop-task : goal.decreases-loop-task
decreases-loop-task l = goal.left-loop-task l
