use Rattle.std.specs.Prelude.{◌≤◌}
use Rattle.task_tree.specs.Weight.{weight, work}
use Rattle.task_tree.proofs.expr.Expr.+drop.Given as goal

-- what is left to let go is no larger than the whole
abbrev pub invariant-loop-node : goal.invariant-loop-node
invariant-loop-node l = weight l.self ≤ weight l.initial.self

abbrev pub decreases-loop-node : goal.decreases-loop-node
decreases-loop-node l = work l.self
