use Rattle.std.proofs.Common.{◌≡◌, length, [], None}
use Rattle.task_tree.specs.Expressions.{run}
use Rattle.task_tree.proofs.reading.expr_at.Given as goal

-- reading what is left gives what reading all gives
abbrev pub invariant-loop-rest : goal.invariant-loop-rest
invariant-loop-rest l = run None [] l.tokens ≡ run l.operand l.frames l.rest

abbrev pub decreases-loop-rest : goal.decreases-loop-rest
decreases-loop-rest l = length l.rest
