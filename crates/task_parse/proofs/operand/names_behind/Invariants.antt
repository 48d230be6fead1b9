use Rattle.std.proofs.Common.{◌≡◌, ◌∷◌, [], length}
use Rattle.task_parse.specs.ReadingsOfOperands.{names_behind}
use Rattle.task_parse.proofs.operand.names_behind.Given as goal

-- the names so far with those that are left are all
abbrev pub invariant-loop-name : goal.invariant-loop-name
invariant-loop-name l = names_behind (l.fn.first ∷ []) l.tokens ≡ names_behind l.names.items l.rest

abbrev pub decreases-loop-name : goal.decreases-loop-name
decreases-loop-name l = length l.rest
