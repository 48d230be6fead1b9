use Rattle.task_names.specs.Values.{value}
use Rattle.task_unroll.specs.States.{scene}
use Rattle.task_unroll.specs.Operands.{values_of}
use Rattle.task_unroll.proofs.Gathering.{IsGathered}
use Rattle.task_unroll.proofs.state.State.values_of.Given as goal

-- so far the results are the first of the whole
abbrev pub invariant-loop-e : goal.invariant-loop-e
invariant-loop-e l = IsGathered (value (scene l.self)) l.es l.e-index l.values.items (values_of l.self l.es)
