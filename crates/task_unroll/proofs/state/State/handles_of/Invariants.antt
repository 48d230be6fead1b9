use Rattle.task_unroll.specs.Operands.{handles_of}
use Rattle.task_unroll.proofs.Gathering.{IsGathered, handle_in}
use Rattle.task_unroll.proofs.state.State.handles_of.Given as goal

-- so far the results are the first of the whole
abbrev pub invariant-loop-name : goal.invariant-loop-name
invariant-loop-name l = IsGathered (handle_in l.self) l.names l.name-index l.handles.items (handles_of l.self l.names)
