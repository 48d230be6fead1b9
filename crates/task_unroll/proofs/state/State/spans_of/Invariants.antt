use Rattle.task_unroll.specs.Operands.{span_of, spans_of}
use Rattle.task_unroll.proofs.Gathering.{IsGathered}
use Rattle.task_unroll.proofs.state.State.spans_of.Given as goal

-- so far the results are the first of the whole
abbrev pub invariant-loop-text : goal.invariant-loop-text
invariant-loop-text l = IsGathered (span_of l.self) l.texts l.text-index l.spans.items (spans_of l.self l.texts)
