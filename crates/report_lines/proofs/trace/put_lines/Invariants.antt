use Rattle.std.proofs.Common.{drop}
use Rattle.std.specs.List.{flat_map}
use Rattle.report_lines.specs.Lines.{line, entry_lines}
use Rattle.report_lines.specs.Writing.{output}
use Rattle.report_lines.proofs.Putting.{PutSoFar}
use Rattle.report_lines.proofs.trace.put_lines.Given as goal

-- the entries so far are put
abbrev pub invariant-loop-step : goal.invariant-loop-step
invariant-loop-step g l =
    PutSoFar (output (g.K.ByteSink.written l.fn.out) (g.K.ByteSink.faults l.fn.out) l.fn.buffer)
    (output (g.K.ByteSink.written l.out) (g.K.ByteSink.faults l.out) l.buffer) (flat_map line (entry_lines (drop l.step-index l.entries) l.statuses))
    (flat_map line (entry_lines l.entries l.statuses))
