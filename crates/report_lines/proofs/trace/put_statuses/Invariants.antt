use Rattle.std.proofs.Common.{drop}
use Rattle.std.specs.List.{flat_map}
use Rattle.report_lines.specs.Lines.{numbers_text, status_numbers}
use Rattle.report_lines.specs.Writing.{output}
use Rattle.report_lines.proofs.Putting.{PutSoFar}
use Rattle.report_lines.proofs.trace.put_statuses.Given as goal

-- the statuses so far are put
abbrev pub invariant-loop-status : goal.invariant-loop-status
invariant-loop-status g l =
    PutSoFar (output (g.K.ByteSink.written l.fn.out) (g.K.ByteSink.faults l.fn.out) l.fn.buffer)
    (output (g.K.ByteSink.written l.out) (g.K.ByteSink.faults l.out) l.buffer) (numbers_text (flat_map status_numbers (drop l.status-index l.statuses)))
    (numbers_text (flat_map status_numbers l.statuses))
