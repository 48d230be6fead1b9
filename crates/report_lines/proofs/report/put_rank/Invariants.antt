use Rattle.std.proofs.Common.{drop}
use Rattle.std.specs.List.{flat_map}
use Rattle.report_lines.specs.Report.{shown_line}
use Rattle.report_lines.specs.Writing.{output}
use Rattle.report_lines.proofs.Putting.{PutSoFar}
use Rattle.report_lines.proofs.report.put_rank.Given as goal

-- the arrays so far are put
abbrev pub invariant-loop-array : goal.invariant-loop-array
invariant-loop-array g l =
    PutSoFar (output (g.K.ByteSink.written l.fn.out) (g.K.ByteSink.faults l.fn.out) l.fn.buffer)
    (output (g.K.ByteSink.written l.out) (g.K.ByteSink.faults l.out) l.buffer)
    (flat_map (shown_line l.program l.memory l.rank) (drop l.array-index l.array-items))
    (flat_map (shown_line l.program l.memory l.rank) l.array-items)
