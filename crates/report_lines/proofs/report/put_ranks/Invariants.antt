use Rattle.std.proofs.Common.{◌-◌}
use Rattle.std.specs.List.{flat_map, range_with_len}
use Rattle.report_lines.specs.Report.{rank_lines, shown_lines}
use Rattle.report_lines.specs.Writing.{output}
use Rattle.report_lines.proofs.Putting.{PutSoFar}
use Rattle.report_lines.proofs.report.put_ranks.Given as goal

-- the ranks so far are put
abbrev pub invariant-loop-rank : goal.invariant-loop-rank
invariant-loop-rank g l =
    PutSoFar (output (g.K.ByteSink.written l.fn.out) (g.K.ByteSink.faults l.fn.out) l.fn.buffer)
    (output (g.K.ByteSink.written l.out) (g.K.ByteSink.faults l.out) l.buffer)
    (flat_map (rank_lines l.program l.memory) (range_with_len l.rank (l.program.ranks - l.rank)))
    (shown_lines l.program l.memory)
