use Rattle.std.proofs.Common.{drop}
use Rattle.report_lines.specs.Report.{task_lines}
use Rattle.report_lines.specs.Writing.{output}
use Rattle.report_lines.proofs.Putting.{PutSoFar}
use Rattle.report_lines.proofs.report.put_tasks.Given as goal

-- the tasks so far are put
abbrev pub invariant-loop-number : goal.invariant-loop-number
invariant-loop-number g l =
    PutSoFar (output (g.K.ByteSink.written l.fn.out) (g.K.ByteSink.faults l.fn.out) l.fn.buffer)
    (output (g.K.ByteSink.written l.out) (g.K.ByteSink.faults l.out) l.buffer) (task_lines l.number (drop l.number l.tasks) (drop l.number l.phases))
    (task_lines 0 l.tasks l.phases)
