use Rattle.report_lines.proofs.Putting.{far_more}
use Rattle.report_lines.proofs.Texts.{statuses_at}
use Rattle.report_lines.proofs.trace.put_statuses.Goals as goal

pub loop-status-preserved : goal.loop-status-preserved
loop-status-preserved g c =
    far_more c.loop-status.invariant c.put_status.ensures _
    (statuses_at c.args.statuses.now c.loop-status.status-index _ c.loop-status-test.true)
