use Rattle.report_lines.proofs.Putting.{far_more}
use Rattle.report_lines.proofs.Texts.{lines_at}
use Rattle.report_lines.proofs.trace.put_lines.Goals as goal

pub loop-step-preserved : goal.loop-step-preserved
loop-step-preserved g c =
    far_more c.loop-step.invariant c.put_line.ensures _
    (lines_at c.args.entries.now c.args.statuses.now c.loop-step.step-index _ c.loop-step-test.true)
