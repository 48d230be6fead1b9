use Rattle.std.proofs.Common.{rules}
use Rattle.report_lines.proofs.Putting.{far_more, far_all}
use Rattle.report_lines.proofs.Texts.{tasks_at, no_phase}
use Rattle.report_lines.proofs.report.put_tasks.Goals as goal

pub returns-in-None : goal.returns-in-None
returns-in-None g c =
    far_all c.loop-number.invariant (no_phase c.args.tasks.now c.args.phases.now c.loop-number.number (search (rules, c.in-None.ensures.lookup.0)))

pub loop-number-preserved : goal.loop-number-preserved
loop-number-preserved g c =
    far_more c.loop-number.invariant c.put_task.ensures _
    (tasks_at c.args.tasks.now c.args.phases.now c.loop-number.number c.index-tasks-number.result c.in-Some.at.now c.loop-number-test.true
    (search (rules, c.in-Some.ensures.lookup.0)) c.index-tasks-number.is c.in-Some.ensures.lookup.1)
