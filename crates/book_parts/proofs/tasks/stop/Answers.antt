-- The loop passes local operations, and stops at the first other one or at the end.
use Rattle.std.proofs.Common.{sym, ◌∙◌}
use Rattle.task_machine.proofs.Stops.{stop_begins}
use Rattle.book_parts.proofs.Stops.{stop_passed}
use Rattle.book_parts.proofs.tasks.stop.Goals as goal

pub loop-at-init : goal.loop-at-init
loop-at-init c = (stop_begins c.args.def.now c.args.k, c.requires.within)

pub loop-at-preserved : goal.loop-at-preserved
loop-at-preserved c =
    let body = c.as_slice-body.ensures in
    stop_passed c.args.def.now c.args.k c.loop-at.at c.index-body-at.result c.loop-at.invariant.0 (rw (← body) c.loop-at-test.true)
    (rw (← body) c.index-body-at.is) (sym c.is_local.ensures ∙ c.if-not-is_local.false)
