use Rattle.cell_spans.proofs.CutLemmas.{pieces_are, all_within, too_many}
use Rattle.cell_spans.proofs.pieces.pieces_within.Goals as goal

pub returns : goal.returns
returns c = all_within c.in_ok-cuts.cuts.items c.args.tasks.now c.loop-task.total c.loop-task.task-index c.args.most
    (pieces_are c.in_ok-cuts.cuts.items c.args.tasks.now c.in_ok-cuts.ensures.bounds c.in_ok-cuts.ensures.small) c.loop-task-test.false
    c.loop-task.invariant.total c.loop-task.invariant.within

pub returns-in-None : goal.returns-in-None
returns-in-None c = too_many c.in_ok-cuts.cuts.items c.args.tasks.now c.loop-task.total c.loop-task.task-index c.args.most c.task-item.result
    (pieces_are c.in_ok-cuts.cuts.items c.args.tasks.now c.in_ok-cuts.ensures.bounds c.in_ok-cuts.ensures.small) c.loop-task-test.true c.task-item.is
    c.loop-task.invariant.total
    (rw (← c.deref.ensures.value, ← c.as_slice.ensures) c.in-None.ensures.none)
