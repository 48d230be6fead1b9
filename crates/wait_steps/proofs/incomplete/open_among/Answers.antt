use Rattle.wait_steps.proofs.Handles.{counted_at_end}
use Rattle.wait_steps.proofs.incomplete.open_among.Goals as goal

pub returns : goal.returns
returns c =
    counted_at_end c.args.engine.now.program c.args.engine.now.exchange c.args.task.0 c.args.handles.now c.loop-handle.handle-index c.loop-handle.count
    c.loop-handle-test.false c.loop-handle.invariant.whole
