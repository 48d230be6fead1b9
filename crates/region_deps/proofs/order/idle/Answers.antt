-- one more task was looked at
use Rattle.std.proofs.Common.{arith, refl}
use Rattle.region_deps.proofs.LayoutLemmas.{idle_more}
use Rattle.region_deps.proofs.order.idle.Goals as goal

pub loop-task-preserved : goal.loop-task-preserved
loop-task-preserved c = record {
  idle = idle_more c.args.left.now c.loop-task.task c.loop-task.startable.items c.offer.new.startable.items _ c.loop-task-test.true refl
      c.loop-task.invariant.idle c.in_ok-offer.ensures.added;
  room = omega (arith, c.loop-task.invariant.room, c.in_ok-offer.ensures.room);
}
