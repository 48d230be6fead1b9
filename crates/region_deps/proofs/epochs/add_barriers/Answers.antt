-- one more task has its barrier
use Rattle.region_deps.proofs.EpochLemmas.{barriers_more}
use Rattle.region_deps.proofs.epochs.add_barriers.Goals as goal

pub loop-task-preserved : goal.loop-task-preserved
loop-task-preserved c =
    barriers_more c.args.tasks.now c.args.heads.now c.args.accesses c.loop-task.task _ c.loop-task.links.items c.add.new.links.items c.barrier-found.result
    c.loop-task.invariant c.barrier-found.ensures.some c.barrier-found.ensures.none c.in_ok-add.ensures
