-- the links to the tasks so far are added
use Rattle.region_deps.specs.Epochs.{HasBarriers}
use Rattle.region_deps.proofs.epochs.add_barriers.Given as goal

abbrev pub invariant-loop-task : goal.invariant-loop-task
invariant-loop-task l = HasBarriers l.tasks l.heads l.accesses l.task l.initial.links.items l.links.items
