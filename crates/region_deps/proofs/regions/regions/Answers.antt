-- one more task is added, and at the end all are
use Rattle.std.proofs.Common.{subst}
use Rattle.std.specs.List.{All}
use Rattle.std.proofs.lemmas.List.{take_all}
use Rattle.std.proofs.lemmas.List.Elements.{All-more}
use Rattle.region_deps.specs.Lines.{IsSmallTask}
use Rattle.region_deps.proofs.RegionLemmas.{regions_more}
use Rattle.region_deps.proofs.regions.regions.Goals as goal

pub loop-task-preserved : goal.loop-task-preserved
loop-task-preserved c = record {
  regions = regions_more c.args.tasks.now c.loop-task.task c.index-tasks-task.result _ _ _ c.loop-task-test.true c.index-tasks-task.is
      c.loop-task.invariant.regions c.in_ok-add.ensures.added;
  small = All-more IsSmallTask c.args.tasks.now c.loop-task.task c.index-tasks-task.result c.loop-task-test.true c.loop-task.invariant.small
      (subst IsSmallTask c.index-tasks-task.is c.in_ok-add.ensures.small);
}

pub returns-clause-small : goal.returns-clause-small
returns-clause-small c = subst (All IsSmallTask) (take_all c.loop-task.task c.args.tasks.now c.loop-task-test.false) c.loop-task.invariant.small
