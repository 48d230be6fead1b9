-- the regions of the tasks so far, and those of the rest, are those of all
use Rattle.std.specs.Prelude.{◌≡◌, ◌++◌, All, drop, take}
use Rattle.region_deps.specs.Lines.{regions_from, IsSmallTask}
use Rattle.region_deps.proofs.regions.regions.Given as goal

abbrev pub invariant-loop-task : goal.invariant-loop-task
invariant-loop-task l = record {
  regions : l.regions.items ++ regions_from l.task (drop l.task l.tasks) ≡ regions_from 0 l.tasks;
  small : All IsSmallTask (take l.task l.tasks);
}
