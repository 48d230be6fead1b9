use Rattle.std.proofs.Common.{◌≡◌, take}
use Rattle.cell_spans.specs.Cuts.{all_bounds, AreTasksSmall}
use Rattle.cell_spans.proofs.pieces.all_bounds.Given as goal

-- the bounds of the tasks so far are there, and their numbers fit
abbrev pub invariant-loop-task : goal.invariant-loop-task
invariant-loop-task l = record {
  bounds : l.bounds.items ≡ all_bounds (take l.task-index l.tasks);
  small : AreTasksSmall (take l.task-index l.tasks);
}
