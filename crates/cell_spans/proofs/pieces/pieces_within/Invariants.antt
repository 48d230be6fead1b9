use Rattle.std.proofs.Common.{◌≡◌, ◌≤◌, take}
use Rattle.cell_spans.specs.Cuts.{cut_by_tasks}
use Rattle.cell_spans.proofs.pieces.pieces_within.Given as goal

-- the pieces of the tasks so far are counted
abbrev pub invariant-loop-task : goal.invariant-loop-task
invariant-loop-task l = record {
  total : l.total ≡ cut_by_tasks l.cuts.items (take l.task-index l.tasks);
  within : l.total ≤ l.most;
}
