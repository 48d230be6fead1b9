-- the tasks so far that nothing holds are in the list, each once, and there is room for all
use Rattle.std.specs.Prelude.{◌≤◌, length, vec_capacity}
use Rattle.region_deps.proofs.LayoutLemmas.{IsIdle}
use Rattle.region_deps.proofs.order.idle.Given as goal

abbrev pub invariant-loop-task : goal.invariant-loop-task
invariant-loop-task l = record {
  idle : IsIdle l.left l.task l.startable.items;
  room : length l.left ≤ vec_capacity l.startable;
}
