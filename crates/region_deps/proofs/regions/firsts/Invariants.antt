-- the first accesses of the tasks so far
use Rattle.std.specs.Prelude.{◌≡◌, ℕ, ◌<◌, length, slice_index}
use Rattle.region_deps.specs.Lines.{accesses_before}
use Rattle.region_deps.proofs.regions.firsts.Given as goal

abbrev pub invariant-loop-task : goal.invariant-loop-task
invariant-loop-task l = record {
  long : length l.first.items ≡ l.task-index;
  first : (task : ℕ) → task < l.task-index → slice_index l.first.items task ≡ accesses_before l.tasks task;
  before : l.before ≡ accesses_before l.tasks l.task-index;
}
