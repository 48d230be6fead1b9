-- the tasks so far have their heads
use Rattle.std.specs.Prelude.{◌≡◌, ℕ, ◌<◌, length, slice_index}
use Rattle.region_deps.specs.Epochs.{IsHead}
use Rattle.region_deps.proofs.epochs.heads.Given as goal

abbrev pub invariant-loop-task : goal.invariant-loop-task
invariant-loop-task l = record {
  long : length l.heads.items ≡ l.task;
  each : (task : ℕ) → task < l.task → IsHead l.tasks l.heads.items task (slice_index l.heads.items task);
}
