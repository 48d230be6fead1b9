-- none of the tasks so far has two accesses that overlap
use Rattle.std.specs.Prelude.{ℕ, ◌<◌, slice_index_or}
use Rattle.rt_base.specs.declared.data.TaskDef.{TaskDef}
use Rattle.region_deps.specs.Lines.{IsApart}
use Rattle.region_deps.proofs.deps.tests.orderly.are_all_apart.Given as goal

abbrev pub invariant-loop-task : goal.invariant-loop-task
invariant-loop-task l = (k : ℕ) (d : TaskDef) → k < l.task → IsApart (slice_index_or l.tasks k d)
