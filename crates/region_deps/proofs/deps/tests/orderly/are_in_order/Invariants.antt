-- each of the tasks so far may stand behind those before it
use Rattle.std.specs.Prelude.{ℕ, ◌<◌, slice_index_or}
use Rattle.rt_base.specs.declared.data.TaskDef.{TaskDef}
use Rattle.rt_base.specs.WellFormed.{InOrder}
use Rattle.region_deps.proofs.deps.tests.orderly.are_in_order.Given as goal

abbrev pub invariant-loop-task : goal.invariant-loop-task
invariant-loop-task l = (i j : ℕ) (d : TaskDef) → i < j → j < l.task → InOrder (slice_index_or l.tasks i d) (slice_index_or l.tasks j d)
