-- the task may stand behind those so far
use Rattle.std.specs.Prelude.{ℕ, ◌<◌, slice_index_or}
use Rattle.rt_base.specs.declared.data.TaskDef.{TaskDef}
use Rattle.rt_base.specs.WellFormed.{InOrder}
use Rattle.region_deps.proofs.deps.tests.orderly.is_behind_all.Given as goal

abbrev pub invariant-loop-earlier : goal.invariant-loop-earlier
invariant-loop-earlier l = (i : ℕ) (d : TaskDef) → i < l.earlier → InOrder (slice_index_or l.tasks i d) (slice_index_or l.tasks l.task d)
