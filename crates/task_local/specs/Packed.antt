-- The cells that a posting takes from a task's copy.
use Rattle.std.specs.Prelude.{ℕ, List, [], slice_get, ℤ, Option, if◌then◌else◌}
use Rattle.rt_base.specs.declared.data.Op.{Op}
use Rattle.rt_base.specs.declared.data.TaskDef.{TaskDef}
use Rattle.rt_base.specs.Operations.{is_receive, by_parts_of}
use Rattle.task_local.specs.Regions.{cells_of_span}

-- the cells of the message that an operation sends, and none where it sends none (MPI 4.0, 3.2.2)
abbrev pub packed_by : TaskDef → Option Op → List ℤ → List ℤ
packed_by task operation copy =
    by_parts_of [] (λ posted. if is_receive posted.how then [] else cells_of_span task posted.span copy) (λ waited. []) operation

-- the cells of the message that operation k sends
unfoldable pub packed : TaskDef → ℕ → List ℤ → List ℤ
packed task k copy = packed_by task (slice_get task.body.items k) copy
