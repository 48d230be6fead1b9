use Rattle.std.proofs.Common.{◌≡◌, ℕ, ◌<◌, ◌≤◌, slice_get, Some}
use Rattle.rt_base.specs.declared.data.TaskDef.{TaskDef}
use Rattle.book_parts.specs.Kept.{opens}
use Rattle.book_parts.proofs.room.longest_wait.Given as goal

-- no operation of the tasks so far opens more
abbrev pub invariant-loop-task : goal.invariant-loop-task
invariant-loop-task l = (t k : ℕ) (def : TaskDef) → t < l.task-index → slice_get l.tasks t ≡ Some def → opens (slice_get def.body.items k) ≤ l.most
