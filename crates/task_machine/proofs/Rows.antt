-- One equation for each kind of move.
use Rattle.std.proofs.Common.{◌≡◌, ℕ, slice_get, Some, refl}
use Rattle.rt_base.specs.declared.data.Phase.{Phase}
use Rattle.rt_base.specs.declared.data.TaskDef.{TaskDef}
use Rattle.rt_base.specs.declared.data.Program.{Program}
use Rattle.rt_base.specs.State.{State, Task}
use Rattle.task_machine.specs.Machine.{move, move_at}

-- the move of a task that stands there is the row of its phase
pub move-row : (p : Program) (s : State) (t : ℕ) (def : TaskDef) (task : Task) (at : Phase) → slice_get p.tasks.items t ≡ Some def
    → slice_get s.tasks t ≡ Some task
    → task.phase ≡ at → move p s t ≡ move_at p s t def task at
unfolding move
move-row p s t def task at is_def is_task stands = rw (is_def, is_task, stands) refl
