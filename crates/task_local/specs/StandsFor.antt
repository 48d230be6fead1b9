-- What contracts see of a task's record, and when it stands for its task in a state of the machine.
use Rattle.std.specs.Prelude.{◌≡◌, ℕ, List, slice_get, ℤ, Some}
use Rattle.rt_base.specs.declared.data.Phase.{Phase}
use Rattle.rt_base.specs.declared.data.Phase.TheVariants as phase
use Rattle.rt_base.specs.declared.data.TaskDef.{TaskDef}
use Rattle.rt_base.specs.declared.data.Program.{Program}
use Rattle.rt_base.specs.State.{State, Task}
use Rattle.task_local.specs.Local.{advanced, stop}

-- a task's record: the program for which it was made, the task, where it stands, and its copy
pub record Record : Type 0 where
  pub program : Program
  pub task : ℕ
  pub phase : Phase
  pub copy : List ℤ

-- the copy and the phase are the task's after the local operations that come next; a waiting task has no copy yet
abbrev pub StandsAs : TaskDef → Phase → List ℤ → Task → Type 0
StandsAs def phase.Waiting copy task = task.phase ≡ phase.Waiting
StandsAs def (phase.At k) copy task = (stop def k ≡ task.phase) × (advanced def k copy ≡ task.copy)
StandsAs def (phase.In k) copy task = (task.phase ≡ phase.In k) × (copy ≡ task.copy)
StandsAs def phase.Ended copy task = (task.phase ≡ phase.Ended) × (copy ≡ task.copy)
StandsAs def phase.Returned copy task = (task.phase ≡ phase.Returned) × (copy ≡ task.copy)
StandsAs def phase.Released copy task = (task.phase ≡ phase.Released) × (copy ≡ task.copy)

-- the record stands for its task in this state of this program
pub record StandsFor (program : Program) (held : Record) (state : State) : Type 0 where
  pub same : held.program ≡ program
  pub def : TaskDef
  pub task : Task
  pub is_def : slice_get program.tasks.items held.task ≡ Some def
  pub is_task : slice_get state.tasks held.task ≡ Some task
  pub stands : StandsAs def held.phase held.copy task
