-- In which order the tasks of a legal history start and are released.
use Rattle.std.specs.Prelude.{◌≡◌, ℕ, ◌<◌, List, take, slice_get, Some}
use Rattle.rt_base.specs.declared.data.Status.{Status}
use Rattle.rt_base.specs.declared.data.Entry.{Entry}
use Rattle.rt_base.specs.declared.data.Entry.TheVariants as entry
use Rattle.rt_base.specs.declared.data.Program.{Program}
use Rattle.rt_base.specs.Operations.{task_no}
use Rattle.rt_base.specs.Precedes.{Precedes}
use Rattle.rt_base.specs.State.{Task}
use Rattle.rt_base.specs.MayMove.{AreComplete}
use Rattle.task_machine.specs.Legal.{final, IsLegal}

-- before this place of the history task u has returned and was then released, and when it was released every request bound to it was complete
pub record IsReleasedBefore (program : Program) (entries : List Entry) (u place : ℕ) : Type 0 where
  pub return_place : ℕ
  pub release_place : ℕ
  pub from : ℕ
  pub count : ℕ
  pub returns : slice_get entries return_place ≡ Some (entry.Return (task_no u))
  pub releases : slice_get entries release_place ≡ Some (entry.Release (task_no u) from count)
  pub in_order : return_place < release_place
  pub earlier : release_place < place
  pub task : Task
  pub is_task : slice_get (final program (take release_place entries)).tasks u ≡ Some task
  pub complete : AreComplete program (final program (take release_place entries)).exchange task.bound

-- where a task starts, each task that precedes it is released (OmpSs-2, task dependences and taskwait; TAMPI, TAMPI_Iwait)
abbrev pub TasksStartInOrder : Type 0
TasksStartInOrder =
    (program : Program) (workers : ℕ) (entries : List Entry) (statuses : List Status) → IsLegal program workers entries statuses
    → (place t u : ℕ) → slice_get entries place ≡ Some (entry.Start (task_no t)) → Precedes program u t → IsReleasedBefore program entries u place
