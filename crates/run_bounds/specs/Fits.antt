-- How the state after a run fits its program: where tasks may stand, and what they have posted.
use Rattle.std.specs.Prelude.{◌≡◌, ℕ, ◌<◌, true, List, length, slice_get, Some, ⊤}
use Rattle.rt_base.specs.declared.data.Phase.{Phase}
use Rattle.rt_base.specs.declared.data.Phase.TheVariants as phase
use Rattle.rt_base.specs.declared.data.TaskDef.{TaskDef}
use Rattle.rt_base.specs.declared.data.Program.{Program}
use Rattle.rt_base.specs.Operations.{request}
use Rattle.rt_base.specs.Completion.{is_posted}
use Rattle.rt_base.specs.State.{State, Task, opening}
use Rattle.rt_base.specs.WellFormed.{WellFormed}
use Rattle.task_local.specs.Standing.{IsCall}
use Rattle.task_machine.specs.Course.{posted_by_phase}
use Rattle.task_machine.specs.Laws.{is_blocking_call}
use Rattle.task_machine.specs.Legal.{IsDefined, state_of}

-- where a task may stand: before a call, for its local operations have run, or in a call that blocks (MPI 4.0, 2.4.2)
abbrev pub MayStand : TaskDef → Phase → Type 0
MayStand def phase.Waiting = ⊤
MayStand def (phase.At k) = IsCall (slice_get def.body.items k)
MayStand def (phase.In k) = is_blocking_call (slice_get def.body.items k) ≡ true
MayStand def phase.Ended = ⊤
MayStand def phase.Returned = ⊤
MayStand def phase.Released = ⊤

-- the tasks are those of the program, each stands where a task may, and what is posted is what the tasks have posted (this project's)
pub record FitsProgram (program : Program) (state : State) : Type 0 where
  pub counted : length state.tasks ≡ length program.tasks.items
  pub placed : (t : ℕ) (def : TaskDef) (task : Task) → slice_get program.tasks.items t ≡ Some def → slice_get state.tasks t ≡ Some task
      → MayStand def task.phase
  pub posted : (t n : ℕ) (def : TaskDef) (task : Task) → slice_get program.tasks.items t ≡ Some def → slice_get state.tasks t ≡ Some task
      → is_posted state.exchange (request t n) ≡ true → n < posted_by_phase def task.phase

-- so it is after every run of a program that may be run
abbrev pub RunsFit : Type 0
RunsFit =
    (program : Program) (workers : ℕ) (callers : List ℕ) → WellFormed program → IsDefined program workers (opening program) callers
    → FitsProgram program (state_of program callers)
