-- What follows for runs: what the steps of others leave, and what comes after a quiet state.
use Rattle.std.specs.Prelude.{◌≡◌, ℕ, ◌<◌, ◌≤◌, true, List, length, slice_get, Contains, All, ℤ, Some}
use Rattle.rt_base.specs.declared.data.ReqNo.{ReqNo}
use Rattle.rt_base.specs.declared.data.Phase.TheVariants as phase
use Rattle.rt_base.specs.declared.data.Entry.TheVariants as entry
use Rattle.rt_base.specs.declared.data.Status.{Status}
use Rattle.rt_base.specs.declared.data.Program.{Program}
use Rattle.rt_base.specs.Exchange.{Exchange}
use Rattle.rt_base.specs.Completion.{is_complete}
use Rattle.rt_base.specs.State.{State, Task, phase_of}
use Rattle.rt_base.specs.Operations.{task_no}
use Rattle.rt_base.specs.MayMove.{MayMove, AreComplete}
use Rattle.task_machine.specs.Machine.{step, MayStep}
use Rattle.task_machine.specs.Legal.{IsDefined, IsQuiet, state_after}

-- a step leaves every task that doesn't make it as it was (transition systems)
abbrev pub StepsLeaveOthers : Type 0
StepsLeaveOthers =
    (program : Program) (workers : ℕ) (state : State) (who : ℕ) → MayStep program workers state who
    → (u : ℕ) → ¬ (u ≡ who) → slice_get (step program state who).state.tasks u ≡ slice_get state.tasks u

-- a complete request stays complete over a step (MPI 4.0, 3.7.3)
abbrev pub CompleteStays : Type 0
CompleteStays =
    (program : Program) (workers : ℕ) (state : State) (who : ℕ) → MayStep program workers state who
    → (req : ReqNo) → is_complete program state.exchange req ≡ true → is_complete program (step program state who).state.exchange req ≡ true

-- a task that may move still may after the step of another (transition systems: an enabled step stays enabled)
abbrev pub EnabledStays : Type 0
EnabledStays =
    (program : Program) (workers : ℕ) (state : State) (who : ℕ) → MayStep program workers state who
    → (u : ℕ) → ¬ (u ≡ who) → MayMove program state u → MayMove program (step program state who).state u

-- a task that moved in a run waits for no predecessor at its end (OmpSs-2, task dependences)
abbrev pub CallersWaitNoLonger : Type 0
CallersWaitNoLonger =
    (program : Program) (workers : ℕ) (state : State) (callers : List ℕ) → IsDefined program workers state callers
    → (t : ℕ) → t < length program.tasks.items → Contains callers t → ¬ (phase_of (state_after program state callers) t ≡ Some phase.Waiting)

-- both are one but for the notices
pub record IsAlike (one other : State) : Type 0 where
  pub memory : one.memory ≡ other.memory
  pub tasks : one.tasks ≡ other.tasks
  pub exchange : one.exchange ≡ other.exchange
  pub statuses : one.statuses ≡ other.statuses

-- after a quiet state only polls follow; all but the notices stays, and so does quiet
abbrev pub OnlyPollsFollow : Type 0
OnlyPollsFollow =
    (program : Program) (workers : ℕ) (state : State) (callers : List ℕ) → IsQuiet program state → IsDefined program workers state callers
    → All (λ who. length program.tasks.items ≤ who) callers
    × IsAlike state (state_after program state callers) × IsQuiet program (state_after program state callers)

-- the task has returned, and every request bound to it is complete (TAMPI, TAMPI_Iwait)
pub record HasAllComplete (program : Program) (state : State) (t : ℕ) : Type 0 where
  pub task : Task
  pub is_task : slice_get state.tasks t ≡ Some task
  pub returned : task.phase ≡ phase.Returned
  pub complete : AreComplete program state.exchange task.bound

-- where a step's entry is the release of a task, that task has returned before it and every request bound to it is complete
abbrev pub ReleasesFindAllComplete : Type 0
ReleasesFindAllComplete =
    (program : Program) (workers : ℕ) (state : State) (who : ℕ) → MayStep program workers state who
    → (t from count : ℕ) → (step program state who).entry ≡ entry.Release (task_no t) from count → HasAllComplete program state t
