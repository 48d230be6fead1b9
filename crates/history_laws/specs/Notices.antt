-- Which notices the moves of tasks leave.
use Rattle.std.specs.Prelude.{◌≡◌, ℕ, ◌+◌, ◌<◌, ◌≤◌, ◌↔◌, true, false, ◌⊎◌, List, ◌++◌, length, count_by, slice_get, Contains, Some, if◌then◌else◌}
use Rattle.rt_base.specs.declared.data.ReqNo.{ReqNo}
use Rattle.rt_base.specs.declared.data.Phase.{Phase}
use Rattle.rt_base.specs.declared.data.Phase.TheVariants as phase
use Rattle.rt_base.specs.declared.data.Handle.TheVariants as handle
use Rattle.rt_base.specs.declared.data.Op.{Op}
use Rattle.rt_base.specs.declared.data.TaskDef.{TaskDef}
use Rattle.rt_base.specs.declared.data.Status.{Status}
use Rattle.rt_base.specs.declared.data.Entry.{Entry}
use Rattle.rt_base.specs.declared.data.Program.{Program}
use Rattle.rt_base.specs.Operations.{WaitParts, wait_parts, nth_at, awaited}
use Rattle.rt_base.specs.Matching.{same_request}
use Rattle.rt_base.specs.Completion.{is_complete}
use Rattle.rt_base.specs.State.{State, Task, opening}
use Rattle.rt_base.specs.MayMove.{MayMove}
use Rattle.rt_base.specs.WellFormed.{WellFormed}
use Rattle.task_machine.specs.Machine.{move}
use Rattle.task_machine.specs.Legal.{final, state_of, IsDefined, IsLegal}

-- a task that stands there is in an operation in which it waits for the request (MPI 4.0, 3.4 and 3.7.3)
pub record IsAwaited (program : Program) (t : ℕ) (at : Phase) (req : ReqNo) : Type 0 where
  pub def : TaskDef
  pub k : ℕ
  pub is_def : slice_get program.tasks.items t ≡ Some def
  pub inside : at ≡ phase.In k
  pub names : Contains (awaited t def k) req

-- the request is bound to task t, or t waits for it in the operation in which it is (TAMPI, TAMPI_Iwait)
pub record IsExpectedBy (program : Program) (state : State) (t : ℕ) (req : ReqNo) : Type 0 where
  pub task : Task
  pub is_task : slice_get state.tasks t ≡ Some task
  pub expects : Contains task.bound req ⊎ IsAwaited program t task.phase req

-- from the one state to the other the request became complete, and in the first a task was to be told of it
pub record BecameComplete (program : Program) (before after : State) (req : ReqNo) : Type 0 where
  pub incomplete : is_complete program before.exchange req ≡ false
  pub complete : is_complete program after.exchange req ≡ true
  pub t : ℕ
  pub expected : IsExpectedBy program before t req

-- at most one notice was added, and the added notices are exactly the requests that became complete and of which a task was to be told
pub record AreNoticed (program : Program) (before after : State) : Type 0 where
  pub added : List ReqNo
  pub notices : after.notices ≡ before.notices ++ added
  pub few : length added ≤ 1
  pub exactly : (req : ReqNo) → Contains added req ↔ BecameComplete program before after req

-- each wait of a body names only requests that the body posts before it (MPI 4.0, 3.7.3: a handle comes from the call that posts)
abbrev pub WaitsNamePosted : Program → Type 0
WaitsNamePosted program =
    (t k n : ℕ) (def : TaskDef) (operation : Op) (waited : WaitParts) → slice_get program.tasks.items t ≡ Some def
    → slice_get def.body.items k ≡ Some operation → wait_parts operation ≡ Some waited → Contains waited.handles (handle.Nth n) → n < nth_at def k

-- where waits name posted requests, a move of a task after a legal history notices exactly what it completes and is expected
-- (TAMPI, completion by polling)
abbrev pub MovesNoticeCompletions : Type 0
MovesNoticeCompletions =
    (program : Program) (workers : ℕ) (entries : List Entry) (statuses : List Status) → IsLegal program workers entries statuses → WaitsNamePosted program
    → (t : ℕ) → MayMove program (final program entries) t → AreNoticed program (final program entries) (move program (final program entries) t).state

-- so is it in every program that may be run
abbrev pub WellFormedWaitsNamePosted : Type 0
WellFormedWaitsNamePosted = (program : Program) → WellFormed program → WaitsNamePosted program

-- how often a task is still to be told of the request, if it expects it: once while it is incomplete, and once for each notice of it that stands
abbrev pub standing : Program → State → ReqNo → ℕ
standing program state req =
    count_by (same_request req) state.notices + (if is_complete program state.exchange req then 0 else 1)

-- after a run each notice that stands is of a complete request, and stands once (TAMPI, completion by polling)
abbrev pub NoticesStandOnce : Type 0
NoticesStandOnce =
    (program : Program) (workers : ℕ) (made_by : List ℕ) → IsDefined program workers (opening program) made_by
    → (req : ReqNo) → standing program (state_of program made_by) req ≤ 1
