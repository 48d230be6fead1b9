-- What the moves of a run open, and what a move makes of what it opens.
use Rattle.std.specs.Prelude.{◌≡◌, ℕ, ◌≤◌, true, false, List, [], ◌∷◌, ◌++◌, slice_get, count_by, Some}
use Rattle.rt_base.specs.declared.data.ReqNo.{ReqNo}
use Rattle.rt_base.specs.declared.data.Phase.TheVariants as phase
use Rattle.rt_base.specs.declared.data.TaskDef.{TaskDef}
use Rattle.rt_base.specs.declared.data.Program.{Program}
use Rattle.rt_base.specs.Operations.{awaited}
use Rattle.rt_base.specs.Matching.{same_request}
use Rattle.rt_base.specs.Completion.{is_complete}
use Rattle.rt_base.specs.State.{State, Task, opening}
use Rattle.rt_base.specs.MayMove.{MayMove}
use Rattle.rt_base.specs.WellFormed.{WellFormed}
use Rattle.task_machine.specs.Machine.{move, step, is_expected, open_ones}
use Rattle.task_machine.specs.Legal.{IsDefined, state_of}
use Rattle.task_machine.specs.Owed.{opened, opened_by_step, IsOneOf, IsOwed}
use Rattle.tidy_runs.specs.Tidy.{AreOf}

-- all that the steps of these callers open, in order: a move what it opens, a poll nothing (TAMPI, completion by polling)
abbrev pub openings : Program → State → List ℕ → List ReqNo
openings program state [] = []
openings program state (caller ∷ callers) =
    opened_by_step program state caller [] ++ openings program (step program state caller).state callers

-- a move opens requests of its own task; it holds in every state (MPI 4.0, 3.7.3)
abbrev pub MovesOpenTheirOwn : Type 0
MovesOpenTheirOwn = (program : Program) (state : State) (t : ℕ) → AreOf t (opened program state t)

-- over a run of a program that may be run each request is opened at most once
-- (MPI 4.0, 3.7.3: a request is named by one wait; TAMPI, TAMPI_Iwait)
abbrev pub NothingIsOpenedTwice : Type 0
NothingIsOpenedTwice =
    (program : Program) (workers : ℕ) (callers : List ℕ) → WellFormed program → IsDefined program workers (opening program) callers
    → (req : ReqNo) → count_by (same_request req) (openings program (opening program) callers) ≤ 1

-- after a run the next move opens nothing that the run opened (MPI 4.0, 3.7.3; TAMPI, TAMPI_Iwait)
abbrev pub OpenedAreNew : Type 0
OpenedAreNew =
    (program : Program) (workers : ℕ) (callers : List ℕ) → WellFormed program → IsDefined program workers (opening program) callers
    → (t : ℕ) → MayMove program (state_of program callers) t
    → (req : ReqNo) → IsOneOf req (opened program (state_of program callers) t) → IsOneOf req (openings program (opening program) callers) → ⊥

-- what is owed after a run was opened in it (TAMPI, completion by polling)
abbrev pub OwedWereOpened : Type 0
OwedWereOpened =
    (program : Program) (workers : ℕ) (callers : List ℕ) → IsDefined program workers (opening program) callers
    → (req : ReqNo) → IsOwed program (state_of program callers) req → IsOneOf req (openings program (opening program) callers)

-- what is bound to a task after a run was opened in it (TAMPI, TAMPI_Iwait)
abbrev pub BoundWereOpened : Type 0
BoundWereOpened =
    (program : Program) (workers : ℕ) (callers : List ℕ) → IsDefined program workers (opening program) callers
    → (t : ℕ) (task : Task) → slice_get (state_of program callers).tasks t ≡ Some task
    → (req : ReqNo) → IsOneOf req task.bound → IsOneOf req (openings program (opening program) callers)

-- what the move of task t makes of what it opens: where the task is in operation k after it, it came there by this move, what is bound stays,
-- and the opened requests are those that it awaits there and that are incomplete; if there are none it may go on. Wherever else it is, the opened
-- requests are bound behind those that were. All of them are incomplete after the move (MPI 4.0, 3.4 and 3.7.3; TAMPI, TAMPI_Iwait)
pub record Opens (program : Program) (state : State) (t : ℕ) : Type 0 where
  pub def : TaskDef
  pub before : Task
  pub after : Task
  pub is_def : slice_get program.tasks.items t ≡ Some def
  pub was : slice_get state.tasks t ≡ Some before
  pub now : slice_get (move program state t).state.tasks t ≡ Some after
  pub came : (k : ℕ) → after.phase ≡ phase.In k → before.phase ≡ phase.At k
  pub stays : (k : ℕ) → after.phase ≡ phase.In k → after.bound ≡ before.bound
  pub waits : (k : ℕ) → after.phase ≡ phase.In k
      → opened program state t ≡ open_ones program (move program state t).state.exchange (awaited t def k)
  pub goes : ((k : ℕ) → after.phase ≡ phase.In k → ⊥) → after.bound ≡ before.bound ++ opened program state t
  pub incomplete : (req : ReqNo) → IsOneOf req (opened program state t) → is_complete program (move program state t).state.exchange req ≡ false
  pub none_open : (k : ℕ) → after.phase ≡ phase.In k → opened program state t ≡ [] → MayMove program (move program state t).state t

-- so does every move that may be made, in any state
abbrev pub MovesOpen : Type 0
MovesOpen = (program : Program) (state : State) (t : ℕ) → MayMove program state t → Opens program state t

-- what a move opens is owed after it: its task is still to be told of it (TAMPI, completion by polling)
abbrev pub OpenedAreOwed : Type 0
OpenedAreOwed =
    (program : Program) (state : State) (t : ℕ) → MayMove program state t → (req : ReqNo) → IsOneOf req (opened program state t)
    → IsOwed program (move program state t).state req

-- an incomplete request that is expected still is after a move: what is bound stays bound, and a task leaves an operation only when all that it
-- awaits there is complete (MPI 4.0, 3.7.3; TAMPI, TAMPI_Iwait)
abbrev pub ExpectedStays : Type 0
ExpectedStays =
    (program : Program) (state : State) (t : ℕ) → MayMove program state t → (req : ReqNo) → is_complete program state.exchange req ≡ false
    → is_expected program state.tasks req ≡ true → is_expected program (move program state t).state.tasks req ≡ true
