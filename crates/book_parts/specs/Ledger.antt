-- What contracts see of a book, and what each of its moves does.
use Rattle.std.specs.Prelude.{◌≡◌, ℕ, ◌+◌, ◌^◌, ◌<◌, List, [], ◌∷◌, ◌++◌, Bool, false, replicate, length, slice_get, Some, option_map, unwrap_or, ⊤}
use Rattle.std.specs.Prelude.{if◌then◌else◌}
use Rattle.rt_base.specs.declared.data.ReqNo.{ReqNo}
use Rattle.rt_base.specs.declared.data.Phase.{Phase}
use Rattle.rt_base.specs.declared.data.Phase.TheVariants as phase
use Rattle.rt_base.specs.declared.data.TaskDef.{TaskDef}
use Rattle.rt_base.specs.declared.data.Status.{Status}
use Rattle.rt_base.specs.declared.data.Entry.{Entry}
use Rattle.rt_base.specs.declared.data.Entry.TheVariants as entry
use Rattle.rt_base.specs.declared.data.Program.{Program}
use Rattle.rt_base.specs.Precedes.{MayStart}
use Rattle.rt_base.specs.State.{State, Task, let_go}
use Rattle.task_local.specs.Regions.{loaded}
use Rattle.task_local.specs.Waits.{taken, taken_at_release}
use Rattle.task_local.specs.StandsFor.{Record, StandsFor}
use Rattle.task_local.specs.Standing.{def, phase_before}
use Rattle.task_machine.specs.Machine.{move, poll, bound_at, or_none}
use Rattle.task_machine.specs.Legal.{final}
use Rattle.task_machine.specs.Laws.{is_blocking_call}

-- a book: the program and the number of workers for which it was built, the history so far, and which tasks were handed out
pub record Ledger : Type 0 where
  pub program : Program
  pub workers : ℕ
  pub history : List Entry
  pub statuses : List Status
  pub handed : List Bool

-- a new book: nothing has happened, and no task was handed out
abbrev pub new_ledger : Program → ℕ → Ledger
new_ledger program workers = record {
  program = program;
  workers = workers;
  history = [];
  statuses = [];
  handed = replicate (length program.tasks.items) false;
}

-- a task that may start was not handed out
abbrev pub IsReady : Ledger → ℕ → Type 0
IsReady book t = (slice_get book.handed t ≡ Some false) × MayStart book.program (let_go (final book.program book.history).tasks) t

-- the numbers of the operations whose requests the release of task t takes, in order, none where there is no such task (TAMPI, TAMPI_Iwait)
abbrev pub named_in : List Task → ℕ → List ℕ
named_in tasks t = unwrap_or (option_map (λ (task : Task). task.named) (slice_get tasks t)) []

-- the requests that a task has bound in a state, none where there is no such task (TAMPI, TAMPI_Iwait)
abbrev pub bound_in : State → ℕ → List ReqNo
bound_in state t = or_none (bound_at state.tasks t)

-- where a call of operation k leaves its record: in the operation where it blocks, and else before the next one
abbrev pub phase_after_call : TaskDef → ℕ → Phase
phase_after_call def k = if is_blocking_call (slice_get def.body.items k) then phase.In k else phase_before def (k + 1)

-- the record after the move of its task, which stands there: what the move stored is in its copy, and the local operations that come next have not run
abbrev pub record_at : Program → State → TaskDef → Record → Phase → Record
record_at program state def held phase.Waiting = record held { phase = phase_before def 0; copy = loaded program def state.memory }
record_at program state def held (phase.At k) = record held { phase = phase_after_call def k }
record_at program state def held (phase.In k) =
    record held { phase = phase_before def (k + 1); copy = taken program state.exchange held.task def k held.copy }
record_at program state def held phase.Ended = record held { phase = phase.Returned }
record_at program state def held phase.Returned =
    record held { phase = phase.Released; copy = taken_at_release program state.exchange held.task def (named_in state.tasks held.task) held.copy }
record_at program state def held phase.Released = held

-- the same, from where the record stands
abbrev pub record_after : Program → State → Record → Record
record_after program state held = record_at program state (def held) held held.phase

-- the book has made the move of the record's task: the state is that after the move, and the record stands for the task in it,
-- before the local operations that come next. The history is short: its length is a 32-bit number
pub record MakesMove (old new : Ledger) (before after : Record) : Type 0 where
  pub entry : new.history ≡ old.history ++ (move old.program (final old.program old.history) before.task).entry ∷ []
  pub state : final old.program new.history ≡ (move old.program (final old.program old.history) before.task).state
  pub statuses : new.statuses ≡ (final old.program new.history).statuses
  pub program : new.program ≡ old.program
  pub workers : new.workers ≡ old.workers
  pub handed : new.handed ≡ old.handed
  pub short : length new.history < 2 ^ 32
  pub task : after.task ≡ before.task
  pub stands : StandsFor old.program after (final old.program new.history)
  pub left : after ≡ record_after old.program (final old.program old.history) before

-- the book has taken the first notice for this poller: the state is that after the poll, so tasks, exchange, memory and statuses are as before
-- (TAMPI, completion by polling)
pub record TakesNotice (old new : Ledger) (poller : ℕ) (req : ReqNo) : Type 0 where
  pub entry : new.history ≡ old.history ++ entry.Poll poller req ∷ []
  pub first : (final old.program old.history).notices ≡ req ∷ (final old.program new.history).notices
  pub state : final old.program new.history ≡ (poll (final old.program old.history) poller).state
  pub program : new.program ≡ old.program
  pub workers : new.workers ≡ old.workers
  pub statuses : new.statuses ≡ old.statuses
  pub handed : new.handed ≡ old.handed
  pub short : length new.history < 2 ^ 32

-- the task is in an operation
abbrev pub IsInOperation : Phase → Type 0
IsInOperation phase.Waiting = ⊥
IsInOperation (phase.At k) = ⊥
IsInOperation (phase.In k) = ⊤
IsInOperation phase.Ended = ⊥
IsInOperation phase.Returned = ⊥
IsInOperation phase.Released = ⊥

-- the entry is a call that leaves so many requests incomplete
abbrev pub LeavesPending : Entry → ℕ → Type 0
LeavesPending (entry.Start task) count = ⊥
LeavesPending (entry.Call task op pending) count = count ≡ pending
LeavesPending (entry.Leave task op from told) count = ⊥
LeavesPending (entry.Return task) count = ⊥
LeavesPending (entry.Release task from told) count = ⊥
LeavesPending (entry.Poll poller req) count = ⊥
