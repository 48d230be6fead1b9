-- How the plain run keeps the records of the tasks. No public clause cites this module.
use Rattle.std.specs.Prelude.{◌≡◌, ℕ, ◌+◌, ◌*◌, ◌<◌, ◌≤◌, Bool, true, false, List, [], length, slice_get, Some, ⊤}
use Rattle.rt_base.specs.declared.data.Phase.{Phase}
use Rattle.rt_base.specs.declared.data.Phase.TheVariants as phase
use Rattle.rt_base.specs.declared.data.TaskDef.{TaskDef}
use Rattle.rt_base.specs.declared.data.Program.{Program}
use Rattle.rt_base.specs.State.{State}
use Rattle.task_local.specs.StandsFor.{Record, StandsFor}
use Rattle.task_local.specs.Standing.{def}
use Rattle.book_parts.specs.Ledger.{Ledger}
use Rattle.task_machine.specs.Legal.{final, phases_of, IsQuiet}
use Rattle.task_machine.specs.Course.{all_left}

-- a task that stands there was started
abbrev pub is_started : Phase → Bool
is_started phase.Waiting = false
is_started (phase.At k) = true
is_started (phase.In k) = true
is_started phase.Ended = true
is_started phase.Returned = true
is_started phase.Released = true

-- where the task is in an operation, its body has that operation
abbrev pub HasOperation : TaskDef → Phase → Type 0
HasOperation def phase.Waiting = ⊤
HasOperation def (phase.At k) = ⊤
HasOperation def (phase.In k) = k < length def.body.items
HasOperation def phase.Ended = ⊤
HasOperation def phase.Returned = ⊤
HasOperation def phase.Released = ⊤

-- the record is that of task t and stands for it, and the task was started if it was handed out
pub record IsInLine (program : Program) (state : State) (handed : List Bool) (t : ℕ) (held : Record) : Type 0 where
  pub mine : held.task ≡ t
  pub stands : StandsFor program held state
  pub placed : HasOperation (def held) held.phase
  pub handed_out : slice_get handed t ≡ Some (is_started held.phase)

-- the records are those of all tasks, in the state after the book's history
pub record AreInLine (book : Ledger) (records : List Record) : Type 0 where
  pub counted : length records ≡ length book.program.tasks.items
  pub each : (t : ℕ) (held : Record) → slice_get records t ≡ Some held → IsInLine book.program (final book.program book.history) book.handed t held

-- a record of task t that was not started
pub record IsFresh (program : Program) (t : ℕ) (held : Record) : Type 0 where
  pub same : held.program ≡ program
  pub mine : held.task ≡ t
  pub waits : held.phase ≡ phase.Waiting

-- such records of the first tasks
abbrev pub AreFresh : Program → List Record → Type 0
AreFresh program records = (t : ℕ) (held : Record) → slice_get records t ≡ Some held → IsFresh program t held

-- at most how many moves the tasks have left after the book's history
abbrev pub left : Ledger → ℕ
left book = all_left book.program.tasks.items (phases_of (final book.program book.history).tasks)

-- at most how many turns a run has left: a move may bring a notice, and a turn takes a notice or makes a move
abbrev pub turns_left : Ledger → ℕ
turns_left book = 2 * left book + length (final book.program book.history).notices

-- the records are those of all tasks after one move more, or one notice less
pub record GoesOn (old new : Ledger) (records : List Record) : Type 0 where
  pub program : new.program ≡ old.program
  pub workers : new.workers ≡ old.workers
  pub in_line : AreInLine new records
  pub fewer : turns_left new + 1 ≤ turns_left old

-- one step more, or none where no task may move
abbrev pub EndsTurn : Ledger → Ledger → List Record → Bool → Type 0
EndsTurn old new records true = GoesOn old new records
EndsTurn old new records false = (new ≡ old) × IsQuiet old.program (final old.program old.history)

-- the book is one of this program and one worker, and the records are in line with it
pub record IsRunning (program : Program) (book : Ledger) (records : List Record) : Type 0 where
  pub of_program : book.program ≡ program
  pub alone : book.workers ≡ 1
  pub in_line : AreInLine book records
