-- What a book with its list keeps. No public clause cites this module.
use Rattle.std.specs.Prelude.{◌≡◌, ℕ, ◌^◌, ◌<◌, Bool, true, false, List, [], length, slice_get, Option, Some, None, ⊤}
use Rattle.rt_base.specs.WellFormed.{WellFormed}
use Rattle.task_machine.specs.Legal.{callers}
use Rattle.book_parts.specs.Ledger.{Ledger}
use Rattle.pass_table.specs.Passes.{TableId, PassIs, NoteIs}
use Rattle.shared_lists.specs.Deeds.{moves, is_offered, looks, is_stopped}
use Rattle.shared_lists.specs.Sound.{IsSound}
use Rattle.listed_book.specs.Listed.{BookIs}

-- the insides of a book with its list
pub record Insides : Type 0 where
  pub book : Ledger
  pub pen : NoteIs
  pub looked : ℕ
  pub stopped : Bool
  pub passes : List (Option PassIs)

-- what contracts see of it
abbrev pub seen_as : Insides → BookIs
seen_as inside = record { program = inside.book.program; workers = inside.book.workers; table = inside.pen.table; seen = inside.pen.seen }

-- what lies there for a task: its pass, which has made no step, until the task is offered
abbrev pub IsPassOf : TableId → ℕ → Bool → Option PassIs → Type 0
IsPassOf table t true None = ⊤
IsPassOf table t true (Some pass) = ⊥
IsPassOf table t false None = ⊥
IsPassOf table t false (Some pass) = (pass.table ≡ table) × (pass.caller ≡ t) × (pass.steps ≡ 0)

-- the book has made the steps of the list, and has handed out the tasks that the list offers; its numbers and passes are what the list says
pub record Keeps (inside : Insides) : Type 0 where
  pub well_formed : WellFormed inside.book.program
  pub few_workers : inside.book.workers < 2 ^ 16
  pub sound : IsSound inside.book.program inside.book.workers inside.pen.seen
  pub moved : callers inside.book.program inside.book.history ≡ moves inside.pen.seen
  pub short : length inside.book.history < 2 ^ 32
  pub marks : length inside.book.handed ≡ length inside.book.program.tasks.items
  pub handed : (t : ℕ) → t < length inside.book.program.tasks.items → slice_get inside.book.handed t ≡ Some (is_offered t inside.pen.seen)
  pub looked_is : inside.looked ≡ looks inside.book.program inside.pen.seen
  pub stopped_is : inside.stopped ≡ is_stopped inside.book.program inside.pen.seen
  pub counted : length inside.passes ≡ length inside.book.program.tasks.items
  pub passes_are : (t : ℕ) (lying : Option PassIs) → slice_get inside.passes t ≡ Some lying
      → IsPassOf inside.pen.table t (is_offered t inside.pen.seen) lying

-- the pen is there
abbrev pub IsThere : Option NoteIs → Type 0
IsThere None = ⊥
IsThere (Some pen) = ⊤

-- the table and the list of a pen that lies in a place of its own
abbrev pub lying_pen : Option NoteIs → NoteIs
lying_pen None = record { table = record { words = 0; slots = 0; views_name = 0; atom = 0; block = 0; offset = 0; slot_names = [] }; seen = [] }
lying_pen (Some pen) = pen
