-- What the calls of pollers answer.
use Rattle.std.specs.Prelude.{◌≡◌, ◌+◌, ◌-◌, true, false, ◌∷◌, length}
use Rattle.rt_base.specs.declared.data.Program.{Program}
use Rattle.rt_base.specs.Completion.{is_complete}
use Rattle.task_machine.specs.Machine.{poll}
use Rattle.task_machine.specs.Legal.{IsQuiet}
use Rattle.pass_table.specs.Passes.{PassIs, NoteIs}
use Rattle.shared_lists.specs.Deeds.{state_seen, is_offered, is_stopped}
use Rattle.shared_lists.specs.Said.{IsFreshTask}
use Rattle.listed_book.specs.declared.replies.Offered.{Offered}
use Rattle.listed_book.specs.declared.replies.Told.{Told}
use Rattle.listed_book.specs.declared.replies.Idle.{Idle}
use Rattle.listed_book.specs.declared.replies.Idle.TheVariants as idle
use Rattle.listed_book.specs.Listed.{BookIs, Adds, state_in}

-- the note has seen what the pass has seen
abbrev pub IsNoteOf : PassIs → NoteIs → Type 0
IsNoteOf pass note = note ≡ record { table = pass.table; seen = pass.seen }

-- the call has offered a task: it was not offered before, and its own pass has seen the list that ends with the offer, after which it may start
-- (OmpSs-2, task dependences)
pub record OffersTask (old new : BookIs) (before after : PassIs) (offered : Offered) : Type 0 where
  pub adds : Adds old new before after (offered.task.0 + 1)
  pub first : is_offered offered.task.0 old.seen ≡ false
  pub fresh : IsFreshTask old.program old.workers old.table offered.task.0 offered.pass
  pub whole : offered.pass.seen ≡ new.seen

-- the call has taken the first notice that stood: its request is complete, and the note has seen that (TAMPI, completion by polling)
pub record TakesFirst (old new : BookIs) (before after : PassIs) (told : Told) : Type 0 where
  pub adds : Adds old new before after 0
  pub first : (state_in old).notices ≡ told.req ∷ (state_in new).notices
  pub state : state_in new ≡ (poll (state_in old) (before.caller - length old.program.tasks.items)).state
  pub complete : is_complete old.program (state_in new).exchange told.req ≡ true
  pub note : IsNoteOf after told.note

-- what a worker without work is told of the list that its pass has seen: that a stop stands there, or else that no task may move after it, each with a
-- note of that list, or else that some task may (this project's)
abbrev pub IsIdle : Program → PassIs → Idle → Type 0
IsIdle program pass (idle.Stopped note) = (is_stopped program pass.seen ≡ true) × IsNoteOf pass note
IsIdle program pass (idle.Quiet note) = (is_stopped program pass.seen ≡ false) × IsQuiet program (state_seen program pass.seen) × IsNoteOf pass note
IsIdle program pass idle.Work = (is_stopped program pass.seen ≡ false) × (IsQuiet program (state_seen program pass.seen) → ⊥)
