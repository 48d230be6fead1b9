-- What the calls of the shared book say, over the lists that their passes have seen.
use Rattle.std.specs.Prelude.{◌≡◌, ℕ, ◌+◌, ◌<◌, true, List, [], ◌∷◌, ◌++◌, length, slice_get}
use Rattle.rt_base.specs.declared.data.ReqNo.{ReqNo}
use Rattle.rt_base.specs.declared.data.Phase.TheVariants as phase
use Rattle.rt_base.specs.declared.data.Program.{Program}
use Rattle.rt_base.specs.Completion.{is_complete}
use Rattle.rt_base.specs.State.{State}
use Rattle.rt_base.specs.MayMove.{MayMove}
use Rattle.task_local.specs.StandsFor.{Record, StandsFor}
use Rattle.task_local.specs.Standing.{def}
use Rattle.task_machine.specs.Machine.{move}
use Rattle.task_machine.specs.Laws.{is_blocking_call}
use Rattle.task_machine.specs.Owed.{opened}
use Rattle.book_parts.specs.Ledger.{record_after, bound_in, LeavesPending}
use Rattle.pass_table.specs.Passes.{PassIs}
use Rattle.shared_lists.specs.Deeds.{state_seen}
use Rattle.shared_lists.specs.Said.{Does}
use Rattle.turn_table.specs.declared.hands.Door.TheVariants.{Pause, Events}
use Rattle.shared_tasks.specs.Values.{FreshIs, LiveIs, NoticeIs}
use Rattle.shared_tasks.specs.Keeping.{IsAble, MayPark}
use Rattle.shared_tasks.specs.Owing.{issuing_all}
use Rattle.shared_book.specs.declared.moved.Moved.{Moved}
use Rattle.shared_book.specs.declared.moved.Moved.TheVariants.{Done, Pending}

-- the machine's state at a call's own step: after what its pass had seen and what others have done since
abbrev pub state_at : (program : Program) (workers : ℕ) (old new : PassIs) (number : ℕ) → Does program workers old new number → State
state_at program workers old new number does = state_seen program (old.seen ++ does.since)

-- the call has made one move of its pass's task, which might be made, and nothing else: it stands last in the list that the pass has seen, and the
-- record stands for the task after that list, with what the move stored and before the local operations that come next
pub record MovesOn (program : Program) (workers : ℕ) (old new : PassIs) (held left : Record) : Type 0 where
  pub does : Does program workers old new 0
  pub may : MayMove program (state_at program workers old new 0 does) held.task
  pub state : state_seen program new.seen ≡ (move program (state_at program workers old new 0 does) held.task).state
  pub stands : StandsFor program left (state_seen program new.seen)
  pub left_is : left ≡ record_after program (state_at program workers old new 0 does) held

-- the record's task is before an operation that blocks, and its call in this state leaves requests incomplete (MPI 4.0, 3.4 and 3.7.3)
pub record Pauses (program : Program) (state : State) (held : Record) : Type 0 where
  pub place : ℕ
  pub before : held.phase ≡ phase.At place
  pub blocks : is_blocking_call (slice_get (def held).body.items place) ≡ true
  pub count : ℕ
  pub leaves : LeavesPending (move program state held.task).entry count
  pub some : 0 < count

-- a call is answered that its task waits exactly where it is one that blocks and leaves requests incomplete
abbrev pub IsAnswered : Program → State → Record → Moved → Type 0
IsAnswered program state held Done = Pauses program state held → ⊥
IsAnswered program state held (Pending Pause) = Pauses program state held
IsAnswered program state held (Pending Events) = ⊥

-- a return is answered that its task waits exactly where requests were ever bound to it (TAMPI, TAMPI_Iwait)
abbrev pub IsReturned : State → ℕ → Moved → Type 0
IsReturned state t Done = bound_in state t ≡ []
IsReturned state t (Pending Pause) = ⊥
IsReturned state t (Pending Events) = 0 < length (bound_in state t)

-- the holders of a task after its call opened these requests: in an operation the pause's holder issued their places, and else the events' one did
abbrev pub Issues : LiveIs → LiveIs → List ReqNo → Type 0
Issues old new reqs =
    ((k : ℕ) → new.rec.phase ≡ phase.In k → (new.pause ≡ issuing_all old.pause reqs) × (new.events ≡ old.events))
    × (((k : ℕ) → new.rec.phase ≡ phase.In k → ⊥) → (new.pause ≡ old.pause) × (new.events ≡ issuing_all old.events reqs))

-- the call of a task's next operation: its move, its answer, and a ticket for each request that the move opened, and for no other
-- (TAMPI, completion by polling)
pub record Calls (program : Program) (workers : ℕ) (old new : LiveIs) (moved : Moved) : Type 0 where
  pub moves : MovesOn program workers old.pass new.pass old.rec new.rec
  pub answers : IsAnswered program (state_at program workers old.pass new.pass 0 moves.does) old.rec moved
  pub issues : Issues old new (opened program (state_at program workers old.pass new.pass 0 moves.does) old.rec.task)

-- what a task may do that was so answered: its next move, or it may park at the meeting at which it waits
-- (OmpSs-2, pause and resume; TAMPI, TAMPI_Iwait)
abbrev pub GoesOn : Program → LiveIs → Moved → Type 0
GoesOn program live Done = IsAble program live
GoesOn program live (Pending door) = MayPark program door live

-- a poller took the first notice that stood at its step: the request is complete after the list that ends with it, of which the notice has a note
-- (TAMPI, completion by polling)
pub record Takes (program : Program) (workers : ℕ) (old new : PassIs) (notice : NoticeIs) : Type 0 where
  pub does : Does program workers old new 0
  pub first : (state_at program workers old new 0 does).notices ≡ notice.req ∷ (state_seen program new.seen).notices
  pub note : (notice.note.table ≡ new.table) × (notice.note.seen ≡ new.seen)
  pub complete : is_complete program (state_seen program new.seen).exchange notice.req ≡ true

-- a poller offered a task, whose pass has seen the list that ends with the offer (OmpSs-2, task dependences)
pub record Offers (program : Program) (workers : ℕ) (old new : PassIs) (fresh : FreshIs) : Type 0 where
  pub does : Does program workers old new (fresh.task + 1)
  pub whole : fresh.pass.seen ≡ new.seen
