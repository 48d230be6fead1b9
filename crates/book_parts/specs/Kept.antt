-- How a book keeps the state after its history, and what the operations of a body are to it.
use Rattle.std.specs.Prelude.{◌≡◌, ◌≢◌, ℕ, ◌≤◌, Bool, true, false, List, [], ◌∷◌, length, slice_get}
use Rattle.std.specs.Prelude.{Option, Some, ℤ, not, ⊤, if◌then◌else◌}
use Rattle.rt_base.specs.declared.data.ReqNo.{ReqNo}
use Rattle.rt_base.specs.declared.data.Phase.{Phase}
use Rattle.rt_base.specs.declared.data.Phase.TheVariants as phase
use Rattle.rt_base.specs.declared.data.Peer.{Peer}
use Rattle.rt_base.specs.declared.data.TagSel.{TagSel}
use Rattle.rt_base.specs.declared.data.How.{How}
use Rattle.rt_base.specs.declared.data.Op.{Op}
use Rattle.rt_base.specs.declared.data.Op.TheVariants as op
use Rattle.rt_base.specs.declared.data.Status.{Status}
use Rattle.rt_base.specs.declared.data.Entry.{Entry}
use Rattle.rt_base.specs.declared.data.TaskDef.{TaskDef}
use Rattle.rt_base.specs.declared.data.Program.{Program}
use Rattle.rt_base.specs.Layout.{memory_len}
use Rattle.rt_base.specs.Operations.{is_receive, by_parts_of}
use Rattle.rt_base.specs.Exchange.{Exchange}
use Rattle.rt_base.specs.Completion.{request_status}
use Rattle.rt_base.specs.State.{State, let_go}
use Rattle.rt_base.specs.WellFormed.{WellFormed}
use Rattle.match_engine.specs.Switch.{Switch}
use Rattle.region_deps.specs.Readiness.{Readiness, IsWhole}
use Rattle.task_local.specs.declared.standing.At.{At}
use Rattle.task_local.specs.declared.standing.At.TheVariants as at
use Rattle.book_parts.specs.Ledger.{bound_in}
use Rattle.book_parts.specs.declared.posting.Posting.{Posting}
use Rattle.task_machine.specs.Legal.{IsLegal, final, phases_of}
use Rattle.run_bounds.specs.Bounds.{most_entries, most_postings, most_statuses}
use Rattle.task_machine.specs.Owed.{last_opened}
use Rattle.book_counts.specs.Counted.{IsCounted, IsNumbered, IsBinding}

-- the insides of a book
pub record BookParts : Type 0 where
  pub program : Program
  pub workers : ℕ
  pub ready : Readiness
  pub engine : Switch
  pub memory : List ℤ
  pub phases : List Phase
  pub notices : List ReqNo
  pub entries : List Entry
  pub statuses : List Status
  pub unreleased : ℕ
  pub waits : List ℕ
  pub posted : List ℕ
  pub marks : List (List Bool)
  pub bound : List ℕ
  pub incomplete : List ℕ
  pub opened : List ReqNo
  pub entry_places : ℕ
  pub status_places : ℕ
  pub notice_places : ℕ
  pub opened_places : ℕ

-- the machine's state after the history of a book
abbrev pub state_now : BookParts → State
state_now parts = final parts.program parts.entries

-- at most how many requests the call of an operation opens
abbrev pub opens : Option Op → ℕ
opens operation = by_parts_of 0 (λ posted. 1) (λ waited. length waited.handles) operation

-- each list has places for all that runs of the program add to it, and for the requests that a move opens
pub record HasCapacity (parts : BookParts) : Type 0 where
  pub entries : most_entries parts.program ≤ parts.entry_places
  pub statuses : most_statuses parts.program ≤ parts.status_places
  pub notices : most_postings parts.program.tasks.items ≤ parts.notice_places
  pub opened : (t k : ℕ) (def : TaskDef) → slice_get parts.program.tasks.items t ≡ Some def → opens (slice_get def.body.items k) ≤ parts.opened_places

-- the insides are the state after the history, and the graph and the engine are those of the program
pub record KeepsState (parts : BookParts) : Type 0 where
  pub well : WellFormed parts.program
  pub legal : IsLegal parts.program parts.workers parts.entries parts.statuses
  pub memory_is : parts.memory ≡ (state_now parts).memory
  pub cells : length parts.memory ≡ memory_len parts.program
  pub phases_are : parts.phases ≡ phases_of (state_now parts).tasks
  pub exchange_is : parts.engine.exchange ≡ (state_now parts).exchange
  pub notices_are : parts.notices ≡ (state_now parts).notices
  pub opened_are : parts.opened ≡ last_opened parts.program parts.entries
  pub gone_is : parts.ready.gone ≡ let_go (state_now parts).tasks
  pub begun : (t : ℕ) (at : Phase) → slice_get parts.phases t ≡ Some at → at ≢ phase.Waiting → slice_get parts.ready.handed t ≡ Some true
  pub of_program : parts.ready.program ≡ parts.program
  pub whole : IsWhole parts.ready
  pub engine_of : parts.engine.program ≡ parts.program
  pub places : HasCapacity parts

-- a book: its insides are the state after its history, and its numbers and marks are what that state says
pub record IsBook (parts : BookParts) : Type 0 where
  pub kept : KeepsState parts
  pub counted : IsCounted parts.program (let_go (state_now parts).tasks) parts.ready.handed parts.phases (bound_in (state_now parts)) parts.engine.exchange
      parts.unreleased parts.waits
  pub numbered : IsNumbered parts.program parts.phases parts.posted
  pub binding : IsBinding parts.program (bound_in (state_now parts)) parts.engine.exchange parts.marks parts.bound parts.incomplete

-- the task is before a call
abbrev pub IsCallAt : At → Type 0
IsCallAt at.Local = ⊥
IsCallAt at.Fresh = ⊥
IsCallAt (at.Call k) = ⊤
IsCallAt (at.In k) = ⊥
IsCallAt at.Ended = ⊥
IsCallAt at.Returned = ⊥
IsCallAt at.Released = ⊥

-- the task is blocked in an operation
abbrev pub IsBlockedAt : At → Type 0
IsBlockedAt at.Local = ⊥
IsBlockedAt at.Fresh = ⊥
IsBlockedAt (at.Call k) = ⊥
IsBlockedAt (at.In k) = ⊤
IsBlockedAt at.Ended = ⊥
IsBlockedAt at.Returned = ⊥
IsBlockedAt at.Released = ⊥

-- the operation is a posting
abbrev pub is_posting_at : Option Op → Bool
is_posting_at operation = by_parts_of false (λ posted. true) (λ waited. false) operation

-- the operation is a wait, now or later
abbrev pub IsAwait : Option Op → Type 0
IsAwait operation = by_parts_of false (λ posted. false) (λ waited. true) operation ≡ true

-- the operation waits for what it names, before it goes on
abbrev pub IsWait : Option Op → Type 0
IsWait operation = by_parts_of false (λ posted. false) (λ waited. not waited.later) operation ≡ true

-- the operation binds what it names, and goes on
abbrev pub IsBind : Option Op → Type 0
IsBind operation = by_parts_of false (λ posted. false) (λ waited. waited.later) operation ≡ true

-- the operation is this posting
pub record PostsAs (operation : Option Op) (posting : Posting) : Type 0 where
  pub peer : Peer
  pub tag : TagSel
  pub comm : ℕ
  pub is : operation ≡ Some (op.Post posting.how posting.span peer tag comm posting.status)

-- the status that a request of such a posting tells
abbrev pub told_now : Program → Exchange → ReqNo → How → List Status
told_now program exchange req how = if is_receive how then request_status program exchange req ∷ [] else []
