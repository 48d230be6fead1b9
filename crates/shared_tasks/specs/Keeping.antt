-- What tasks that are ready, started or paused keep, and what completions on their way to them keep.
use Rattle.std.specs.Prelude.{◌≡◌, ◌⊎◌, ℕ, true, List, [], ◌∷◌, slice_get, Some}
use Rattle.rt_base.specs.declared.data.Phase.{Phase}
use Rattle.rt_base.specs.declared.data.Phase.TheVariants as phase
use Rattle.rt_base.specs.declared.data.Program.{Program}
use Rattle.rt_base.specs.Completion.{is_complete}
use Rattle.rt_base.specs.MayMove.{MayMove}
use Rattle.task_machine.specs.Machine.{or_none, bound_at}
use Rattle.pass_table.specs.Passes.{PassIs, TableId}
use Rattle.shared_lists.specs.Deeds.{state_seen}
use Rattle.shared_lists.specs.Sound.{IsSound}
use Rattle.shared_lists.specs.Said.{IsFreshTask, IsLiveTask}
use Rattle.turn_table.specs.declared.hands.Door.{Door}
use Rattle.turn_table.specs.declared.hands.Door.TheVariants.{Pause, Events}
use Rattle.shared_tasks.specs.Values.{FreshIs, LiveIs, ParkedIs, ArrivalIs, NoticeIs, other_door, held_at, brought}
use Rattle.shared_tasks.specs.Places.{meeting_of, requests_of, IsHolder, waits_at, places_of, AreAwaited}

-- the places of the requests that are bound to task t after the list that a pass has seen (TAMPI, TAMPI_Iwait)
abbrev pub bound_of : Program → PassIs → ℕ → List ℕ
bound_of program pass t = places_of (or_none (bound_at (state_seen program pass.seen).tasks t))

-- a ready task: it was offered and may start, after the list that its pass has seen, and its holders have issued nothing
pub record IsFresh (program : Program) (workers : ℕ) (table site : TableId) (fresh : FreshIs) : Type 0 where
  pub task : IsFreshTask program workers table fresh.task fresh.pass
  pub pause : IsHolder program site fresh.task (meeting_of Pause fresh.task) fresh.pause
  pub events : IsHolder program site fresh.task (meeting_of Events fresh.task) fresh.events
  pub none_issued : (fresh.pause.issued ≡ []) × (fresh.events.issued ≡ [])

-- what the two holders of a task that stands there have issued: the events' holder the places of the bound requests, in their order, and the pause's
-- nothing; but of a task in an operation nothing is said of the pause's, and one that was taken up after its return has issued nothing.
-- A task that waits to be started has no such holders in a hand
abbrev pub Issued : Phase → List ℕ → List ℕ → List ℕ → Type 0
Issued phase.Waiting pause events bound = ⊥
Issued (phase.At k) pause events bound = (pause ≡ []) × (events ≡ bound)
Issued (phase.In k) pause events bound = events ≡ bound
Issued phase.Ended pause events bound = (pause ≡ []) × (events ≡ bound)
Issued phase.Returned pause events bound = (pause ≡ []) × ((events ≡ bound) ⊎ (events ≡ []))
Issued phase.Released pause events bound = (pause ≡ []) × (events ≡ bound)

-- a started task, which waits no longer: its record stands for it after the list that its pass has seen, and its holders are those of its meetings
pub record IsLive (program : Program) (workers : ℕ) (table site : TableId) (live : LiveIs) : Type 0 where
  pub task : IsLiveTask program workers table live.rec live.pass
  pub pause : IsHolder program site live.rec.task (meeting_of Pause live.rec.task) live.pause
  pub events : IsHolder program site live.rec.task (meeting_of Events live.rec.task) live.events
  pub issued : Issued live.rec.phase live.pause.issued live.events.issued (bound_of program live.pass live.rec.task)

-- the task may make its next move, and issued nothing at its pause meeting
pub record IsAble (program : Program) (live : LiveIs) : Type 0 where
  pub may : MayMove program (state_seen program live.pass.seen) live.rec.task
  pub idle : live.pause.issued ≡ []

-- a task that pauses there stands there: in an operation, or returned
abbrev pub StandsAt : Door → Phase → Type 0
StandsAt Pause at = (k : ℕ) × (at ≡ phase.In k)
StandsAt Events at = at ≡ phase.Returned

-- the meeting is one of this task's two, and the task stands there
pub record IsOfMeeting (meeting : ℕ) (live : LiveIs) : Type 0 where
  pub door : Door
  pub is : meeting ≡ meeting_of door live.rec.task
  pub stands : StandsAt door live.rec.phase

-- the task may park at this meeting of it: of each incomplete request for which it waits there, its holder has issued the place
pub record MayPark (program : Program) (door : Door) (live : LiveIs) : Type 0 where
  pub stands : StandsAt door live.rec.phase
  pub awaited :
      AreAwaited program (state_seen program live.pass.seen).exchange live.rec.task (held_at door live).issued
      (waits_at program (state_seen program live.pass.seen) live.rec.task door)

-- what the holder of the meeting at which a task is not parked has issued: the events' one the places of the bound requests, the pause's one nothing
abbrev pub OtherIssued : Door → List ℕ → List ℕ → Type 0
OtherIssued Pause other bound = other ≡ bound
OtherIssued Events other bound = other ≡ []

-- a paused task fits a meeting and these places of it: it is the meeting of its door, it stands there, and of each incomplete request for which it
-- waits there the place is among these
pub record FitsParked (program : Program) (workers : ℕ) (table site : TableId) (parked : ParkedIs) (meeting : ℕ) (places : List ℕ) : Type 0 where
  pub meeting_is : meeting ≡ meeting_of parked.door parked.rec.task
  pub task : IsLiveTask program workers table parked.rec parked.pass
  pub other : IsHolder program site parked.rec.task (meeting_of (other_door parked.door) parked.rec.task) parked.other
  pub stands : StandsAt parked.door parked.rec.phase
  pub issued : OtherIssued parked.door parked.other.issued (bound_of program parked.pass parked.rec.task)
  pub awaited :
      AreAwaited program (state_seen program parked.pass.seen).exchange parked.rec.task places
      (waits_at program (state_seen program parked.pass.seen) parked.rec.task parked.door)

-- a completion fits a meeting and one place of it: it is a meeting of the request's task, the place is the request's, and the request is complete
-- after the sound list that the note has seen
pub record FitsArrival (program : Program) (workers : ℕ) (table : TableId) (arrival : ArrivalIs) (meeting : ℕ) (places : List ℕ) : Type 0 where
  pub meeting_is : (door : Door) × (meeting ≡ meeting_of door arrival.req.task.0)
  pub place : places ≡ arrival.req.nth ∷ []
  pub here : arrival.note.table ≡ table
  pub sound : IsSound program workers arrival.note.seen
  pub complete : is_complete program (state_seen program arrival.note.seen).exchange arrival.req ≡ true

-- a completion that a poller took: its ticket is of this hall, and of a meeting and the place of its request
pub record IsNotice (program : Program) (workers : ℕ) (table site : TableId) (notice : NoticeIs) : Type 0 where
  pub hall : notice.ticket.hall ≡ site
  pub places : notice.ticket.places ≡ requests_of (slice_get program.tasks.items notice.req.task.0)
  pub fits : FitsArrival program workers table (brought notice) notice.ticket.meeting (notice.ticket.place ∷ [])
