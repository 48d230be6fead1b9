-- Which tickets lie in the book, and that each request that is owed has its ticket there.
use Rattle.std.specs.Prelude.{◌≡◌, ℕ, ◌+◌, ◌<◌, ◌≤◌, List, [], ◌∷◌, ◌++◌, map, replicate, slice_get, slice_set, slice_index_or, Option, Some, None}
use Rattle.std.specs.Prelude.{option_and_then, unwrap_or, MatchOption}
use Rattle.rt_base.specs.declared.data.ReqNo.{ReqNo}
use Rattle.rt_base.specs.declared.data.TaskDef.{TaskDef}
use Rattle.rt_base.specs.declared.data.Program.{Program}
use Rattle.rt_base.specs.Operations.{postings}
use Rattle.rt_base.specs.State.{State}
use Rattle.task_machine.specs.Owed.{IsOneOf, IsOwed}
use Rattle.tidy_runs.specs.Tidy.{AreOf}
use Rattle.pass_table.specs.Passes.{TableId}
use Rattle.meetings.specs.Meetings.{times}
use Rattle.meet_hall.specs.Holders.{HolderIs, TicketIs, ticket_from}
use Rattle.turn_table.specs.declared.hands.Door.{Door}
use Rattle.shared_tasks.specs.Places.{meeting_of, requests_of, places_of}

-- a place for each request of a task, with no ticket in it
abbrev pub no_tickets_for : TaskDef → List (Option TicketIs)
no_tickets_for task = replicate (postings task.body.items) None

-- the same for each task
abbrev pub no_tickets : Program → List (List (Option TicketIs))
no_tickets program = map no_tickets_for program.tasks.items

-- the place of a request, where there is one
abbrev pub place_in : List (List (Option TicketIs)) → ReqNo → Option (Option TicketIs)
place_in rows req = option_and_then (λ (row : List (Option TicketIs)). slice_get row req.nth) (slice_get rows req.task.0)

-- the ticket that lies at the place of a request
abbrev pub lying_in : List (List (Option TicketIs)) → ReqNo → Option TicketIs
lying_in rows req = unwrap_or (place_in rows req) None

-- the places after this was put at that of a request
abbrev pub with_ticket : List (List (Option TicketIs)) → ReqNo → Option TicketIs → List (List (Option TicketIs))
with_ticket rows req lies = slice_set rows req.task.0 (slice_set (slice_index_or rows req.task.0 []) req.nth lies)

-- the holder issued the place of a request, whose ticket was put at its place
abbrev pub HasIssued : List (List (Option TicketIs)) → List (List (Option TicketIs)) → HolderIs → ReqNo → Type 0
HasIssued old new holder req = (seat : ℕ) × (new ≡ with_ticket old req (Some (ticket_from holder req.nth seat)))

-- the ticket is of the hall of this name, and of a meeting and the place of this request
pub record IsTicketOf (program : Program) (site : TableId) (req : ReqNo) (ticket : TicketIs) : Type 0 where
  pub hall : ticket.hall ≡ site
  pub meeting_is : (door : Door) × (ticket.meeting ≡ meeting_of door req.task.0)
  pub place : ticket.place ≡ req.nth
  pub places : ticket.places ≡ requests_of (slice_get program.tasks.items req.task.0)

-- each request of which a task is still to be told has its ticket (TAMPI, completion by polling)
abbrev pub KeepsTickets : Program → TableId → State → List (List (Option TicketIs)) → Type 0
KeepsTickets program site state rows = (req : ReqNo) → IsOwed program state req → MatchOption (lying_in rows req) ⊥ (IsTicketOf program site req)

-- the holder has issued the places of these requests, in order
abbrev pub issuing_all : HolderIs → List ReqNo → HolderIs
issuing_all holder reqs = record holder { issued = holder.issued ++ places_of reqs }

-- the holder may issue the places of these requests of task t: they exist, and none is issued twice
pub record AreNew (t : ℕ) (holder : HolderIs) (reqs : List ReqNo) : Type 0 where
  pub own : AreOf t reqs
  pub within : (place : ℕ) → 0 < times place (places_of reqs) → place < holder.places
  pub once : (place : ℕ) → times place (holder.issued ++ places_of reqs) ≤ 1

-- these requests were opened: of each of them a ticket lies now that this holder issued for its place, and what lay of others lies
pub record HasOpened (holder : HolderIs) (reqs : List ReqNo) (old new : List (List (Option TicketIs))) : Type 0 where
  pub opened : (req : ReqNo) → IsOneOf req reqs → (seat : ℕ) × (lying_in new req ≡ Some (ticket_from holder req.nth seat))
  pub others : (req : ReqNo) → (IsOneOf req reqs → ⊥) → lying_in new req ≡ lying_in old req
