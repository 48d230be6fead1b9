-- How the engine keeps what each request of the program asks for, and what became of it. No public clause cites this module.
use Rattle.std.specs.Prelude.{ℕ, Bool, true, false, not, ◌==◌, ◌&&◌, List, [], map, filter, count_by, sum_by, slice_get, slice_set, slice_index_or, position}
use Rattle.std.specs.Prelude.{Option, Some, None, option_map, option_and_then, if◌then◌else◌, ℤ}
use Rattle.rt_base.specs.declared.data.ReqNo.{ReqNo}
use Rattle.rt_base.specs.declared.data.How.TheVariants as how
use Rattle.rt_base.specs.declared.data.Peer.{Peer}
use Rattle.rt_base.specs.declared.data.Peer.TheVariants as peer
use Rattle.rt_base.specs.declared.data.TagSel.TheVariants as tag
use Rattle.rt_base.specs.declared.data.Op.{Op}
use Rattle.rt_base.specs.declared.data.TaskDef.{TaskDef}
use Rattle.rt_base.specs.declared.data.Program.{Program}
use Rattle.rt_base.specs.declared.data.Status.{Status}
use Rattle.rt_base.specs.Operations.{is_posting, posting_parts, given, is_receive}
use Rattle.rt_base.specs.Exchange.{Exchange, Match}
use Rattle.rt_base.specs.Completion.{is_party, is_posted, completes_at_once, receive_status, receive_cells, empty_status}
use Rattle.match_engine.specs.declared.slots.Call.{Call}
use Rattle.match_engine.specs.declared.slots.Progress.{Progress}
use Rattle.match_engine.specs.declared.slots.Progress.TheVariants.{Unposted, Waits, Matched}
use Rattle.match_engine.specs.declared.slots.Slot.{Slot}
use Rattle.match_engine.specs.declared.slots.Side.{Side}
use Rattle.match_engine.specs.declared.slots.Side.TheVariants.{Messages, Receives}

-- a call that posts nothing, for what is no posting operation
abbrev pub no_call : ℕ → Call
no_call rank = record { how = how.Ssend; span = record { array = 0; from = 0; to = 0 }; peer = peer.Any; tag = tag.Any; comm = 0; rank = rank }

-- the fields of a posting operation, and the rank of its task
abbrev pub call_by : ℕ → Op → Call
call_by rank operation =
    given (no_call rank) (λ posted. record { how = posted.how; span = posted.span; peer = posted.peer; tag = posted.tag; comm = posted.comm; rank = rank })
    (posting_parts operation)

-- the slot of a request that isn't posted
abbrev pub fresh_slot : ℕ → Op → Slot
fresh_slot rank operation = record { call = call_by rank operation; progress = Unposted }

-- the slots of a task's requests, in the order of the body
abbrev pub fresh_row : TaskDef → List Slot
fresh_row task = map (fresh_slot task.rank) (filter is_posting task.body.items)

-- the slots of all requests, by task
abbrev pub fresh_slots : Program → List (List Slot)
fresh_slots program = map fresh_row program.tasks.items

-- the slot of a request
abbrev pub slot_at : List (List Slot) → ReqNo → Option Slot
slot_at slots req = option_and_then (λ (row : List Slot). slice_get row req.nth) (slice_get slots req.task.0)

-- the slots where this request, of this slot, got so far
abbrev pub marked_by : List (List Slot) → ReqNo → Progress → Option Slot → List (List Slot)
marked_by slots req progress None = slots
marked_by slots req progress (Some slot) =
    slice_set slots req.task.0 (slice_set (slice_index_or slots req.task.0 []) req.nth (record slot { progress = progress }))

-- the slots where this request got so far
abbrev pub marked : List (List Slot) → ReqNo → Progress → List (List Slot)
marked slots req progress = marked_by slots req progress (slot_at slots req)

-- the slots after a posting: it waits, or it was matched with its partner and the match has this place
abbrev pub settled : List (List Slot) → ReqNo → Option ReqNo → ℕ → List (List Slot)
settled slots req None place = marked slots req Waits
settled slots req (Some other) place = marked (marked slots req (Matched place)) other (Matched place)

-- a message to this peer goes to the queues of the rank
abbrev pub addresses : Peer → ℕ → Bool
addresses (peer.Rank to) rank = to == rank
addresses peer.Any rank = false
addresses peer.Null rank = false

-- a receive from this peer, posted by a task of the rank `own`, goes to the queues of the rank
abbrev pub listens : Peer → ℕ → ℕ → Bool
listens (peer.Rank from) own rank = own == rank
listens peer.Any own rank = own == rank
listens peer.Null own rank = false

-- a posting of this call takes a place in this queue of the rank
abbrev pub enters : Side → Call → ℕ → Bool
enters Messages call rank = not (is_receive call.how) && addresses call.peer rank
enters Receives call rank = is_receive call.how && listens call.peer call.rank rank

-- whether the request was not posted yet
abbrev pub is_unposted : Progress → Bool
is_unposted Unposted = true
is_unposted Waits = false
is_unposted (Matched place) = false

-- the request isn't posted yet
abbrev pub is_open : Slot → Bool
is_open slot = is_unposted slot.progress

-- the request isn't posted yet, and will take a place in this queue of the rank
abbrev pub is_due : Side → ℕ → Slot → Bool
is_due side rank slot = is_open slot && enters side slot.call rank

-- how many slots pass a test
abbrev pub slots_that : (Slot → Bool) → List (List Slot) → ℕ
slots_that test slots = sum_by (count_by test) slots

-- the call of a request of the program
abbrev pub call_of : Program → ReqNo → Option Call
call_of program req =
    option_and_then (λ (task : TaskDef). option_map (call_by task.rank) (slice_get (filter is_posting task.body.items) req.nth))
    (slice_get program.tasks.items req.task.0)

-- what became of a posted request: the match in which it takes part has this place
abbrev pub progress_by : Option ℕ → Progress
progress_by None = Waits
progress_by (Some place) = Matched place

-- what became of a request
abbrev pub progress_of : Exchange → ReqNo → Progress
progress_of exchange req = if is_posted exchange req then progress_by (position (is_party req) exchange.matches) else Unposted

-- the slot of a request of this call
abbrev pub slot_of : Exchange → ReqNo → Call → Slot
slot_of exchange req call = record { call = call; progress = progress_of exchange req }

-- the match of a request that got so far
abbrev pub match_of : List Match → Progress → Option Match
match_of matches Unposted = None
match_of matches Waits = None
match_of matches (Matched place) = slice_get matches place

-- whether a request of this slot is complete
abbrev pub complete_by : ℕ → Call → Progress → Bool
complete_by eager call Unposted = false
complete_by eager call Waits = completes_at_once eager call.how call.span call.peer
complete_by eager call (Matched place) = true

-- the status of a request of this call, once it is complete
abbrev pub call_status : Call → Option Match → Status
call_status call found = if is_receive call.how then receive_status call.span call.peer found else empty_status

-- the cells that a request of this call stores, once it is complete
abbrev pub call_cells : Call → Option Match → List ℤ
call_cells call found = if is_receive call.how then receive_cells call.span found else []
