-- Which selectors are known at each rank, and which lanes the posting of each request uses. No public clause cites this module.
use Rattle.std.specs.Prelude.{◌≡◌, ℕ, ◌<◌, ◌==◌, ◌&&◌, List, [], length, map, slice_get, slice_index_or, All, Option, None, option_map, option_and_then}
use Rattle.std.specs.Prelude.{◌∷◌, slice_range, IfSome, if◌then◌else◌, ⊤}
use Rattle.rt_base.specs.declared.data.ReqNo.{ReqNo}
use Rattle.rt_base.specs.declared.data.Peer.{Peer}
use Rattle.rt_base.specs.declared.data.Peer.TheVariants as peer
use Rattle.rt_base.specs.declared.data.TagSel.{TagSel}
use Rattle.rt_base.specs.declared.data.TagSel.TheVariants as tag
use Rattle.rt_base.specs.declared.data.Program.{Program}
use Rattle.rt_base.specs.Operations.{is_receive, given}
use Rattle.rt_base.specs.Exchange.{Posting, Sent, Asked, Nowhere}
use Rattle.match_lanes.specs.declared.doors.Doors.{Doors}
use Rattle.match_lanes.specs.declared.selector.Selector.{Selector}
use Rattle.match_lanes.specs.Selectors.{selector_by, lane_in, doors_by, doors_of, IsItsLane}
use Rattle.match_engine.specs.declared.slots.Call.{Call}
use Rattle.match_engine.specs.declared.slots.Slot.{Slot}
use Rattle.match_engine.specs.declared.routes.Way.{Way}
use Rattle.match_engine.specs.declared.routes.Way.TheVariants as way
use Rattle.match_engine.specs.Slots.{call_of}

-- the selectors that are known at a rank
abbrev pub known_at : List (List Selector) → ℕ → List Selector
known_at keys rank = slice_index_or keys rank []

-- the selector is known
abbrev pub IsKnown : List Selector → Selector → Type 0
IsKnown keys selector = lane_in keys selector < length keys

-- what was known is known
abbrev pub Keeps : List Selector → List Selector → Type 0
Keeps old new = (selector : Selector) → IsKnown old selector → IsKnown new selector

-- the selector of a call that posts a receive at the rank
abbrev pub selector_at : ℕ → Call → Option Selector
selector_at rank call = if is_receive call.how && (call.rank == rank) then selector_by call.comm call.peer call.tag else None

-- where the call posts a receive at the rank, its selector is known
abbrev pub IsHeard : ℕ → List Selector → Call → Type 0
IsHeard rank keys call = IfSome (selector_at rank call) (IsKnown keys)

-- the selectors of all receives that are posted at the rank are known
abbrev pub AreHeard : ℕ → List Selector → List (List Slot) → Type 0
AreHeard rank keys slots = All (All (λ (slot : Slot). IsHeard rank keys slot.call)) slots

-- the way of a send: the lanes of its message at the rank to which it goes
abbrev pub way_for : List (List Selector) → ℕ → ℕ → Peer → TagSel → Way
way_for keys comm source (peer.Rank to) (tag.Tag chosen) = way.Doors (doors_by (known_at keys to) comm source chosen)
way_for keys comm source (peer.Rank to) tag.Any = way.Nowhere
way_for keys comm source peer.Any selected = way.Nowhere
way_for keys comm source peer.Null selected = way.Nowhere

-- the way of a call that sends
abbrev pub way_to : List (List Selector) → Call → Way
way_to keys call = way_for keys call.comm call.rank call.peer call.tag

-- the way of a receive: the lane of its selector at its rank
abbrev pub way_from : List (List Selector) → ℕ → ℕ → Peer → TagSel → Way
way_from keys comm rank source selected = given way.Nowhere (λ selector. way.Lane (lane_in (known_at keys rank) selector)) (selector_by comm source selected)

-- the way of a call that receives
abbrev pub way_in : List (List Selector) → Call → Way
way_in keys call = way_from keys call.comm call.rank call.peer call.tag

-- the way of a request of this call
abbrev pub way_by : List (List Selector) → Call → Way
way_by keys call = if is_receive call.how then way_in keys call else way_to keys call

-- the ways of a task's requests, in the order of the body
abbrev pub row_of : List (List Selector) → List Slot → List Way
row_of keys row = map (λ (slot : Slot). way_by keys slot.call) row

-- the ways of all requests, by task
abbrev pub ways_of : List (List Selector) → List (List Slot) → List (List Way)
ways_of keys slots = map (row_of keys) slots

-- where the ways of a task end: where those of the next begin, and with the last task at the end of all
abbrev pub end_of : List Way → List ℕ → ℕ
end_of ways [] = length ways
end_of ways (first ∷ firsts) = first

-- the ways of each task, where all stand in one list and those of each task begin at its first place
abbrev pub cut : List Way → List ℕ → List (List Way)
cut ways [] = []
cut ways (first ∷ firsts) = slice_range ways first (end_of ways firsts) ∷ cut ways firsts

-- the way of a request
abbrev pub way_at : List (List Way) → ReqNo → Option Way
way_at ways req = option_and_then (λ (row : List Way). slice_get row req.nth) (slice_get ways req.task.0)

-- the way has these lanes of a message, or this lane of a receive
abbrev pub HasDoors : Way → Doors → Type 0
HasDoors lanes doors = lanes ≡ way.Doors doors

-- the way is this lane of a receive
abbrev pub HasLane : Way → ℕ → Type 0
HasLane lanes lane = lanes ≡ way.Lane lane

-- it has lanes of a message, or the lane of a receive
abbrev pub IsDoors : Way → Type 0
IsDoors (way.Doors doors) = ⊤
IsDoors (way.Lane lane) = ⊥
IsDoors way.Nowhere = ⊥

-- it is the lane of a receive
abbrev pub IsLane : Way → Type 0
IsLane (way.Doors doors) = ⊥
IsLane (way.Lane lane) = ⊤
IsLane way.Nowhere = ⊥

-- the way serves a posting: it has the lanes of its message, or the lane of its receive, and that receive's selector is known
abbrev pub Serves : List (List Selector) → Way → Posting → Type 0
Serves keys lanes (Sent to message) = HasDoors lanes (doors_of (known_at keys to) message)
Serves keys lanes (Asked at wish) = (lane : ℕ) × HasLane lanes lane × IsItsLane (known_at keys at) wish lane
Serves keys lanes Nowhere = ⊤

-- each request has the way of its call, and the selector of each receive is known at its rank
pub record AreRouted (program : Program) (keys : List (List Selector)) (ways : List (List Way)) : Type 0 where
  pub ways_are : (req : ReqNo) → way_at ways req ≡ option_map (way_by keys) (call_of program req)
  pub known : (req : ReqNo) → IfSome (call_of program req) (λ call. IsHeard call.rank (known_at keys call.rank) call)
