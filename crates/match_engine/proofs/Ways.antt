-- Each request has a way that serves its posting.
use Rattle.std.proofs.Common.{◌≡◌, ℕ, ◌<◌, Bool, true, false, ◌&&◌, ◌==◌, cond, List, ℤ, length, get_or, slice_get, Option, Some, None, option_map}
use Rattle.std.proofs.Common.{option_and_then, IfSome, IsSome, is_some, All, sym, refl, ap, ◌∙◌, subst}
use Rattle.std.proofs.lemmas.Option.{slice_get-map, slice_get_within, get_or_from_slice_get, same_Some}
use Rattle.std.proofs.lemmas.Bool.{cond-true, cond-false, eq-eqb}
use Rattle.rt_base.specs.declared.data.ReqNo.{ReqNo}
use Rattle.rt_base.specs.declared.data.Peer.{Peer}
use Rattle.rt_base.specs.declared.data.Peer.TheVariants as peer
use Rattle.rt_base.specs.declared.data.TagSel.{TagSel}
use Rattle.rt_base.specs.declared.data.TagSel.TheVariants as tag
use Rattle.rt_base.specs.declared.data.Op.{Op}
use Rattle.rt_base.specs.declared.data.Op.TheVariants as op
use Rattle.rt_base.specs.declared.data.Program.{Program}
use Rattle.rt_base.specs.Operations.{is_receive}
use Rattle.rt_base.specs.Matching.{Message, Receive}
use Rattle.rt_base.specs.Exchange.{Exchange, Posting, Sent, Asked, sent_by, asked_by}
use Rattle.rt_base.specs.WellFormed.{WellFormed}
use Rattle.match_lanes.specs.declared.doors.Doors.{Doors}
use Rattle.match_lanes.specs.declared.selector.Selector.{Selector}
use Rattle.match_lanes.specs.Selectors.{doors_of, selector_by, IsItsLane}
use Rattle.match_lanes.specs.Shelves.{Shelf}
use Rattle.match_engine.specs.declared.slots.Call.{Call}
use Rattle.match_engine.specs.declared.slots.Slot.{Slot}
use Rattle.match_engine.specs.declared.routes.Way.{Way}
use Rattle.match_engine.specs.declared.routes.Way.TheVariants as way
use Rattle.match_engine.specs.Switch.{Switch}
use Rattle.match_engine.specs.Requests.{IsSend, IsReceive}
use Rattle.match_engine.specs.Queues.{Traffic, exchange_of, keys_of, HasSpent}
use Rattle.match_engine.specs.Slots.{slot_at, slot_of, call_of, call_by}
use Rattle.match_engine.specs.Kept.{KeepsExchange}
use Rattle.match_engine.specs.Routes.{known_at, IsKnown, IsHeard, AreHeard, way_for, way_from, way_to, way_in, way_by, row_of, ways_of, way_at, HasDoors}
use Rattle.match_engine.specs.Routes.{HasLane, IsDoors, IsLane, Serves, AreRouted}
use Rattle.match_engine.proofs.Traffics.{keys_here}
use Rattle.match_engine.proofs.Marks.{found_in_row}
use Rattle.match_engine.proofs.Calls.{origin, of_task, is_send, is_recv, send_has_call, recv_has_call}
use Rattle.match_engine.proofs.Keeps.{slot_says}
use Rattle.match_engine.proofs.Replies.{switch}

-- the lanes of a way, and these where it has none
abbrev doors_or : Doors → Way → Doors
doors_or other (way.Doors doors) = doors
doors_or other (way.Lane lane) = other
doors_or other way.Nowhere = other

abbrev lane_or : ℕ → Way → ℕ
lane_or other (way.Doors doors) = other
lane_or other (way.Lane lane) = lane
lane_or other way.Nowhere = other

-- a way that serves a message has its lanes at the rank to which it goes
pub has_doors : (keys : List (List Selector)) (lanes : Way) (to : ℕ) (message : Message) → Serves keys lanes (Sent to message) → IsDoors lanes
has_doors keys lanes to message serves = subst IsDoors (sym serves) tt

pub doors_here : (inside old : Traffic) (to : ℕ) (here : Shelf) (message : Message) (lanes : Way) (doors : Doors) → inside ≡ old
    → to < length old.shelves → here ≡ get_or inside.shelves to here → Serves (keys_of old) lanes (Sent to message) → HasDoors lanes doors
    → doors ≡ doors_of here.keys message
doors_here inside old to here message lanes doors same below here_is serves is =
    ap (doors_or doors) (sym is ∙ serves) ∙ ap (λ (keys : List Selector). doors_of keys message) (keys_here inside old to here same below here_is)

-- a way that serves a receive has its lane at its rank
pub has_lane : (keys : List (List Selector)) (lanes : Way) (at : ℕ) (wish : Receive) → Serves keys lanes (Asked at wish) → IsLane lanes
has_lane keys lanes at wish serves = subst IsLane (sym serves.1) tt

pub lane_here : (inside old : Traffic) (at : ℕ) (here : Shelf) (wish : Receive) (lanes : Way) (lane : ℕ) → inside ≡ old
    → at < length old.shelves → here ≡ get_or inside.shelves at here → Serves (keys_of old) lanes (Asked at wish) → HasLane lanes lane
    → IsItsLane here.keys wish lane
lane_here inside old at here wish lanes lane same below here_is serves is =
    let one : serves.0 ≡ lane = ap (lane_or lane) (sym serves.1 ∙ is) in
    subst (λ (keys : List Selector). IsItsLane keys wish lane) (keys_here inside old at here same below here_is)
    (subst (IsItsLane (known_at (keys_of old) at) wish) one serves.2)

-- the way of a call serves what it posts
sent_served : (keys : List (List Selector)) (req : ReqNo) (rank : ℕ) (whom : Peer) (selected : TagSel) (comm : ℕ) (cells : List ℤ)
    → Serves keys (way_for keys comm rank whom selected) (sent_by req rank whom selected comm cells)
sent_served keys req rank (peer.Rank to) (tag.Tag chosen) comm cells = refl
sent_served keys req rank (peer.Rank to) tag.Any comm cells = tt
sent_served keys req rank peer.Any selected comm cells = tt
sent_served keys req rank peer.Null selected comm cells = tt

asked_served : (keys : List (List Selector)) (req : ReqNo) (rank : ℕ) (whom : Peer) (selected : TagSel) (comm : ℕ)
    → IfSome (selector_by comm whom selected) (IsKnown (known_at keys rank))
    → Serves keys (way_from keys comm rank whom selected) (asked_by req rank whom selected comm)
asked_served keys req rank (peer.Rank from) selected comm known = (_, refl, record { is = refl; known = known })
asked_served keys req rank peer.Any selected comm known = (_, refl, record { is = refl; known = known })
asked_served keys req rank peer.Null selected comm known = tt

-- the way of a request is that of its call
way_is : (program : Program) (keys : List (List Selector)) (ways : List (List Way)) (req : ReqNo) (call : Call) (lanes : Way)
    → AreRouted program keys ways → call_of program req ≡ Some call → way_at ways req ≡ Some lanes → lanes ≡ way_by keys call
way_is program keys ways req call lanes routed call_is at =
    same_Some lanes (way_by keys call) (sym at ∙ routed.ways_are req ∙ ap (option_map (way_by keys)) call_is)

has_way_by : (keys : List (List Selector)) (o : Option Call) → IsSome o → IsSome (option_map (way_by keys) o)
has_way_by keys None some = some
has_way_by keys (Some call) some = refl

-- a request with a call has a way
has_way : (program : Program) (keys : List (List Selector)) (ways : List (List Way)) (req : ReqNo) → AreRouted program keys ways
    → IsSome (call_of program req) → IsSome (way_at ways req)
has_way program keys ways req routed some = ap is_some (routed.ways_are req) ∙ has_way_by keys (call_of program req) some

pub send_has_way : (program : Program) (keys : List (List Selector)) (old : Traffic) (ways : List (List Way)) (req : ReqNo) (count : ℕ) (now : Switch)
    → AreRouted program keys ways → switch program old ≡ now → IsSend now.program req count → IsSome (way_at ways req)
send_has_way program keys old ways req count now routed same sends =
    has_way program keys ways req routed (send_has_call program req count (subst (λ (s : Switch). IsSend s.program req count) (sym same) sends))

pub receive_has_way : (program : Program) (keys : List (List Selector)) (old : Traffic) (ways : List (List Way)) (req : ReqNo) (now : Switch)
    → AreRouted program keys ways → switch program old ≡ now → IsReceive now.program req → IsSome (way_at ways req)
receive_has_way program keys old ways req now routed same receives =
    has_way program keys ways req routed (recv_has_call program req (subst (λ (s : Switch). IsReceive s.program req) (sym same) receives))

-- what the way of a send serves, and the way of a receive
pub serves_send : (program : Program) (eager : ℕ) (old : Traffic) (slots : List (List Slot)) (ways : List (List Way)) (req : ReqNo) (slot : Slot)
    (lanes : Way) (cells : List ℤ) (now : Switch)
    → KeepsExchange program eager old slots → AreRouted program (keys_of old) ways → switch program old ≡ now → slot_at slots req ≡ Some slot
    → way_at ways req ≡ Some lanes → IsSend now.program req (length cells)
    → Serves (keys_of old) lanes (sent_by req slot.call.rank slot.call.peer slot.call.tag slot.call.comm cells)
serves_send program eager old slots ways req slot lanes cells now kept routed same at is sends =
    let keys = keys_of old in
    let call = slot.call in
    let says = slot_says program eager old slots req slot kept at in
    let posts : is_receive call.how ≡ false =
    is_send program req (length cells) call says.call_is (subst (λ (s : Switch). IsSend s.program req (length cells)) (sym same) sends) in
    subst (λ (w : Way). Serves keys w (sent_by req call.rank call.peer call.tag call.comm cells))
    (sym (way_is program keys ways req call lanes routed says.call_is is ∙ cond-false (is_receive call.how) (way_in keys call) (way_to keys call) posts))
    (sent_served keys req call.rank call.peer call.tag call.comm cells)

heard_is : (keys : List Selector) (call : Call) → is_receive call.how ≡ true → IsHeard call.rank keys call
    → IfSome (selector_by call.comm call.peer call.tag) (IsKnown keys)
heard_is keys call receives heard =
    let selector = selector_by call.comm call.peer call.tag in
    subst (λ (b : Bool). IfSome (cond b selector None) (IsKnown keys)) (eq-eqb call.rank call.rank refl)
    (subst (λ (b : Bool). IfSome (cond (b && (call.rank == call.rank)) selector None) (IsKnown keys)) receives heard)

pub serves_receive : (program : Program) (eager : ℕ) (old : Traffic) (slots : List (List Slot)) (ways : List (List Way)) (req : ReqNo) (slot : Slot)
    (lanes : Way) (now : Switch)
    → KeepsExchange program eager old slots → AreRouted program (keys_of old) ways → switch program old ≡ now → slot_at slots req ≡ Some slot
    → way_at ways req ≡ Some lanes → IsReceive now.program req
    → Serves (keys_of old) lanes (asked_by req slot.call.rank slot.call.peer slot.call.tag slot.call.comm)
serves_receive program eager old slots ways req slot lanes now kept routed same at is receives =
    let keys = keys_of old in
    let call = slot.call in
    let says = slot_says program eager old slots req slot kept at in
    let posts : is_receive call.how ≡ true =
    is_recv program req call says.call_is (subst (λ (s : Switch). IsReceive s.program req) (sym same) receives) in
    let heard : IsHeard call.rank (known_at keys call.rank) call =
    subst (λ (o : Option Call). IfSome o (λ c. IsHeard c.rank (known_at keys c.rank) c)) says.call_is (routed.known req) in
    subst (λ (w : Way). Serves keys w (asked_by req call.rank call.peer call.tag call.comm))
    (sym (way_is program keys ways req call lanes routed says.call_is is ∙ cond-true (is_receive call.how) (way_in keys call) (way_to keys call) posts))
    (asked_served keys req call.rank call.peer call.tag call.comm (heard_is (known_at keys call.rank) call posts heard))

-- the ways stay those of the requests, since no posting changes what is known
pub routed_after : (program : Program) (old new : Traffic) (ways : List (List Way)) (posting : Posting) → AreRouted program (keys_of old) ways
    → HasSpent old new posting → AreRouted program (keys_of new) ways
routed_after program old new ways posting routed spent = subst (λ (keys : List (List Selector)). AreRouted program keys ways) (sym spent.keys) routed

-- the ways of all slots, one by one
way_of_row : (keys : List (List Selector)) (nth : ℕ) (o : Option (List Slot))
    → option_and_then (λ (row : List Way). slice_get row nth) (option_map (row_of keys) o)
    ≡ option_map (λ (slot : Slot). way_by keys slot.call) (option_and_then (λ (row : List Slot). slice_get row nth) o)
way_of_row keys nth None = refl
way_of_row keys nth (Some row) = slice_get-map (λ (slot : Slot). way_by keys slot.call) row nth

way_of_slot : (keys : List (List Selector)) (slots : List (List Slot)) (req : ReqNo)
    → way_at (ways_of keys slots) req ≡ option_map (λ (slot : Slot). way_by keys slot.call) (slot_at slots req)
way_of_slot keys slots req =
    ap (option_and_then (λ (row : List Way). slice_get row req.nth)) (slice_get-map (row_of keys) slots req.task.0)
    ∙ way_of_row keys req.nth (slice_get slots req.task.0)

way_of_call : (keys : List (List Selector)) (exchange : Exchange) (req : ReqNo) (o : Option Call)
    → option_map (λ (slot : Slot). way_by keys slot.call) (option_map (slot_of exchange req) o) ≡ option_map (way_by keys) o
way_of_call keys exchange req None = refl
way_of_call keys exchange req (Some call) = refl

rank_by : (rank : ℕ) (operation : Op) → (call_by rank operation).rank ≡ rank
rank_by rank (op.Compute kernel dst left right value step) = refl
rank_by rank (op.Post kind span whom selected comm status) = refl
rank_by rank (op.Await later handles status) = refl

-- the rank of a call of the program exists
rank_below : (program : Program) → WellFormed program → (req : ReqNo) (call : Call) → call_of program req ≡ Some call → call.rank < program.ranks
rank_below program well req call is =
    let from = origin program req call is in
    subst (λ (n : ℕ). n < program.ranks) (sym (rank_by from.task.rank from.operation) ∙ ap (λ (c : Call). c.rank) from.call_is)
    (of_task program well req call from).rank

-- what is heard of all slots is heard of each
heard_one : (rank : ℕ) (keys : List Selector) (slots : List (List Slot)) (req : ReqNo) (slot : Slot) → AreHeard rank keys slots
    → slot_at slots req ≡ Some slot → IsHeard rank keys slot.call
heard_one rank keys slots req slot heard at =
    let found = found_in_row slots req slot at in
    let row = found.0 in
    let below : req.task.0 < length slots = slice_get_within slots req.task.0 row found.1 in
    let within : req.nth < length row = slice_get_within row req.nth slot found.2 in
    let all : All (λ (s : Slot). IsHeard rank keys s.call) row =
    subst (All (λ (s : Slot). IsHeard rank keys s.call)) (get_or_from_slice_get slots req.task.0 row row found.1) (heard req.task.0 row below) in
    subst (λ (s : Slot). IsHeard rank keys s.call) (get_or_from_slice_get row req.nth slot slot found.2) (all req.nth slot within)

known_by : (program : Program) (traffic : Traffic) (slots : List (List Slot)) (keys : List (List Selector)) (req : ReqNo) (o : Option Call)
    → WellFormed program → call_of program req ≡ o → slot_at slots req ≡ option_map (slot_of (exchange_of traffic) req) o
    → ((rank : ℕ) → rank < program.ranks → AreHeard rank (known_at keys rank) slots)
    → IfSome o (λ call. IsHeard call.rank (known_at keys call.rank) call)
known_by program traffic slots keys req None well is at heard = tt
known_by program traffic slots keys req (Some call) well is at heard =
    heard_one call.rank (known_at keys call.rank) slots req (slot_of (exchange_of traffic) req call) (heard call.rank (rank_below program well req call is)) at

-- the ways at the start
pub routed_at_start : (program : Program) (eager : ℕ) (traffic : Traffic) (slots : List (List Slot)) (keys : List (List Selector)) (ways : List (List Way))
    → KeepsExchange program eager traffic slots → keys_of traffic ≡ keys → ways ≡ ways_of keys slots
    → ((rank : ℕ) → rank < program.ranks → AreHeard rank (known_at keys rank) slots) → AreRouted program (keys_of traffic) ways
routed_at_start program eager traffic slots keys ways kept keys_is ways_is heard =
    subst (λ (all : List (List Selector)). AreRouted program all ways) (sym keys_is)
    (record {
      ways_are = λ req. ap (λ (w : List (List Way)). way_at w req) ways_is ∙ way_of_slot keys slots req
          ∙ ap (option_map (λ (slot : Slot). way_by keys slot.call)) (kept.slots_are req)
          ∙ way_of_call keys (exchange_of traffic) req (call_of program req);
      known = λ req. known_by program traffic slots keys req (call_of program req) kept.well refl (kept.slots_are req) heard;
    })
