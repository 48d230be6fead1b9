-- The engine keeps its parts together.
use Rattle.std.proofs.Common.{◌≡◌, ℕ, ◌+◌, ◌≤◌, Bool, true, false, not, ◌&&◌, cond, List, ℤ, length, position, Option, Some, None, option_map, IfSome, IsSome}
use Rattle.std.proofs.Common.{is_some, sym, refl, ap, ◌∙◌, subst, arith, ◌⊎◌, inl, inr}
use Rattle.std.proofs.lemmas.List.{length-map, length-set}
use Rattle.std.proofs.lemmas.Option.{none-some, same_Some}
use Rattle.std.proofs.lemmas.Bool.{cases_Bool, or_cases, false≢true, both_ways, cond-true, cond-false, false_from_ne_true}
use Rattle.rt_base.specs.declared.data.ReqNo.{ReqNo}
use Rattle.rt_base.specs.declared.data.How.{How}
use Rattle.rt_base.specs.declared.data.How.TheVariants as how
use Rattle.rt_base.specs.declared.data.Peer.{Peer}
use Rattle.rt_base.specs.declared.data.Peer.TheVariants as peer
use Rattle.rt_base.specs.declared.data.TagSel.{TagSel}
use Rattle.rt_base.specs.declared.data.TagSel.TheVariants as tag
use Rattle.rt_base.specs.declared.data.Program.{Program}
use Rattle.rt_base.specs.Operations.{is_receive}
use Rattle.rt_base.specs.Matching.{same_request}
use Rattle.rt_base.specs.Exchange.{Exchange, Match, Posting, Sent, Asked, Nowhere, sent_by, asked_by, posting_by, send, receive, mailbox_of, match_made}
use Rattle.rt_base.specs.Exchange.{mailboxes_after, exchange_after, other_of, partner_of}
use Rattle.rt_base.specs.Completion.{is_party, is_posted}
use Rattle.match_engine.specs.declared.slots.Call.{Call}
use Rattle.match_engine.specs.declared.slots.Slot.{Slot}
use Rattle.match_engine.specs.declared.slots.Side.{Side}
use Rattle.match_engine.specs.declared.slots.Side.TheVariants.{Messages, Receives}
use Rattle.match_engine.specs.declared.slots.Progress.{Progress}
use Rattle.match_engine.specs.declared.slots.Progress.TheVariants.{Unposted, Waits, Matched}
use Rattle.match_lanes.specs.Shelves.{Shelf}
use Rattle.match_engine.specs.Queues.{Traffic, exchange_of, taken_at, IsPlaced, HasSpent}
use Rattle.match_engine.specs.Slots.{slot_at, marked, marked_by, settled, slots_that, is_open, is_due, enters, addresses, listens, is_unposted, call_of}
use Rattle.match_engine.specs.Slots.{slot_of, progress_of, progress_by}
use Rattle.match_engine.specs.Kept.{IsAccounted, KeepsExchange}
use Rattle.rt_base.proofs.SameRequest.{one_request}
use Rattle.rt_base.proofs.Postings.{IsOf, posted_after}
use Rattle.match_engine.proofs.Accounts.{accounted_after, once}
use Rattle.match_engine.proofs.Course.{partner_before, progress_other, progress_alone, progress_taken, progress_partner}
use Rattle.match_engine.proofs.Marks.{slot_at-marked, slots_that-marked, got_to}
use Rattle.match_engine.proofs.Calls.{posted_as}

-- the number of mailboxes stays
mailboxes_kept : (exchange : Exchange) (posting : Posting) → length (mailboxes_after exchange posting) ≡ length exchange.mailboxes
mailboxes_kept exchange (Sent to message) = length-set exchange.mailboxes to (send (mailbox_of exchange to) message)
mailboxes_kept exchange (Asked at wish) = length-set exchange.mailboxes at (receive (mailbox_of exchange at) wish)
mailboxes_kept exchange Nowhere = refl

-- a slot whose request is matched passes no test of requests that aren't posted
fewer_marked : (test : Slot → Bool) (slots : List (List Slot)) (q : ReqNo) (progress : Progress) (o : Option Slot) → slot_at slots q ≡ o
    → ((slot : Slot) → test (got_to progress slot) ≡ false) → slots_that test (marked slots q progress) ≤ slots_that test slots
fewer_marked test slots q progress None is fails = omega (arith, ap (λ (o : Option Slot). slots_that test (marked_by slots q progress o)) is)
fewer_marked test slots q progress (Some slot) is fails =
    omega (arith, slots_that-marked test slots q slot progress is, ap once (fails slot))

-- one slot fewer passes a test of requests that aren't posted
fewer_settled : (test : Slot → Bool) (slots : List (List Slot)) (req : ReqNo) (slot : Slot) (partner : Option ReqNo) (place : ℕ) → slot_at slots req ≡ Some slot
    → ((s : Slot) → test (got_to Waits s) ≡ false) → ((s : Slot) → test (got_to (Matched place) s) ≡ false)
    → slots_that test (settled slots req partner place) + once (test slot) ≤ slots_that test slots
fewer_settled test slots req slot None place is waits matched =
    omega (arith, slots_that-marked test slots req slot Waits is, ap once (waits slot))
fewer_settled test slots req slot (Some other) place is waits matched =
    let one = marked slots req (Matched place) in
    omega (
      arith,
      slots_that-marked test slots req slot (Matched place) is,
      ap once (matched slot),
      fewer_marked test one other (Matched place) (slot_at one other) refl matched,
    )

-- the slot of a request that isn't posted is open, and its call is that of the program
pub record IsFresh (program : Program) (exchange : Exchange) (req : ReqNo) (slot : Slot) : Type 0 where
  pub call_is : call_of program req ≡ Some slot.call
  pub progress_is : slot.progress ≡ progress_of exchange req

slot_stands : (program : Program) (exchange : Exchange) (req : ReqNo) (slot : Slot) (o : Option Call) → call_of program req ≡ o
    → Some slot ≡ option_map (slot_of exchange req) o → IsFresh program exchange req slot
slot_stands program exchange req slot None is same = absurd (none-some slot (sym same))
slot_stands program exchange req slot (Some call) is same =
    let one : slot ≡ slot_of exchange req call = same_Some slot (slot_of exchange req call) same in
    record { call_is = is ∙ ap Some (ap (λ (s : Slot). s.call) (sym one)); progress_is = ap (λ (s : Slot). s.progress) one }

pub slot_says : (program : Program) (eager : ℕ) (traffic : Traffic) (slots : List (List Slot)) (req : ReqNo) (slot : Slot)
    → KeepsExchange program eager traffic slots
    → slot_at slots req ≡ Some slot → IsFresh program (exchange_of traffic) req slot
slot_says program eager traffic slots req slot kept is =
    slot_stands program (exchange_of traffic) req slot (call_of program req) refl (sym is ∙ kept.slots_are req)

pub has_slot : (program : Program) (exchange : Exchange) (slots : List (List Slot)) (req : ReqNo) (o : Option Call)
    → slot_at slots req ≡ option_map (slot_of exchange req) o → IsSome o → IsSome (slot_at slots req)
has_slot program exchange slots req None is some = absurd (false≢true some)
has_slot program exchange slots req (Some call) is some = ap is_some is

-- a posted request has a slot
pub posted_has_slot : (program : Program) (eager : ℕ) (traffic : Traffic) (slots : List (List Slot)) (req : ReqNo) → KeepsExchange program eager traffic slots
    → is_posted (exchange_of traffic) req ≡ true → IsSome (slot_at slots req)
posted_has_slot program eager traffic slots req kept posted =
    has_slot program (exchange_of traffic) slots req (call_of program req) (kept.slots_are req) (kept.known req posted)

pub open_since : (exchange : Exchange) (req : ReqNo) (slot : Slot) → slot.progress ≡ progress_of exchange req → is_posted exchange req ≡ false
    → slot.progress ≡ Unposted
open_since exchange req slot is fresh = is ∙ ap (λ (b : Bool). cond b (progress_by (position (is_party req) exchange.matches)) Unposted) fresh

-- slots as the exchange after the posting has them
abbrev AreSlots : Program → Exchange → List (List Slot) → Type 0
AreSlots program exchange slots = (q : ReqNo) → slot_at slots q ≡ option_map (slot_of exchange q) (call_of program q)

-- the slot of this call, with this progress
abbrev slot_with : Progress → Call → Slot
slot_with progress call = record { call = call; progress = progress }

-- a slot says of a request what its call and its progress are
as_slot : (program : Program) (exchange : Exchange) (q : ReqNo) (call : Call) (progress : Progress) → call_of program q ≡ Some call
    → progress_of exchange q ≡ progress
    → ◌≡◌ {A = Option Slot} (Some (record { call = call; progress = progress })) (option_map (slot_of exchange q) (call_of program q))
as_slot program exchange q call progress call_is progress_is =
    ap (λ (p : Progress). Some (slot_with p call)) (sym progress_is) ∙ ap (option_map (slot_of exchange q)) (sym call_is)

-- a request whose progress stays has the slot that it had
same_slot : (program : Program) (old new : Exchange) (slots : List (List Slot)) (q : ReqNo) → AreSlots program old slots → progress_of new q ≡ progress_of old q
    → slot_at slots q ≡ option_map (slot_of new q) (call_of program q)
same_slot program old new slots q are same =
    are q ∙ ap (λ (p : Progress). option_map (slot_with p) (call_of program q)) (sym same)

after_alone : (program : Program) (old new : Exchange) (slots : List (List Slot)) (req q : ReqNo) (slot : Slot) → AreSlots program old slots
    → slot_at slots req ≡ Some slot → call_of program req ≡ Some slot.call → progress_of new req ≡ Waits
    → (same_request req q ≡ false → progress_of new q ≡ progress_of old q)
    → (same_request req q ≡ true) ⊎ (same_request req q ≡ false)
    → slot_at (marked slots req Waits) q ≡ option_map (slot_of new q) (call_of program q)
after_alone program old new slots req q slot are is call_is waits others (inl same) =
    slot_at-marked slots req q slot Waits is
    ∙ cond-true (same_request req q) (Some (got_to Waits slot)) (slot_at slots q) same
    ∙ subst (λ (r : ReqNo). Some (got_to Waits slot) ≡ option_map (slot_of new r) (call_of program r)) (one_request req q same)
    (as_slot program new req slot.call Waits call_is waits)
after_alone program old new slots req q slot are is call_is waits others (inr other) =
    slot_at-marked slots req q slot Waits is
    ∙ cond-false (same_request req q) (Some (got_to Waits slot)) (slot_at slots q) other
    ∙ same_slot program old new slots q are (others other)

-- the slots after a match: the request and its partner are in it, and all others are where they were
after_match : (program : Program) (old new : Exchange) (slots : List (List Slot)) (req other q : ReqNo) (slot taken : Slot) (place : ℕ)
    → AreSlots program old slots
    → slot_at slots req ≡ Some slot → call_of program req ≡ Some slot.call → slot_at slots other ≡ Some taken → call_of program other ≡ Some taken.call
    → same_request req other ≡ false → progress_of new req ≡ Matched place → progress_of new other ≡ Matched place
    → (same_request req q ≡ false → same_request other q ≡ false → progress_of new q ≡ progress_of old q)
    → (same_request other q ≡ true) ⊎ (same_request other q ≡ false) → (same_request req q ≡ true) ⊎ (same_request req q ≡ false)
    → slot_at (marked (marked slots req (Matched place)) other (Matched place)) q ≡ option_map (slot_of new q) (call_of program q)
after_match program old new slots req other q slot taken place are is call_is there taken_is apart mine theirs others (inl same) cases =
    let one = marked slots req (Matched place) in
    let still : slot_at one other ≡ Some taken =
    slot_at-marked slots req other slot (Matched place) is
    ∙ cond-false (same_request req other) (Some (got_to (Matched place) slot)) (slot_at slots other) apart ∙ there in
    slot_at-marked one other q taken (Matched place) still
    ∙ cond-true (same_request other q) (Some (got_to (Matched place) taken)) (slot_at one q) same
    ∙ subst (λ (r : ReqNo). Some (got_to (Matched place) taken) ≡ option_map (slot_of new r) (call_of program r)) (one_request other q same)
    (as_slot program new other taken.call (Matched place) taken_is theirs)
after_match program old new slots req other q slot taken place are is call_is there taken_is apart mine theirs others (inr third) (inl same) =
    let one = marked slots req (Matched place) in
    let still : slot_at one other ≡ Some taken =
    slot_at-marked slots req other slot (Matched place) is
    ∙ cond-false (same_request req other) (Some (got_to (Matched place) slot)) (slot_at slots other) apart ∙ there in
    slot_at-marked one other q taken (Matched place) still
    ∙ cond-false (same_request other q) (Some (got_to (Matched place) taken)) (slot_at one q) third
    ∙ slot_at-marked slots req q slot (Matched place) is
    ∙ cond-true (same_request req q) (Some (got_to (Matched place) slot)) (slot_at slots q) same
    ∙ subst (λ (r : ReqNo). Some (got_to (Matched place) slot) ≡ option_map (slot_of new r) (call_of program r)) (one_request req q same)
    (as_slot program new req slot.call (Matched place) call_is mine)
after_match program old new slots req other q slot taken place are is call_is there taken_is apart mine theirs others (inr third) (inr second) =
    let one = marked slots req (Matched place) in
    let still : slot_at one other ≡ Some taken =
    slot_at-marked slots req other slot (Matched place) is
    ∙ cond-false (same_request req other) (Some (got_to (Matched place) slot)) (slot_at slots other) apart ∙ there in
    slot_at-marked one other q taken (Matched place) still
    ∙ cond-false (same_request other q) (Some (got_to (Matched place) taken)) (slot_at one q) third
    ∙ slot_at-marked slots req q slot (Matched place) is
    ∙ cond-false (same_request req q) (Some (got_to (Matched place) slot)) (slot_at slots q) second
    ∙ same_slot program old new slots q are (others second third)

-- a request that is posted is another than one that isn't
apart_from : (exchange : Exchange) (req other : ReqNo) → is_posted exchange req ≡ false → is_posted exchange other ≡ true → same_request req other ≡ false
apart_from exchange req other fresh posted =
    false_from_ne_true (same_request req other) (λ same. both_ways (is_posted exchange req) fresh (ap (is_posted exchange) (one_request req other same)
    ∙ posted))

some_of : {X : Type 0} (o : Option X) → IsSome o → (x : X) × (o ≡ Some x)
some_of None some = absurd (false≢true some)
some_of (Some x) some = (x, refl)

-- what a posting finds: the parts of the engine as they are before it
pub record IsPosted (program : Program) (eager : ℕ) (old : Traffic) (slots : List (List Slot)) (req : ReqNo) (slot : Slot) (posting : Posting) : Type 0 where
  pub kept : KeepsExchange program eager old slots
  pub at : slot_at slots req ≡ Some slot
  pub fresh : is_posted (exchange_of old) req ≡ false
  pub own : IsOf req posting
  pub placed : IsPlaced (length (exchange_of old).mailboxes) posting

settled_slots : (program : Program) (eager : ℕ) (old : Traffic) (slots : List (List Slot)) (req : ReqNo) (slot : Slot) (posting : Posting)
    → IsPosted program eager old slots req slot posting → (made : Option Match) → match_made (exchange_of old) posting ≡ made
    → AreSlots program (exchange_after (exchange_of old) req posting) (settled slots req (option_map (other_of posting) made) (length old.matches.items))
settled_slots program eager old slots req slot posting found None is = λ q.
    let before = exchange_of old in
    let says = slot_says program eager old slots req slot found.kept found.at in
    after_alone program before (exchange_after before req posting) slots req q slot found.kept.slots_are found.at says.call_is
    (progress_alone before req posting found.kept.accounted found.fresh is)
    (λ apart. progress_other before req q posting found.own apart
    (subst (λ (m : Option Match). IfSome (option_map (other_of posting) m) (λ other. same_request other q ≡ false)) (sym is) tt))
    (cases_Bool (same_request req q))
settled_slots program eager old slots req slot posting found (Some made) is = λ q.
    let before = exchange_of old in
    let other = other_of posting made in
    let says = slot_says program eager old slots req slot found.kept found.at in
    let partner = partner_before before posting made found.placed is found.kept.accounted in
    let there = some_of (slot_at slots other) (posted_has_slot program eager old slots other found.kept partner.posted) in
    let tells = slot_says program eager old slots other there.0 found.kept there.1 in
    after_match program before (exchange_after before req posting) slots req other q slot there.0 (length old.matches.items) found.kept.slots_are found.at
    says.call_is
    there.1 tells.call_is (apart_from before req other found.fresh partner.posted)
    (progress_taken before req posting made found.own found.kept.accounted found.fresh is)
    (progress_partner before req posting made found.own found.placed found.kept.accounted is)
    (λ second third. progress_other before req q posting found.own second
    (subst (λ (m : Option Match). IfSome (option_map (other_of posting) m) (λ other. same_request other q ≡ false)) (sym is) third))
    (cases_Bool (same_request other q)) (cases_Bool (same_request req q))

-- a posting takes a place where its call enters
sent_taken : (req : ReqNo) (rank at : ℕ) (whom : Peer) (selected : TagSel) (comm : ℕ) (cells : List ℤ)
    → taken_at (sent_by req rank whom selected comm cells) Messages at ≤ once (addresses whom at)
sent_taken req rank at (peer.Rank to) (tag.Tag chosen) comm cells = omega arith
sent_taken req rank at (peer.Rank to) tag.Any comm cells = omega arith
sent_taken req rank at peer.Any selected comm cells = omega arith
sent_taken req rank at peer.Null selected comm cells = omega arith

sent_apart : (req : ReqNo) (rank at : ℕ) (whom : Peer) (selected : TagSel) (comm : ℕ) (cells : List ℤ)
    → taken_at (sent_by req rank whom selected comm cells) Receives at ≡ 0
sent_apart req rank at (peer.Rank to) (tag.Tag chosen) comm cells = refl
sent_apart req rank at (peer.Rank to) tag.Any comm cells = refl
sent_apart req rank at peer.Any selected comm cells = refl
sent_apart req rank at peer.Null selected comm cells = refl

asked_taken : (req : ReqNo) (rank at : ℕ) (whom : Peer) (selected : TagSel) (comm : ℕ)
    → taken_at (asked_by req rank whom selected comm) Receives at ≤ once (listens whom rank at)
asked_taken req rank at (peer.Rank from) selected comm = omega arith
asked_taken req rank at peer.Any selected comm = omega arith
asked_taken req rank at peer.Null selected comm = omega arith

asked_apart : (req : ReqNo) (rank at : ℕ) (whom : Peer) (selected : TagSel) (comm : ℕ)
    → taken_at (asked_by req rank whom selected comm) Messages at ≡ 0
asked_apart req rank at (peer.Rank from) selected comm = refl
asked_apart req rank at peer.Any selected comm = refl
asked_apart req rank at peer.Null selected comm = refl

-- whether a posting of this kind takes a place in this queue of the rank
abbrev enters_by : How → Side → Peer → ℕ → ℕ → Bool
enters_by kind Messages whom own rank = not (is_receive kind) && addresses whom rank
enters_by kind Receives whom own rank = is_receive kind && listens whom own rank

send_taken : (side : Side) (req : ReqNo) (rank at : ℕ) (whom : Peer) (selected : TagSel) (comm : ℕ) (cells : List ℤ)
    → taken_at (sent_by req rank whom selected comm cells) side at ≤ once (enters_by how.Send side whom rank at)
send_taken Messages req rank at whom selected comm cells = sent_taken req rank at whom selected comm cells
send_taken Receives req rank at whom selected comm cells = omega (arith, sent_apart req rank at whom selected comm cells)

receive_taken : (side : Side) (req : ReqNo) (rank at : ℕ) (whom : Peer) (selected : TagSel) (comm : ℕ)
    → taken_at (asked_by req rank whom selected comm) side at ≤ once (enters_by how.Recv side whom rank at)
receive_taken Messages req rank at whom selected comm = omega (arith, asked_apart req rank at whom selected comm)
receive_taken Receives req rank at whom selected comm = asked_taken req rank at whom selected comm

kind_taken : (kind : How) (side : Side) (req : ReqNo) (rank at : ℕ) (whom : Peer) (selected : TagSel) (comm : ℕ) (cells : List ℤ)
    → taken_at (posting_by kind req rank whom selected comm cells) side at ≤ once (enters_by kind side whom rank at)
kind_taken how.Send Messages req rank at whom selected comm cells = send_taken Messages req rank at whom selected comm cells
kind_taken how.Send Receives req rank at whom selected comm cells = send_taken Receives req rank at whom selected comm cells
kind_taken how.Ssend Messages req rank at whom selected comm cells = send_taken Messages req rank at whom selected comm cells
kind_taken how.Ssend Receives req rank at whom selected comm cells = send_taken Receives req rank at whom selected comm cells
kind_taken how.Recv side req rank at whom selected comm cells = receive_taken side req rank at whom selected comm
kind_taken how.Isend Messages req rank at whom selected comm cells = send_taken Messages req rank at whom selected comm cells
kind_taken how.Isend Receives req rank at whom selected comm cells = send_taken Receives req rank at whom selected comm cells
kind_taken how.Issend Messages req rank at whom selected comm cells = send_taken Messages req rank at whom selected comm cells
kind_taken how.Issend Receives req rank at whom selected comm cells = send_taken Receives req rank at whom selected comm cells
kind_taken how.Irecv Messages req rank at whom selected comm cells = receive_taken Messages req rank at whom selected comm
kind_taken how.Irecv Receives req rank at whom selected comm cells = receive_taken Receives req rank at whom selected comm

enters_is : (side : Side) (call : Call) (rank : ℕ) → enters_by call.how side call.peer call.rank rank ≡ enters side call rank
enters_is Messages call rank = refl
enters_is Receives call rank = refl

pub call_taken : (req : ReqNo) (cells : List ℤ) (call : Call) (side : Side) (rank : ℕ)
    → taken_at (posted_as req cells call) side rank ≤ once (enters side call rank)
call_taken req cells call side rank =
    omega (arith, kind_taken call.how side req call.rank rank call.peer call.tag call.comm cells, ap once (enters_is side call rank))

-- a request that isn't posted is open, and due where its call enters
pub open_one : (slot : Slot) → slot.progress ≡ Unposted → is_open slot ≡ true
open_one slot is = ap is_unposted is

pub due_one : (slot : Slot) (side : Side) (rank : ℕ) → slot.progress ≡ Unposted → is_due side rank slot ≡ enters side slot.call rank
due_one slot side rank is = ap (λ (p : Progress). is_unposted p && enters side slot.call rank) is

-- what is posted was, or is the request itself
known_after : (program : Program) (exchange : Exchange) (req q : ReqNo) (posting : Posting) → IsSome (call_of program req)
    → ((r : ReqNo) → is_posted exchange r ≡ true → IsSome (call_of program r))
    → is_posted (exchange_after exchange req posting) q ≡ true → IsSome (call_of program q)
known_after program exchange req q posting own known posted =
    elim (or_cases (is_posted exchange q) (same_request q req) (sym (posted_after exchange req q posting) ∙ posted)) [
      | inl was ↦ known q was
      | inr same ↦ ap (λ (r : ReqNo). is_some (call_of program r)) (one_request q req same) ∙ own
    ]

-- the parts of the engine belong together after a posting
pub kept_after : (program : Program) (eager : ℕ) (old new : Traffic) (slots : List (List Slot)) (req : ReqNo) (slot : Slot) (cells : List ℤ)
    → IsPosted program eager old slots req slot (posted_as req cells slot.call)
    → exchange_of new ≡ exchange_after (exchange_of old) req (posted_as req cells slot.call)
    → HasSpent old new (posted_as req cells slot.call)
    → KeepsExchange program eager new (settled slots req (partner_of (exchange_of old) (posted_as req cells slot.call)) (length old.matches.items))
kept_after program eager old new slots req slot cells found is spent =
    let before = exchange_of old in
    let posting = posted_as req cells slot.call in
    let after = exchange_after before req posting in
    let partner = partner_of before posting in
    let place = length old.matches.items in
    let kept = found.kept in
    let says = slot_says program eager old slots req slot kept found.at in
    let unposted = open_since before req slot says.progress_is found.fresh in
    let fewer_open = fewer_settled is_open slots req slot partner place found.at (λ s. refl) (λ s. refl) in
    record {
      well = kept.well;
      limit = kept.limit;
      ranks = sym (length-map new.shelves (λ (shelf : Shelf). shelf.mailbox)) ∙ ap (λ (e : Exchange). length e.mailboxes) is
          ∙ mailboxes_kept before posting ∙ length-map old.shelves (λ (shelf : Shelf). shelf.mailbox) ∙ kept.ranks;
      slots_are = subst (λ (e : Exchange). AreSlots program e (settled slots req partner place)) (sym is)
          (settled_slots program eager old slots req slot posting found (match_made before posting) refl);
      accounted = subst IsAccounted (sym is) (accounted_after before req posting found.own found.placed found.fresh kept.accounted);
      known = λ q posted. known_after program before req q posting (ap is_some says.call_is) kept.known
          (subst (λ (e : Exchange). is_posted e q ≡ true) is posted);
      room_to_post = omega (arith, fewer_open, ap once (open_one slot unposted), kept.room_to_post, spent.posted);
      room_to_match = omega (arith, fewer_open, ap once (open_one slot unposted), kept.room_to_match, spent.matches);
      room_to_wait = λ side rank below. omega (
        arith,
        fewer_settled (is_due side rank) slots req slot partner place found.at (λ s. refl) (λ s. refl),
        ap once (due_one slot side rank unposted),
        call_taken req cells slot.call side rank,
        kept.room_to_wait side rank below,
        spent.queues side rank,
      );
    }
