-- What the engine's calls answer.
use Rattle.std.proofs.Common.{◌≡◌, ℕ, ◌≤◌, ◌<◌, ◌^◌, Bool, true, false, ◌&&◌, ◌||◌, cond, List, [], ◌∷◌, ℤ, length, filter, position, find, slice_get, sum_by}
use Rattle.std.proofs.Common.{option_to_list, Option, Some, None, option_map, option_and_then, IfSome, IsSome, is_some, sym, refl, ap, ◌∙◌, subst, arith, ◌⊎◌}
use Rattle.std.proofs.Common.{inl, inr, zero, suc, ◌==◌}
use Rattle.std.specs.List.{position_or_len}
use Rattle.std.proofs.lemmas.List.{length-map, length-replicate}
use Rattle.std.proofs.lemmas.List.Folds.{find_at, sum_by-replicate}
use Rattle.std.proofs.lemmas.List.Sums.{length-filter, sum_by-cons}
use Rattle.std.proofs.lemmas.Option.{slice_get_past, slice_get-map}
use Rattle.std.proofs.lemmas.Bool.{cases_lt, lt-ltb, le-ltb, or_left, or_right, false≢true, and_parts, false_from_ne_true, ne_eqb, cond-false}
use Rattle.rt_base.specs.declared.data.ReqNo.{ReqNo}
use Rattle.rt_base.specs.declared.data.TaskDef.{TaskDef}
use Rattle.rt_base.specs.declared.data.Program.{Program}
use Rattle.rt_base.specs.Operations.{posting_of, postings, is_posting}
use Rattle.rt_base.specs.Matching.{same_request}
use Rattle.rt_base.specs.Exchange.{Exchange, Match, Posting, Sent, Asked, Nowhere, no_mail, silent, element, match_made, exchange_after, other_of, partner_of}
use Rattle.rt_base.specs.Exchange.{what_is_posted, post, partner, sent_by, asked_by}
use Rattle.rt_base.specs.Completion.{is_party, is_posted, match_with, is_complete, completes_alone, completes_at_once, request_status, request_cells}
use Rattle.rt_base.specs.WellFormed.{WellFormed}
use Rattle.match_engine.specs.declared.slots.Call.{Call}
use Rattle.match_engine.specs.declared.slots.Slot.{Slot}
use Rattle.match_engine.specs.declared.slots.Side.{Side}
use Rattle.match_engine.specs.declared.slots.Side.TheVariants.{Messages, Receives}
use Rattle.match_engine.specs.declared.slots.Progress.TheVariants.{Unposted, Waits}
use Rattle.match_engine.specs.Switch.{Switch}
use Rattle.match_engine.specs.Requests.{IsSend, IsReceive, HasSpan}
use Rattle.match_lanes.specs.Shelves.{Shelf}
use Rattle.match_engine.specs.Queues.{Traffic, exchange_of, room_at, taken_at, IsPlaced, HasRoomFor, HasSpent}
use Rattle.match_engine.specs.Slots.{slot_at, settled, slots_that, is_open, is_due, call_by, call_of, slot_of, progress_of, progress_by, fresh_slot}
use Rattle.match_engine.specs.Slots.{fresh_row, fresh_slots, match_of, complete_by, call_status, call_cells}
use Rattle.match_engine.specs.Kept.{IsAccounted, KeepsExchange, in_mailbox}
use Rattle.match_engine.proofs.Counts.{sum_by-map}
use Rattle.rt_base.proofs.SameRequest.{same_request-self}
use Rattle.rt_base.proofs.Postings.{IsOf, posted_after, matched_after, party_of_made, posting_is_of}
use Rattle.match_engine.proofs.Accounts.{once}
use Rattle.match_engine.proofs.Course.{IsPartner, partner_before}
use Rattle.match_engine.proofs.Marks.{slots_that-marked, got_to}
use Rattle.match_engine.proofs.Calls.{posted_as, call_placed, call_alone, span_is_call, what_is_call, status_is_call, cells_are_call, send_posts}
use Rattle.match_engine.proofs.Calls.{receive_posts, is_send, is_recv, send_has_call, recv_has_call}
use Rattle.match_engine.proofs.Keeps.{IsPosted, IsFresh, slot_says, has_slot, posted_has_slot, open_since, open_one, due_one, call_taken, kept_after}

-- the first item that passes is the one at the first place that passes
pub find_position : {X : Type 0} (p : X → Bool) (xs : List X) → find p xs ≡ element xs (position p xs)
find_position p xs =
    elim (cases_lt (position_or_len p xs) (length xs)) [
      | inl below ↦ find_at p xs
          ∙ sym (ap (λ (b : Bool). element xs (cond b (Some (position_or_len p xs)) None)) (lt-ltb (position_or_len p xs) (length xs) below))
      | inr past ↦ find_at p xs ∙ slice_get_past xs (position_or_len p xs) past
          ∙ sym (ap (λ (b : Bool). element xs (cond b (Some (position_or_len p xs)) None)) (le-ltb (position_or_len p xs) (length xs) past))
    ]

at_place : {X : Type 0} (xs : List X) (place : ℕ) → place < length xs → is_some (slice_get xs place) ≡ true
at_place [] place below = absurd (omega (arith, below))
at_place (x ∷ xs) zero below = refl
at_place (x ∷ xs) (suc place) below = at_place xs place (omega (arith, below))

-- an item is found where it has a place
pub find_or_position : {X : Type 0} (p : X → Bool) (xs : List X) → is_some (find p xs) ≡ is_some (position p xs)
find_or_position p xs =
    elim (cases_lt (position_or_len p xs) (length xs)) [
      | inl below ↦ ap is_some (find_at p xs) ∙ at_place xs (position_or_len p xs) below
          ∙ sym (ap (λ (b : Bool). is_some (cond b (Some (position_or_len p xs)) None)) (lt-ltb (position_or_len p xs) (length xs) below))
      | inr past ↦ ap is_some (find_at p xs ∙ slice_get_past xs (position_or_len p xs) past)
          ∙ sym (ap (λ (b : Bool). is_some (cond b (Some (position_or_len p xs)) None)) (le-ltb (position_or_len p xs) (length xs) past))
    ]

-- what a posting of a request finds: its slot, and what it posts
pub record Finds (program : Program) (eager : ℕ) (old : Traffic) (slots : List (List Slot)) (req : ReqNo) (slot : Slot) (cells : List ℤ) (posting : Posting) :
    Type 0 where
  pub kept : KeepsExchange program eager old slots
  pub at : slot_at slots req ≡ Some slot
  pub fresh : is_posted (exchange_of old) req ≡ false
  pub is : posted_as req cells slot.call ≡ posting

abbrev said : (program : Program) (eager : ℕ) (old : Traffic) (slots : List (List Slot)) (req : ReqNo) (slot : Slot) (cells : List ℤ) (posting : Posting)
    → Finds program eager old slots req slot cells posting → IsFresh program (exchange_of old) req slot
said program eager old slots req slot cells posting found = slot_says program eager old slots req slot found.kept found.at

mailboxes_counted : (old : Traffic) → length (exchange_of old).mailboxes ≡ length old.shelves
mailboxes_counted old = length-map old.shelves (λ (shelf : Shelf). shelf.mailbox)

-- it goes to a rank that exists
pub placed_for : (program : Program) (eager : ℕ) (old : Traffic) (slots : List (List Slot)) (req : ReqNo) (slot : Slot) (cells : List ℤ) (posting : Posting)
    → Finds program eager old slots req slot cells posting → IsPlaced (length old.shelves) posting
placed_for program eager old slots req slot cells posting found =
    subst (λ (n : ℕ). IsPlaced n posting) (sym found.kept.ranks)
    (subst (IsPlaced program.ranks) found.is
    (call_placed program found.kept.well req slot.call cells (said program eager old slots req slot cells posting found).call_is))

posted_for : (program : Program) (eager : ℕ) (old : Traffic) (slots : List (List Slot)) (req : ReqNo) (slot : Slot) (cells : List ℤ) (posting : Posting)
    → Finds program eager old slots req slot cells posting → IsPosted program eager old slots req slot (posted_as req cells slot.call)
posted_for program eager old slots req slot cells posting found =
    record {
      kept = found.kept;
      at = found.at;
      fresh = found.fresh;
      own = posting_is_of slot.call.how req slot.call.rank slot.call.peer slot.call.tag slot.call.comm cells;
      placed = subst (λ (n : ℕ). IsPlaced n (posted_as req cells slot.call)) (sym found.kept.ranks ∙ sym (mailboxes_counted old))
          (call_placed program found.kept.well req slot.call cells (said program eager old slots req slot cells posting found).call_is);
    }

-- a slot that passes a test is counted
some_slot : (test : Slot → Bool) (slots : List (List Slot)) (req : ReqNo) (slot : Slot) → slot_at slots req ≡ Some slot → test (got_to Waits slot) ≡ false
    → once (test slot) ≤ slots_that test slots
some_slot test slots req slot at fails = omega (arith, slots_that-marked test slots req slot Waits at, ap once fails)

-- a posting takes no place at a rank that doesn't exist
nothing_past : (ranks : ℕ) (side : Side) (rank : ℕ) (posting : Posting) → IsPlaced ranks posting → ranks ≤ rank → taken_at posting side rank ≡ 0
nothing_past ranks Messages rank (Sent to message) placed past =
    cond-false (to == rank) 1 0 (ne_eqb to rank (λ same. absurd (omega (arith, same, placed, past))))
nothing_past ranks Receives rank (Sent to message) placed past = refl
nothing_past ranks Messages rank (Asked at wish) placed past = refl
nothing_past ranks Receives rank (Asked at wish) placed past =
    cond-false (at == rank) 1 0 (ne_eqb at rank (λ same. absurd (omega (arith, same, placed, past))))
nothing_past ranks side rank Nowhere placed past = refl

room_at_rank : (program : Program) (eager : ℕ) (old : Traffic) (slots : List (List Slot)) (req : ReqNo) (slot : Slot) (cells : List ℤ)
    → KeepsExchange program eager old slots → slot_at slots req ≡ Some slot → slot.progress ≡ Unposted → IsPlaced program.ranks (posted_as req cells slot.call)
    → (side : Side) (rank : ℕ) → (rank < program.ranks) ⊎ (program.ranks ≤ rank)
    → taken_at (posted_as req cells slot.call) side rank ≤ room_at old side rank
room_at_rank program eager old slots req slot cells kept at unposted placed side rank (inl below) =
    omega (
      arith,
      call_taken req cells slot.call side rank,
      ap once (due_one slot side rank unposted),
      some_slot (is_due side rank) slots req slot at refl,
      kept.room_to_wait side rank below,
    )
room_at_rank program eager old slots req slot cells kept at unposted placed side rank (inr past) =
    omega (arith, nothing_past program.ranks side rank (posted_as req cells slot.call) placed past)

-- there is room for it
pub room_for : (program : Program) (eager : ℕ) (old : Traffic) (slots : List (List Slot)) (req : ReqNo) (slot : Slot) (cells : List ℤ) (posting : Posting)
    → Finds program eager old slots req slot cells posting → HasRoomFor old posting
room_for program eager old slots req slot cells posting found =
    let says = said program eager old slots req slot cells posting found in
    let unposted = open_since (exchange_of old) req slot says.progress_is found.fresh in
    let one = some_slot is_open slots req slot found.at refl in
    let placed = call_placed program found.kept.well req slot.call cells says.call_is in
    subst (HasRoomFor old) found.is
    (record {
      posted = omega (arith, one, ap once (open_one slot unposted), found.kept.room_to_post);
      matches = omega (arith, one, ap once (open_one slot unposted), found.kept.room_to_match);
      queues = λ side rank.
          room_at_rank program eager old slots req slot cells found.kept found.at unposted placed side rank (cases_lt rank program.ranks);
    })

placed_in : (program : Program) (eager : ℕ) (old : Traffic) (slots : List (List Slot)) (req : ReqNo) (slot : Slot) (cells : List ℤ) (posting : Posting)
    → Finds program eager old slots req slot cells posting → IsPlaced (length (exchange_of old).mailboxes) posting
placed_in program eager old slots req slot cells posting found =
    subst (λ (n : ℕ). IsPlaced n posting) (sym (mailboxes_counted old)) (placed_for program eager old slots req slot cells posting found)

of_made : (posting : Posting) (made : Option Match) (P : ReqNo → Type 0) → ((found : Match) → made ≡ Some found → P (other_of posting found))
    → IfSome (option_map (other_of posting) made) P
of_made posting None P holds = tt
of_made posting (Some found) P holds = holds found refl

-- what holds of a partner that waited before
from_partner : (exchange : Exchange) (posting : Posting) (result : Option ReqNo) (P : ReqNo → Type 0) → result ≡ partner_of exchange posting
    → ((made : Match) → match_made exchange posting ≡ Some made → P (other_of posting made)) → IfSome result P
from_partner exchange posting result P is holds =
    subst (λ (o : Option ReqNo). IfSome o P) (sym is) (of_made posting (match_made exchange posting) P (λ made found. holds made found))

-- its partner has a slot
pub partner_slot : (program : Program) (eager : ℕ) (old : Traffic) (slots : List (List Slot)) (req : ReqNo) (slot : Slot) (cells : List ℤ) (posting : Posting)
    (result : Option ReqNo)
    → Finds program eager old slots req slot cells posting → result ≡ partner_of (exchange_of old) posting
    → IfSome result (λ other. IsSome (slot_at slots other))
partner_slot program eager old slots req slot cells posting result found is =
    from_partner (exchange_of old) posting result (λ other. IsSome (slot_at slots other)) is (λ made at.
    posted_has_slot program eager old slots (other_of posting made) found.kept
    (partner_before (exchange_of old) posting made (placed_in program eager old slots req slot cells posting found) at found.kept.accounted).posted)

-- the parts belong together after it
pub kept_for : (program : Program) (eager : ℕ) (old new : Traffic) (slots after : List (List Slot)) (req : ReqNo) (slot : Slot) (cells : List ℤ)
    (posting : Posting) (result : Option ReqNo) (place : ℕ)
    → Finds program eager old slots req slot cells posting → exchange_of new ≡ exchange_after (exchange_of old) req posting → HasSpent old new posting
    → result ≡ partner_of (exchange_of old) posting → place ≡ length old.matches.items → after ≡ settled slots req result place
    → KeepsExchange program eager new after
kept_for program eager old new slots after req slot cells posting result place found exchange spent result_is place_is after_is =
    let back = sym found.is in
    let done = kept_after program eager old new slots req slot cells (posted_for program eager old slots req slot cells posting found)
    (subst (λ (p : Posting). exchange_of new ≡ exchange_after (exchange_of old) req p) back exchange)
    (subst (HasSpent old new) back spent) in
    subst (KeepsExchange program eager new)
    (sym (after_is ∙ ap (λ (o : Option ReqNo). settled slots req o place) (result_is ∙ ap (partner_of (exchange_of old)) back)
    ∙ ap (settled slots req (partner_of (exchange_of old) (posted_as req cells slot.call))) place_is))
    done

-- the engine as contracts see it
abbrev pub switch : Program → Traffic → Switch
switch program traffic = record { program = program; exchange = exchange_of traffic }

what_is_for : (program : Program) (eager : ℕ) (old : Traffic) (slots : List (List Slot)) (req : ReqNo) (slot : Slot) (cells : List ℤ) (posting : Posting)
    → Finds program eager old slots req slot cells posting → what_is_posted program req cells ≡ posting
what_is_for program eager old slots req slot cells posting found =
    what_is_call program req slot.call cells (said program eager old slots req slot cells posting found).call_is ∙ found.is

-- the exchange is the one after the posting
pub exchange_for : (program : Program) (eager : ℕ) (old new : Traffic) (slots : List (List Slot)) (req : ReqNo) (slot : Slot) (cells : List ℤ)
    (posting : Posting) (now : Switch)
    → Finds program eager old slots req slot cells posting → switch program old ≡ now → exchange_of new ≡ exchange_after (exchange_of old) req posting
    → exchange_of new ≡ post now.program now.exchange req cells
unfolding post
exchange_for program eager old new slots req slot cells posting now found same is =
    subst (λ (s : Switch). exchange_of new ≡ exchange_after s.exchange req (what_is_posted s.program req cells)) same
    (is ∙ ap (exchange_after (exchange_of old) req) (sym (what_is_for program eager old slots req slot cells posting found)))

-- the answer is its partner
pub partner_for : (program : Program) (eager : ℕ) (old : Traffic) (slots : List (List Slot)) (req : ReqNo) (slot : Slot) (cells : List ℤ) (posting : Posting)
    (result : Option ReqNo) (now : Switch)
    → Finds program eager old slots req slot cells posting → switch program old ≡ now → result ≡ partner_of (exchange_of old) posting
    → result ≡ partner now.program now.exchange req cells
unfolding partner
partner_for program eager old slots req slot cells posting result now found same is =
    subst (λ (s : Switch). result ≡ partner_of s.exchange (what_is_posted s.program req cells)) same
    (is ∙ ap (partner_of (exchange_of old)) (sym (what_is_for program eager old slots req slot cells posting found)))

-- a request that waits is complete where it completes by itself
waiting_complete : (program : Program) (exchange : Exchange) (other : ReqNo) → IsPartner exchange other
    → is_complete program exchange other ≡ completes_alone program.eager (posting_of program other)
unfolding is_complete
waiting_complete program exchange other waits =
    ap (λ (b : Bool). b && (is_some (match_with exchange.matches other) || completes_alone program.eager (posting_of program other))) waits.posted
    ∙ ap (λ (b : Bool). b || completes_alone program.eager (posting_of program other))
    (find_or_position (is_party other) exchange.matches ∙ ap is_some waits.unmatched)

pub before_for : (program : Program) (eager : ℕ) (old : Traffic) (slots : List (List Slot)) (req : ReqNo) (slot : Slot) (cells : List ℤ) (posting : Posting)
    (result : Option ReqNo) (now : Switch)
    → Finds program eager old slots req slot cells posting → switch program old ≡ now → result ≡ partner_of (exchange_of old) posting
    → IfSome result (λ other. is_complete now.program now.exchange other ≡ completes_alone now.program.eager (posting_of now.program other))
before_for program eager old slots req slot cells posting result now found same is =
    subst (λ (s : Switch). IfSome result (λ other. is_complete s.program s.exchange other ≡ completes_alone s.program.eager (posting_of s.program other))) same
    (from_partner (exchange_of old) posting result (λ other. is_complete program (exchange_of old) other
    ≡ completes_alone program.eager (posting_of program other)) is
    (λ made at. waiting_complete program (exchange_of old) (other_of posting made)
    (partner_before (exchange_of old) posting made (placed_in program eager old slots req slot cells posting found) at found.kept.accounted)))

-- a partner is complete after the posting
taken_complete : (program : Program) (exchange : Exchange) (req : ReqNo) (posting : Posting) (made : Match) → IsOf req posting
    → match_made exchange posting ≡ Some made
    → is_posted exchange (other_of posting made) ≡ true → is_complete program (exchange_after exchange req posting) (other_of posting made) ≡ true
unfolding is_complete
taken_complete program exchange req posting made own at posted =
    let other = other_of posting made in
    let alone = completes_alone program.eager (posting_of program other) in
    let party : is_party other made ≡ true =
    party_of_made exchange req other posting made own at ∙ or_right (same_request req other) (same_request other other) (same_request-self other) in
    let matched : is_some (match_with (option_to_list (match_made exchange posting)) other) ≡ true =
    ap (λ (o : Option Match). is_some (match_with (option_to_list o) other)) at ∙ ap (λ (b : Bool). is_some (cond b (Some made) None)) party in
    ap (λ (b : Bool). b && (is_some (match_with (exchange_after exchange req posting).matches other) || alone))
    (posted_after exchange req other posting ∙ or_left (is_posted exchange other) (same_request other req) posted)
    ∙ ap (λ (b : Bool). b || alone)
    (matched_after exchange req other posting
    ∙ or_right (is_some (match_with exchange.matches other)) (is_some (match_with (option_to_list (match_made exchange posting)) other)) matched)

pub completed_for : (program : Program) (eager : ℕ) (old new : Traffic) (slots : List (List Slot)) (req : ReqNo) (slot : Slot) (cells : List ℤ)
    (posting : Posting) (result : Option ReqNo)
    → Finds program eager old slots req slot cells posting → exchange_of new ≡ exchange_after (exchange_of old) req posting
    → result ≡ partner_of (exchange_of old) posting
    → IfSome result (λ other. is_complete program (exchange_of new) other ≡ true)
completed_for program eager old new slots req slot cells posting result found exchange is =
    subst (λ (e : Exchange). IfSome result (λ other. is_complete program e other ≡ true)) (sym exchange)
    (from_partner (exchange_of old) posting result (λ other. is_complete program (exchange_after (exchange_of old) req posting) other ≡ true) is
    (λ made at. taken_complete program (exchange_of old) req posting made
    (subst (IsOf req) found.is (posting_is_of slot.call.how req slot.call.rank slot.call.peer slot.call.tag slot.call.comm cells)) at
    (partner_before (exchange_of old) posting made (placed_in program eager old slots req slot cells posting found) at found.kept.accounted).posted))

-- the three ways in which a request can stand
complete_cases : (eager : ℕ) (call : Call) (posted : Bool) (place : Option ℕ)
    → complete_by eager call (cond posted (progress_by place) Unposted) ≡ (posted && (is_some place || completes_at_once eager call.how call.span call.peer))
complete_cases eager call true None = refl
complete_cases eager call true (Some place) = refl
complete_cases eager call false place = refl

-- a request is complete where its slot says so
pub complete_for : (program : Program) (eager : ℕ) (traffic : Traffic) (slots : List (List Slot)) (req : ReqNo) (slot : Slot) (now : Switch)
    → KeepsExchange program eager traffic slots → switch program traffic ≡ now → slot_at slots req ≡ Some slot
    → complete_by eager slot.call slot.progress ≡ is_complete now.program now.exchange req
unfolding is_complete
complete_for program eager traffic slots req slot now kept same at =
    let exchange = exchange_of traffic in
    let says = slot_says program eager traffic slots req slot kept at in
    subst (λ (s : Switch). complete_by eager slot.call slot.progress
    ≡ (is_posted s.exchange req && (is_some (match_with s.exchange.matches req) || completes_alone s.program.eager (posting_of s.program req)))) same
    (ap (complete_by eager slot.call) says.progress_is
    ∙ complete_cases eager slot.call (is_posted exchange req) (position (is_party req) exchange.matches)
    ∙ ap (λ (b : Bool). is_posted exchange req && (b || completes_at_once eager slot.call.how slot.call.span slot.call.peer))
    (sym (find_or_position (is_party req) exchange.matches))
    ∙ ap (λ (n : ℕ). is_posted exchange req && (is_some (match_with exchange.matches req) || completes_at_once n slot.call.how slot.call.span slot.call.peer))
    kept.limit
    ∙ ap (λ (b : Bool). is_posted exchange req && (is_some (match_with exchange.matches req) || b)) (sym (call_alone program req slot.call says.call_is)))

-- a request completes by itself where its call does
pub alone_for : (program : Program) (eager : ℕ) (traffic : Traffic) (slots : List (List Slot)) (req : ReqNo) (slot : Slot) (now : Switch)
    → KeepsExchange program eager traffic slots → switch program traffic ≡ now → slot_at slots req ≡ Some slot
    → completes_at_once eager slot.call.how slot.call.span slot.call.peer ≡ completes_alone now.program.eager (posting_of now.program req)
alone_for program eager traffic slots req slot now kept same at =
    let says = slot_says program eager traffic slots req slot kept at in
    subst (λ (s : Switch). completes_at_once eager slot.call.how slot.call.span slot.call.peer
    ≡ completes_alone s.program.eager (posting_of s.program req)) same
    (ap (λ (n : ℕ). completes_at_once n slot.call.how slot.call.span slot.call.peer) kept.limit ∙ sym (call_alone program req slot.call says.call_is))

-- the span of a request is that of its call
pub span_for : (program : Program) (eager : ℕ) (traffic : Traffic) (slots : List (List Slot)) (req : ReqNo) (slot : Slot) (now : Switch)
    → KeepsExchange program eager traffic slots → switch program traffic ≡ now → slot_at slots req ≡ Some slot
    → HasSpan (posting_of now.program req) slot.call.span
span_for program eager traffic slots req slot now kept same at =
    let says = slot_says program eager traffic slots req slot kept at in
    subst (λ (s : Switch). HasSpan (posting_of s.program req) slot.call.span) same (span_is_call program req slot.call says.call_is)

-- a request without a slot isn't complete
pub none_for : (program : Program) (eager : ℕ) (traffic : Traffic) (slots : List (List Slot)) (req : ReqNo) (now : Switch)
    → KeepsExchange program eager traffic slots → switch program traffic ≡ now → slot_at slots req ≡ None → false ≡ is_complete now.program now.exchange req
unfolding is_complete
none_for program eager traffic slots req now kept same none =
    let exchange = exchange_of traffic in
    let unposted : is_posted exchange req ≡ false =
    false_from_ne_true (is_posted exchange req) (λ posted. false≢true (sym (ap is_some none) ∙ posted_has_slot program eager traffic slots req kept posted)) in
    subst (λ (s : Switch). false
    ≡ (is_posted s.exchange req && (is_some (match_with s.exchange.matches req) || completes_alone s.program.eager (posting_of s.program req)))) same
    (ap (λ (b : Bool). b && (is_some (match_with exchange.matches req) || completes_alone program.eager (posting_of program req))) (sym unposted))

posted_since : (program : Program) (exchange : Exchange) (req : ReqNo) → is_complete program exchange req ≡ true → is_posted exchange req ≡ true
unfolding is_complete
posted_since program exchange req complete =
    (and_parts (is_posted exchange req) (is_some (match_with exchange.matches req) || completes_alone program.eager (posting_of program req)) complete).0

-- a complete request was posted, and has a slot
pub complete_posted : (program : Program) (traffic : Traffic) (req : ReqNo) (now : Switch) → switch program traffic ≡ now
    → is_complete now.program now.exchange req ≡ true
    → is_posted (exchange_of traffic) req ≡ true
complete_posted program traffic req now same complete =
    posted_since program (exchange_of traffic) req (subst (λ (s : Switch). is_complete s.program s.exchange req ≡ true) (sym same) complete)

match_by : (matches : List Match) (place : Option ℕ) → match_of matches (progress_by place) ≡ element matches place
match_by matches None = refl
match_by matches (Some place) = refl

-- the match of a posted request is that of its progress
match_is : (exchange : Exchange) (req : ReqNo) (slot : Slot) → slot.progress ≡ progress_of exchange req → is_posted exchange req ≡ true
    → match_of exchange.matches slot.progress ≡ match_with exchange.matches req
match_is exchange req slot is posted =
    ap (match_of exchange.matches) (is ∙ ap (λ (b : Bool). cond b (progress_by (position (is_party req) exchange.matches)) Unposted) posted)
    ∙ match_by exchange.matches (position (is_party req) exchange.matches) ∙ sym (find_position (is_party req) exchange.matches)

-- the status and the cells of a complete request
pub status_for : (program : Program) (eager : ℕ) (traffic : Traffic) (slots : List (List Slot)) (req : ReqNo) (slot : Slot) (now : Switch)
    → KeepsExchange program eager traffic slots → switch program traffic ≡ now → slot_at slots req ≡ Some slot → is_complete now.program now.exchange req ≡ true
    → call_status slot.call (match_of traffic.matches.items slot.progress) ≡ request_status now.program now.exchange req
unfolding request_status
status_for program eager traffic slots req slot now kept same at complete =
    let says = slot_says program eager traffic slots req slot kept at in
    subst (λ (s : Switch). call_status slot.call (match_of traffic.matches.items slot.progress) ≡ request_status s.program s.exchange req) same
    (ap (call_status slot.call) (match_is (exchange_of traffic) req slot says.progress_is (complete_posted program traffic req now same complete))
    ∙ sym (status_is_call program req slot.call (match_with (exchange_of traffic).matches req) says.call_is))

pub cells_for : (program : Program) (eager : ℕ) (traffic : Traffic) (slots : List (List Slot)) (req : ReqNo) (slot : Slot) (now : Switch)
    → KeepsExchange program eager traffic slots → switch program traffic ≡ now → slot_at slots req ≡ Some slot → is_complete now.program now.exchange req ≡ true
    → call_cells slot.call (match_of traffic.matches.items slot.progress) ≡ request_cells now.program now.exchange req
unfolding request_cells
cells_for program eager traffic slots req slot now kept same at complete =
    let says = slot_says program eager traffic slots req slot kept at in
    subst (λ (s : Switch). call_cells slot.call (match_of traffic.matches.items slot.progress) ≡ request_cells s.program s.exchange req) same
    (ap (call_cells slot.call) (match_is (exchange_of traffic) req slot says.progress_is (complete_posted program traffic req now same complete))
    ∙ sym (cells_are_call program req slot.call (match_with (exchange_of traffic).matches req) says.call_is))

rows_counted : (tasks : List TaskDef) → sum_by (λ (task : TaskDef). length (fresh_row task)) tasks ≡ sum_by (λ (task : TaskDef). postings task.body.items) tasks
rows_counted [] = refl
rows_counted (task ∷ tasks) =
    omega (
      arith,
      sum_by-cons (λ (t : TaskDef). length (fresh_row t)) task tasks,
      sum_by-cons (λ (t : TaskDef). postings t.body.items) task tasks,
      length-map (filter is_posting task.body.items) (fresh_slot task.rank),
      length-filter is_posting task.body.items,
      rows_counted tasks,
    )

mapped_twice : {X Y Z : Type 0} (f : X → Y) (g : Y → Z) (o : Option X) → option_map (λ x. g (f x)) o ≡ option_map g (option_map f o)
mapped_twice f g None = refl
mapped_twice f g (Some x) = refl

-- as many slots as the program has requests
pub slots_counted : (program : Program) (slots : List (List Slot)) → WellFormed program → slots ≡ fresh_slots program → sum_by length slots < 2 ^ 32
slots_counted program slots well is =
    omega (
      arith,
      ap (λ (s : List (List Slot)). sum_by length s) is,
      sum_by-map length fresh_row program.tasks.items,
      rows_counted program.tasks.items,
      well.requests,
    )

fresh_slot_is : (program : Program) (req : ReqNo) (ranks : ℕ) (o : Option TaskDef)
    → option_and_then (λ (row : List Slot). slice_get row req.nth) (option_map fresh_row o)
    ≡ option_map (slot_of (silent ranks) req)
    (option_and_then (λ (task : TaskDef). option_map (call_by task.rank) (slice_get (filter is_posting task.body.items) req.nth)) o)
fresh_slot_is program req ranks None = refl
fresh_slot_is program req ranks (Some task) =
    slice_get-map (fresh_slot task.rank) (filter is_posting task.body.items) req.nth
    ∙ mapped_twice (call_by task.rank) (slot_of (silent ranks) req) (slice_get (filter is_posting task.body.items) req.nth)

-- the parts belong together at the start
pub kept_at_start : (program : Program) (eager : ℕ) (traffic : Traffic) (slots : List (List Slot)) → WellFormed program → eager ≡ program.eager
    → slots ≡ fresh_slots program
    → exchange_of traffic ≡ silent program.ranks → traffic.posted.room ≡ slots_that is_open slots → traffic.matches.room ≡ slots_that is_open slots
    → ((side : Side) (rank : ℕ) → rank < program.ranks → room_at traffic side rank ≡ slots_that (is_due side rank) slots)
    → KeepsExchange program eager traffic slots
kept_at_start program eager traffic slots well limit slots_is is posted matches queues =
    record {
      well = well;
      limit = limit;
      ranks = sym (mailboxes_counted traffic) ∙ ap (λ (e : Exchange). length e.mailboxes) is ∙ length-replicate program.ranks no_mail;
      slots_are = λ req. ap (λ (s : List (List Slot)). slot_at s req) slots_is
          ∙ ap (λ (o : Option (List Slot)). option_and_then (λ (row : List Slot). slice_get row req.nth) o)
          (slice_get-map fresh_row program.tasks.items req.task.0)
          ∙ fresh_slot_is program req program.ranks (slice_get program.tasks.items req.task.0)
          ∙ ap (λ (e : Exchange). option_map (slot_of e req) (call_of program req)) (sym is);
      accounted = subst IsAccounted (sym is) (λ q. omega (arith, sum_by-replicate (in_mailbox q) program.ranks no_mail));
      known = λ q yes. absurd (false≢true (ap (λ (e : Exchange). is_posted e q) (sym is) ∙ yes));
      room_to_post = omega (arith, posted);
      room_to_match = omega (arith, matches);
      room_to_wait = λ side rank below. omega (arith, queues side rank below);
    }

-- what a send finds, and what a receive finds
pub finds_send : (program : Program) (eager : ℕ) (old : Traffic) (slots : List (List Slot)) (req : ReqNo) (slot : Slot) (cells : List ℤ) (now : Switch)
    → KeepsExchange program eager old slots → switch program old ≡ now → slot_at slots req ≡ Some slot → is_posted now.exchange req ≡ false
    → IsSend now.program req (length cells)
    → Finds program eager old slots req slot cells (sent_by req slot.call.rank slot.call.peer slot.call.tag slot.call.comm cells)
finds_send program eager old slots req slot cells now kept same at fresh sends =
    let says = slot_says program eager old slots req slot kept at in
    record {
      kept = kept;
      at = at;
      fresh = subst (λ (s : Switch). is_posted s.exchange req ≡ false) (sym same) fresh;
      is = send_posts slot.call.how req slot.call.rank slot.call.peer slot.call.tag slot.call.comm cells
          (is_send program req (length cells) slot.call says.call_is (subst (λ (s : Switch). IsSend s.program req (length cells)) (sym same) sends));
    }

pub finds_receive : (program : Program) (eager : ℕ) (old : Traffic) (slots : List (List Slot)) (req : ReqNo) (slot : Slot) (now : Switch)
    → KeepsExchange program eager old slots → switch program old ≡ now → slot_at slots req ≡ Some slot → is_posted now.exchange req ≡ false
    → IsReceive now.program req
    → Finds program eager old slots req slot [] (asked_by req slot.call.rank slot.call.peer slot.call.tag slot.call.comm)
finds_receive program eager old slots req slot now kept same at fresh receives =
    let says = slot_says program eager old slots req slot kept at in
    record {
      kept = kept;
      at = at;
      fresh = subst (λ (s : Switch). is_posted s.exchange req ≡ false) (sym same) fresh;
      is = receive_posts slot.call.how req slot.call.rank slot.call.peer slot.call.tag slot.call.comm []
          (is_recv program req slot.call says.call_is (subst (λ (s : Switch). IsReceive s.program req) (sym same) receives));
    }

-- a send or a receive of the program has a slot
pub send_has_slot : (program : Program) (eager : ℕ) (old : Traffic) (slots : List (List Slot)) (req : ReqNo) (count : ℕ) (now : Switch)
    → KeepsExchange program eager old slots → switch program old ≡ now → IsSend now.program req count → IsSome (slot_at slots req)
send_has_slot program eager old slots req count now kept same sends =
    has_slot program (exchange_of old) slots req (call_of program req) (kept.slots_are req)
    (send_has_call program req count (subst (λ (s : Switch). IsSend s.program req count) (sym same) sends))

pub receive_has_slot : (program : Program) (eager : ℕ) (old : Traffic) (slots : List (List Slot)) (req : ReqNo) (now : Switch)
    → KeepsExchange program eager old slots → switch program old ≡ now → IsReceive now.program req → IsSome (slot_at slots req)
receive_has_slot program eager old slots req now kept same receives =
    has_slot program (exchange_of old) slots req (call_of program req) (kept.slots_are req)
    (recv_has_call program req (subst (λ (s : Switch). IsReceive s.program req) (sym same) receives))
