-- What the lock keeps, as the book goes on.
use Rattle.std.proofs.Common.{◌≡◌, ◌≢◌, ℕ, zero, suc, ◌+◌, ◌-◌, ◌<◌, ◌≤◌, Bool, true, false, cond, List, [], ◌∷◌, ◌++◌, length, slice_get, slice_set}
use Rattle.std.proofs.Common.{Option, Some, None}
use Rattle.std.proofs.Common.{refl, sym, ap, ◌∙◌, subst, inl, inr, arith}
use Rattle.std.specs.Prelude.{IsSome, MatchOption, unwrap_or}
use Rattle.std.specs.List.{list_any}
use Rattle.std.proofs.lemmas.Bool.{false≢true, cases_Bool, cases_eq}
use Rattle.std.proofs.lemmas.Option.{slice_get_within}
use Rattle.std.proofs.Math.ListN.{length-set}
use Rattle.rt_base.specs.declared.data.ReqNo.{ReqNo}
use Rattle.rt_base.specs.declared.data.Program.{Program}
use Rattle.rt_base.specs.Matching.{same_request}
use Rattle.rt_base.proofs.SameRequest.{same_request-self}
use Rattle.rt_base.specs.Completion.{is_complete}
use Rattle.rt_base.specs.State.{State, opening}
use Rattle.task_local.specs.StandsFor.{Record}
use Rattle.task_machine.specs.Machine.{move}
use Rattle.task_machine.specs.Legal.{IsDefined, state_of}
use Rattle.task_machine.specs.Owed.{opened, IsOwed}
use Rattle.task_machine.proofs.Lists.{slice_get-set_same, slice_get-set_other}
use Rattle.tidy_runs.proofs.Bodies as bodies
use Rattle.tidy_runs.proofs.OpenedOnce.{some_counts}
use Rattle.history_laws.proofs.Standing.{stands_once}
use Rattle.pass_table.specs.Passes.{TableId, PassIs, NoteIs}
use Rattle.meet_hall.specs.Holders.{HolderIs, TicketIs}
use Rattle.shared_lists.specs.Deeds.{moves, state_seen, is_offered, looks, is_stopped}
use Rattle.shared_lists.specs.Said.{Looks, Stops, IsFreshTask}
use Rattle.shared_lists.proofs.Pairs.{state_seen-else}
use Rattle.shared_lists.proofs.Offers.{offered-own, offered-else}
use Rattle.listed_book.specs.declared.replies.Told.{Told}
use Rattle.listed_book.specs.declared.replies.Offered.{Offered}
use Rattle.listed_book.specs.Listed.{BookIs, with_pair, state_in, LooksAt, StopsAt, MovesTask}
use Rattle.listed_book.specs.Replies.{OffersTask, TakesFirst}
use Rattle.turn_table.specs.declared.hands.Door.{Door}
use Rattle.shared_tasks.specs.Places.{meeting_of, IsHolder}
use Rattle.shared_tasks.specs.Keeping.{IsFresh}
use Rattle.shared_tasks.specs.Owing.{place_in, with_ticket, IsTicketOf, KeepsTickets, HasOpened}
use Rattle.shared_tasks.proofs.Lying.{none_opened, places_stay}
use Rattle.shared_tasks.proofs.Owed.{move_keeps, first_ticket, poll_keeps}
use Rattle.shared_book.specs.declared.pairs.Pair.{Pair}
use Rattle.shared_book.specs.Kept.{IsPairOf, IsLying, HasPlaces, KeepsSection}
use Rattle.shared_book.specs.Answers.{Takes}
use Rattle.shared_book.proofs.Moves.{runs_before, at_step, does_for, new_program}

-- ---- a pair more at the end of the list

same_program : (old new : BookIs) (caller number : ℕ) → new ≡ with_pair old caller number → new.program ≡ old.program
same_program old new caller number is = ap (λ (b : BookIs). b.program) is

-- a number that offers no task changes nothing that lies there
lying_on : (p : Program) (site : TableId) (old new : BookIs) (caller number : ℕ) (pairs : List (Option Pair)) → new ≡ with_pair old caller number
    → ((t : ℕ) → t < length pairs → number ≢ t + 1)
    → ((t : ℕ) (lies : Option Pair) → slice_get pairs t ≡ Some lies → IsLying p site t (is_offered t old.seen) lies)
    → (t : ℕ) (lies : Option Pair) → slice_get pairs t ≡ Some lies → IsLying p site t (is_offered t new.seen) lies
lying_on p site old new caller number pairs is other lying t lies here =
    let same : is_offered t new.seen ≡ is_offered t old.seen = ap (λ (b : BookIs). is_offered t b.seen) is
    ∙ offered-else t caller number old.seen (other t (slice_get_within pairs t lies here)) in
    subst (λ (b : Bool). IsLying p site t b lies) (sym same) (lying t lies here)

kept_by : (p : Program) (w : ℕ) (table site : TableId) (old new : BookIs) (caller number : ℕ) (rows after : List (List (Option TicketIs)))
    (pairs : List (Option Pair)) → KeepsSection p w table site old rows pairs → new ≡ with_pair old caller number
    → ((t : ℕ) → t < length pairs → number ≢ t + 1) → HasPlaces p after → KeepsTickets p site (state_in new) after
    → KeepsSection p w table site new after pairs
kept_by p w table site old new caller number rows after pairs keeps is other places tickets = record {
  well_formed = keeps.well_formed;
  program_is = same_program old new caller number is ∙ keeps.program_is;
  workers_is = ap (λ (b : BookIs). b.workers) is ∙ keeps.workers_is;
  table_is = ap (λ (b : BookIs). b.table) is ∙ keeps.table_is;
  places = places;
  tickets = tickets;
  counted = keeps.counted;
  lying = lying_on p site old new caller number pairs is other keeps.lying;
}

-- ---- the moves of tasks

pub kept_move : (p : Program) (w : ℕ) (table site : TableId) (old new : BookIs) (before after : PassIs) (held left : Record)
    (rows more : List (List (Option TicketIs)))
    (pairs : List (Option Pair)) (t : ℕ) (door : Door) (holder : HolderIs) → KeepsSection p w table site old rows pairs
    → MovesTask old new before after held left → before.caller ≡ t → IsHolder p site t (meeting_of door t) holder
    → HasOpened holder (opened p (state_in old) t) rows more → ((req : ReqNo) → IsSome (place_in rows req) → IsSome (place_in more req))
    → KeepsSection p w table site new more pairs
kept_move p w table site old new before after held left rows more pairs t door holder keeps m its at opens stay =
    let moved : state_in new ≡ (move p (state_in old) t).state =
    m.state ∙ ap (λ (q : Program). (move q (state_in old) before.caller).state) keeps.program_is ∙ ap (λ (u : ℕ). (move p (state_in old) u).state) its in
    kept_by p w table site old new before.caller 0 rows more pairs keeps m.adds.book (λ u within. λ same. omega (arith, same))
    (λ req below. stay req (keeps.places req below))
    (subst (λ (s : State). KeepsTickets p site s more) (sym moved) (move_keeps p site (state_in old) t door holder rows more at keeps.tickets opens))

-- where the move opens nothing the tickets stay
pub kept_step : (p : Program) (w : ℕ) (table site : TableId) (old new : BookIs) (before after : PassIs) (held left : Record)
    (rows : List (List (Option TicketIs)))
    (pairs : List (Option Pair)) (t : ℕ) (door : Door) (holder : HolderIs) → KeepsSection p w table site old rows pairs
    → MovesTask old new before after held left → before.caller ≡ t → IsHolder p site t (meeting_of door t) holder → opened p (state_in old) t ≡ []
    → KeepsSection p w table site new rows pairs
kept_step p w table site old new before after held left rows pairs t door holder keeps m its at none =
    kept_move p w table site old new before after held left rows rows pairs t door holder keeps m its at
    (subst (λ (reqs : List ReqNo). HasOpened holder reqs rows rows) (sym none) (none_opened holder rows)) (λ req has. has)

-- ---- looks and stops

-- a pair that is no step leaves the state
state_stays : (old new : BookIs) (caller number : ℕ) → new ≡ with_pair old caller (number + 1) → state_in new ≡ state_in old
state_stays old new caller number is =
    let next : number + 1 ≡ suc number = omega arith in
    ap state_in is ∙ ap (λ (n : ℕ). state_seen old.program (old.seen ++ (caller, n) ∷ [])) next ∙ state_seen-else old.program old.seen caller number

kept_else : (p : Program) (w : ℕ) (table site : TableId) (old new : BookIs) (caller number : ℕ) (rows : List (List (Option TicketIs)))
    (pairs : List (Option Pair))
    → KeepsSection p w table site old rows pairs → new ≡ with_pair old caller (number + 1) → length p.tasks.items ≤ number
    → KeepsSection p w table site new rows pairs
kept_else p w table site old new caller number rows pairs keeps is behind =
    kept_by p w table site old new caller (number + 1) rows rows pairs keeps is (λ t within. λ same. omega (arith, same, within, keeps.counted, behind))
    keeps.places (subst (λ (s : State). KeepsTickets p site s rows) (sym (state_stays old new caller number is)) keeps.tickets)

kept_same : (p : Program) (w : ℕ) (table site : TableId) (old new : BookIs) (rows : List (List (Option TicketIs))) (pairs : List (Option Pair))
    → KeepsSection p w table site old rows pairs → new ≡ old → KeepsSection p w table site new rows pairs
kept_same p w table site old new rows pairs keeps is = subst (λ (b : BookIs). KeepsSection p w table site b rows pairs) (sym is) keeps

pub kept_look : (p : Program) (w : ℕ) (table site : TableId) (old new : BookIs) (before after : PassIs) (rows : List (List (Option TicketIs)))
    (pairs : List (Option Pair)) → KeepsSection p w table site old rows pairs → LooksAt old new before after → KeepsSection p w table site new rows pairs
kept_look p w table site old new before after rows pairs keeps (inl adds) =
    kept_else p w table site old new before.caller (length old.program.tasks.items) rows pairs keeps adds.book
    (let same = ap (λ (q : Program). length q.tasks.items) keeps.program_is in omega (arith, same))
kept_look p w table site old new before after rows pairs keeps (inr stays) = kept_same p w table site old new rows pairs keeps stays.0.book

pub kept_stop : (p : Program) (w : ℕ) (table site : TableId) (old new : BookIs) (before after : PassIs) (rows : List (List (Option TicketIs)))
    (pairs : List (Option Pair)) → KeepsSection p w table site old rows pairs → StopsAt old new before after → KeepsSection p w table site new rows pairs
kept_stop p w table site old new before after rows pairs keeps (inl adds) =
    let n = length old.program.tasks.items in
    let two : n + 2 ≡ (n + 1) + 1 = omega arith in
    kept_else p w table site old new before.caller (n + 1) rows pairs keeps (adds.book ∙ ap (with_pair old before.caller) two)
    (let same = ap (λ (q : Program). length q.tasks.items) keeps.program_is in omega (arith, same))
kept_stop p w table site old new before after rows pairs keeps (inr stays) = kept_same p w table site old new rows pairs keeps stays.0.book

looks_in : (old new : BookIs) (before after : PassIs) → LooksAt old new before after → Looks old.program old.workers before after
looks_in old new before after (inl adds) = inl adds.does
looks_in old new before after (inr stays) =
    inr (stays.0.catches, ap (looks old.program) stays.0.whole ∙ stays.1)

stops_in : (old new : BookIs) (before after : PassIs) → StopsAt old new before after → Stops old.program old.workers before after
stops_in old new before after (inl adds) = inl adds.does
stops_in old new before after (inr stays) =
    inr (stays.0.catches, ap (is_stopped old.program) stays.0.whole ∙ stays.1)

-- in the words of the names
pub looks_for : (p : Program) (w : ℕ) (old new : BookIs) (before after : PassIs) → old.program ≡ p → old.workers ≡ w → LooksAt old new before after
    → Looks p w before after
looks_for p w old new before after same_p same_w looks =
    subst (λ (q : Program). Looks q w before after) same_p (subst (λ (v : ℕ). Looks old.program v before after) same_w (looks_in old new before after looks))

pub stops_for : (p : Program) (w : ℕ) (old new : BookIs) (before after : PassIs) → old.program ≡ p → old.workers ≡ w → StopsAt old new before after
    → Stops p w before after
stops_for p w old new before after same_p same_w stops =
    subst (λ (q : Program). Stops q w before after) same_p (subst (λ (v : ℕ). Stops old.program v before after) same_w (stops_in old new before after stops))

-- ---- an offer

none_beyond : (pairs : List (Option Pair)) (t : ℕ) → t < length pairs → slice_get pairs t ≡ None → ⊥
none_beyond [] t within is = absurd (omega (arith, within))
none_beyond (x ∷ pairs) zero within is = absurd (cc)
none_beyond (x ∷ pairs) (suc t) within is = none_beyond pairs t (omega (arith, within)) is

lies_some : (p : Program) (site : TableId) (t : ℕ) (pairs : List (Option Pair)) (lies : Option Pair) → slice_get pairs t ≡ Some lies
    → IsLying p site t false lies → (pair : Pair) × (slice_get pairs t ≡ Some (Some pair)) × IsPairOf p site t pair
lies_some p site t pairs None here lying = absurd lying
lies_some p site t pairs (Some pair) here lying = (pair, here, lying)

lies_by : (p : Program) (site : TableId) (t : ℕ) (o : Option (Option Pair)) (pairs : List (Option Pair)) → slice_get pairs t ≡ o → t < length pairs
    → ((lies : Option Pair) → slice_get pairs t ≡ Some lies → IsLying p site t false lies)
    → (pair : Pair) × (slice_get pairs t ≡ Some (Some pair)) × IsPairOf p site t pair
lies_by p site t None pairs is within lying = absurd (none_beyond pairs t within is)
lies_by p site t (Some lies) pairs is within lying = lies_some p site t pairs lies is (lying lies is)

-- the holders of a task that is offered lay there
pub offered_lies : (p : Program) (w : ℕ) (table site : TableId) (old new : BookIs) (before after : PassIs) (offered : Offered)
    (rows : List (List (Option TicketIs)))
    (pairs : List (Option Pair)) → KeepsSection p w table site old rows pairs → OffersTask old new before after offered
    → (pair : Pair) × (slice_get pairs offered.task.0 ≡ Some (Some pair)) × IsPairOf p site offered.task.0 pair
offered_lies p w table site old new before after offered rows pairs keeps o =
    let exists : offered.task.0 < length pairs =
    (let e = o.fresh.may.exists in let same = ap (λ (q : Program). length q.tasks.items) keeps.program_is in omega (arith, e, same, keeps.counted)) in
    lies_by p site offered.task.0 (slice_get pairs offered.task.0) pairs refl exists
    (λ lies here. subst (λ (b : Bool). IsLying p site offered.task.0 b lies) o.first (keeps.lying offered.task.0 lies here))

-- what lies after the offer, where the holders were taken
lying_after : (p : Program) (site : TableId) (old new : BookIs) (caller t : ℕ) (pairs : List (Option Pair)) → new ≡ with_pair old caller (t + 1) → t <
    length pairs
    → ((u : ℕ) (lies : Option Pair) → slice_get pairs u ≡ Some lies → IsLying p site u (is_offered u old.seen) lies)
    → (u : ℕ) (lies : Option Pair) → slice_get (slice_set pairs t None) u ≡ Some lies → IsLying p site u (is_offered u new.seen) lies
lying_after p site old new caller t pairs is within lying u lies here = elim (cases_eq u t) [
  | inl same ↦
      let own : is_offered u new.seen ≡ true =
      ap (λ (b : BookIs). is_offered u b.seen) is ∙ ap (λ (v : ℕ). is_offered v (old.seen ++ (caller, t + 1) ∷ [])) same ∙ offered-own t caller old.seen in
      let taken : None ≡ lies = cc (ap (slice_get (slice_set pairs t None)) same, slice_get-set_same pairs t None within, here) in
      subst (λ (b : Bool). IsLying p site u b lies) (sym own) (subst (IsLying p site u true) taken tt)
  | inr other ↦
      let else_ : is_offered u new.seen ≡ is_offered u old.seen =
      ap (λ (b : BookIs). is_offered u b.seen) is ∙ offered-else u caller (t + 1) old.seen (λ e. other (omega (arith, e))) in
      let was : slice_get pairs u ≡ Some lies = sym (slice_get-set_other pairs t u None other) ∙ here in
      subst (λ (b : Bool). IsLying p site u b lies) (sym else_) (lying u lies was)
]

pub kept_offer : (p : Program) (w : ℕ) (table site : TableId) (old new : BookIs) (before after : PassIs) (offered : Offered)
    (rows : List (List (Option TicketIs)))
    (pairs : List (Option Pair)) → KeepsSection p w table site old rows pairs → OffersTask old new before after offered
    → KeepsSection p w table site new rows (slice_set pairs offered.task.0 None)
kept_offer p w table site old new before after offered rows pairs keeps o =
    let is = o.adds.book in
    let c = before.caller in
    let t = offered.task.0 in
    let there = offered_lies p w table site old new before after offered rows pairs keeps o in
    record {
      well_formed = keeps.well_formed;
      program_is = same_program old new c (t + 1) is ∙ keeps.program_is;
      workers_is = ap (λ (b : BookIs). b.workers) is ∙ keeps.workers_is;
      table_is = ap (λ (b : BookIs). b.table) is ∙ keeps.table_is;
      places = keeps.places;
      tickets = subst (λ (s : State). KeepsTickets p site s rows) (sym (state_stays old new c t is)) keeps.tickets;
      counted = length-set pairs t None ∙ keeps.counted;
      lying = lying_after p site old new c t pairs is (slice_get_within pairs t (Some there.0) there.1) keeps.lying;
    }

pub fresh_is : (p : Program) (w : ℕ) (table site : TableId) (old new : BookIs) (before after : PassIs) (offered : Offered) (pair : Pair)
    → old.program ≡ p → old.workers ≡ w → old.table ≡ table → OffersTask old new before after offered → IsPairOf p site offered.task.0 pair
    → IsFresh p w table site (record { task = offered.task.0; pass = offered.pass; pause = pair.pause; events = pair.events })
fresh_is p w table site old new before after offered pair same_p same_w same_t o its = record {
  task =
      subst (λ (q : Program). IsFreshTask q w table offered.task.0 offered.pass) same_p
      (subst (λ (v : ℕ). IsFreshTask old.program v table offered.task.0 offered.pass) same_w
      (subst (λ (i : TableId). IsFreshTask old.program old.workers i offered.task.0 offered.pass) same_t o.fresh));
  pause = its.pause;
  events = its.events;
  none_issued = its.none_issued;
}

-- ---- a poll

-- the request of a notice that was taken is not owed once more
told_once : (p : Program) (w : ℕ) (cs : List ℕ) (req : ReqNo) (later : List ReqNo) → IsDefined p w (opening p) cs → (state_of p cs).notices ≡ req ∷ later
    → list_any (same_request req) later ≡ false
told_once p w cs req later runs first = elim (cases_Bool (list_any (same_request req) later)) [
  | inl again ↦
      let few = stands_once p w cs runs req in
      let whole : bodies.times req (state_of p cs).notices ≡ cond (same_request req req) 1 0 + bodies.times req later =
      ap (bodies.times req) first ∙ bodies.times-cons req req later in
      let own = bodies.count_one (same_request req req) (same_request-self req) in
      absurd (omega (arith, few, whole, own, some_counts req later again))
  | inr none ↦ none
]

not_owed_by : (p : Program) (s : State) (req : ReqNo) → list_any (same_request req) s.notices ≡ false → is_complete p s.exchange req ≡ true
    → IsOwed p s req → ⊥
not_owed_by p s req once complete (inl open_) = false≢true (sym open_.0 ∙ complete)
not_owed_by p s req once complete (inr again) = false≢true (sym once ∙ again)

pub not_owed : (p : Program) (w : ℕ) (old new : BookIs) (before after : PassIs) (told : Told) → old.program ≡ p → old.workers ≡ w
    → TakesFirst old new before after told → IsOwed p (state_in new) told.req → ⊥
not_owed p w old new before after told same_p same_w t owed =
    let runs = runs_before old.program old.workers before after 0 t.adds.does in
    let at : state_in old ≡ state_of old.program (moves (before.seen ++ t.adds.does.since)) = ap (state_seen old.program) t.adds.since in
    let once = told_once old.program old.workers (moves (before.seen ++ t.adds.does.since)) told.req (state_in new).notices runs
    (ap (λ (s : State). s.notices) (sym at) ∙ t.first) in
    not_owed_by p (state_in new) told.req once (ap (λ (q : Program). is_complete q (state_in new).exchange told.req) (sym same_p) ∙ t.complete) owed

pub kept_poll : (p : Program) (w : ℕ) (table site : TableId) (old new : BookIs) (before after : PassIs) (told : Told) (rows : List (List (Option TicketIs)))
    (pairs : List (Option Pair)) → KeepsSection p w table site old rows pairs → TakesFirst old new before after told
    → IsSome (place_in rows told.req) → KeepsSection p w table site new (with_ticket rows told.req None) pairs
kept_poll p w table site old new before after told rows pairs keeps t has =
    let poller = before.caller - length old.program.tasks.items in
    let gone = not_owed p w old new before after told keeps.program_is keeps.workers_is t in
    kept_by p w table site old new before.caller 0 rows (with_ticket rows told.req None) pairs keeps t.adds.book (λ u within. λ same. omega (arith, same))
    (λ req below. places_stay rows told.req req None has (keeps.places req below))
    (subst (λ (s : State). KeepsTickets p site s (with_ticket rows told.req None)) (sym t.state)
    (poll_keeps p site (state_in old) poller told.req rows keeps.tickets has (λ owed. gone (subst (λ (s : State). IsOwed p s told.req) (sym t.state) owed))))

-- in the words of the names
pub takes_for : (p : Program) (w : ℕ) (old new : BookIs) (before after : PassIs) (told : Told) (ticket : TicketIs) → old.program ≡ p → old.workers ≡ w
    → TakesFirst old new before after told → Takes p w before after (record { req = told.req; ticket = ticket; note = told.note })
takes_for p w old new before after told ticket same_p same_w t =
    let was = at_step p old new before after 0 same_p t.adds in
    let now : state_in new ≡ state_seen p after.seen =
    ap (λ (q : Program). state_seen q new.seen) (new_program old new before after 0 t.adds ∙ same_p) ∙ ap (state_seen p) (sym t.adds.whole) in
    record {
      does = does_for p w old new before after 0 same_p same_w t.adds;
      first =
          ap (λ (s : State). s.notices) (sym was) ∙ t.first ∙ ap (λ (s : State). told.req ∷ s.notices) now;
      note = (ap (λ (n : NoteIs). n.table) t.note, ap (λ (n : NoteIs). n.seen) t.note);
      complete =
          ap (λ (s : State). is_complete p s.exchange told.req) (sym now)
          ∙ ap (λ (q : Program). is_complete q (state_in new).exchange told.req) (sym same_p) ∙ t.complete;
    }

lying_some : (Fact : TicketIs → Type 0) (o : Option (Option TicketIs)) → MatchOption (unwrap_or o None) ⊥ Fact → IsSome o
lying_some Fact None no_ = absurd no_
lying_some Fact (Some lies) fits = refl

-- the ticket of the first notice lies there
pub told_lies : (p : Program) (w : ℕ) (table site : TableId) (old new : BookIs) (before after : PassIs) (told : Told) (rows : List (List (Option TicketIs)))
    (pairs : List (Option Pair)) → KeepsSection p w table site old rows pairs → TakesFirst old new before after told → IsSome (place_in rows told.req)
told_lies p w table site old new before after told rows pairs keeps t =
    lying_some (IsTicketOf p site told.req) (place_in rows told.req)
    (first_ticket p site (state_in old) told.req (state_in new).notices rows keeps.tickets t.first)
