-- What the holders of a task may issue as its move opens requests, and what the task keeps after it.
use Rattle.std.proofs.Common.{◌≡◌, ◌≢◌, ◌⊎◌, ℕ, zero, suc, ◌+◌, ◌<◌, ◌≤◌, ◌==◌, ◌||◌, ◌&&◌, Bool, true, false, cond, List, [], ◌∷◌, ◌++◌, length, take, drop}
use Rattle.std.proofs.Common.{map, slice_get}
use Rattle.std.proofs.Common.{Option, Some, None, option_map, refl, sym, ap, ◌∙◌, subst, inl, inr, arith, Contains}
use Rattle.std.specs.Prelude.{All, AllPairs, if◌then◌else◌}
use Rattle.std.specs.List.{list_any}
use Rattle.std.proofs.lemmas.List.{map-append}
use Rattle.std.proofs.lemmas.List.Sums.{sum_by-take-le}
use Rattle.std.proofs.lemmas.List.Elements.{All-contains}
use Rattle.std.proofs.lemmas.Bool.{false≢true, cases_Bool, or_cases, or_left, or_right, eq-eqb, ne_eqb, cases_eq}
use Rattle.std.proofs.lemmas.Option.{slice_get_within}
use Rattle.rt_base.specs.declared.data.ReqNo.{ReqNo}
use Rattle.rt_base.specs.declared.data.Phase.{Phase}
use Rattle.rt_base.specs.declared.data.Phase.TheVariants as phase
use Rattle.rt_base.specs.declared.data.Handle.{Handle}
use Rattle.rt_base.specs.declared.data.Handle.TheVariants as handle
use Rattle.rt_base.specs.declared.data.Op.{Op}
use Rattle.rt_base.specs.declared.data.Op.TheVariants as op
use Rattle.rt_base.specs.declared.data.TaskDef.{TaskDef}
use Rattle.rt_base.specs.declared.data.Program.{Program}
use Rattle.rt_base.specs.Operations.{request, blocks, postings, nth_at, named_requests, awaited, awaited_by, is_posting}
use Rattle.rt_base.specs.Matching.{same_request}
use Rattle.rt_base.proofs.SameRequest.{one_request, same_request-self}
use Rattle.rt_base.specs.Exchange.{Exchange}
use Rattle.rt_base.specs.Completion.{is_complete}
use Rattle.rt_base.specs.declared.data.Span.{Span}
use Rattle.rt_base.specs.Listing.{Listing}
use Rattle.rt_base.specs.InUse.{left_after, posts}
use Rattle.rt_base.specs.State.{State, Task, opening}
use Rattle.rt_base.specs.MayMove.{MayMove}
use Rattle.rt_base.specs.WellFormed.{WellFormed, IsOpen, NamesOther}
use Rattle.task_machine.specs.Machine.{Moved, move, step, open_ones}
use Rattle.task_machine.specs.Legal.{IsDefined, state_of}
use Rattle.task_machine.specs.Owed.{opened, opened_at, IsOneOf}
use Rattle.task_machine.proofs.Runs.{IsDefined-push, state_after-push, step-task, exists_of_move}
use Rattle.tidy_runs.specs.Tidy.{AreOf, IsBoundBy, IsTidyTask, IsTidy, called}
use Rattle.tidy_runs.specs.Openings.{Opens}
use Rattle.tidy_runs.proofs.Bodies as bodies
use Rattle.tidy_runs.proofs.Bodies.{ClosedBy, Adds, closed_more, named_own, named_once, named_by, own_in, own-append, open_own, open_among, open_has}
use Rattle.tidy_runs.proofs.Bodies.{open_fewer, in_left, in_right, in_either, take_next, postings-push}
use Rattle.tidy_runs.proofs.OpenedOnce.{opened_own, opened-row, some_counts}
use Rattle.tidy_runs.proofs.Tidying.{awaited_own, awaited_once, follows_at, runs_are_tidy, unbound}
use Rattle.tidy_runs.proofs.Telling.{moves_open}
use Rattle.meetings.specs.Meetings.{one, times}
use Rattle.meetings.proofs.Counts.{one_same, one_else, times-append}
use Rattle.meet_hall.specs.Holders.{HolderIs}
use Rattle.shared_tasks.specs.Places.{requests_of, places_of, AreAwaited}
use Rattle.shared_tasks.specs.Owing.{AreNew}

-- ---- places of requests

pub places-append : (xs ys : List ReqNo) → places_of (xs ++ ys) ≡ places_of xs ++ places_of ys
places-append [] ys = refl
places-append (x ∷ xs) ys = ap (λ (ps : List ℕ). x.nth ∷ ps) (places-append xs ys)

not_counted : (b : Bool) → (b ≡ true → ⊥) → ◌≡◌ {A = ℕ} (cond b 1 0) 0
not_counted true no_ = absurd (no_ refl)
not_counted false no_ = refl

-- the place of a request stands among those of its task's requests as often as the request does
pub place_counts : (t place : ℕ) (reqs : List ReqNo) → AreOf t reqs → times place (places_of reqs) ≡ bodies.times (request t place) reqs
place_counts t place [] own = refl
place_counts t place (r ∷ reqs) own =
    let rest = place_counts t place reqs own.1 in
    let whole = bodies.times-cons (request t place) r reqs in
    let mine : request t r.nth ≡ r = ap (λ (u : ℕ). request u r.nth) (sym own.0) in
    elim (cases_eq r.nth place) [
      | inl same ↦
          let here : one (r.nth == place) ≡ 1 = one_same r.nth place same in
          let is : same_request (request t place) r ≡ true =
          ap (λ (q : ReqNo). same_request q r) (ap (request t) (sym same) ∙ mine) ∙ same_request-self r in
          let counted = bodies.count_one (same_request (request t place) r) is in
          omega (arith, here, counted, whole, rest)
      | inr other ↦
          let here : one (r.nth == place) ≡ 0 = one_else r.nth place other in
          let none = not_counted (same_request (request t place) r) (λ is. other (ap (λ (q : ReqNo). q.nth) (sym (one_request (request t place) r is)))) in
          omega (arith, here, none, whole, rest)
    ]

place_is_in : (t place : ℕ) (reqs : List ReqNo) → AreOf t reqs → 0 < times place (places_of reqs) → IsOneOf (request t place) reqs
place_is_in t place [] own some = absurd (omega (arith, some))
place_is_in t place (r ∷ reqs) own some = elim (cases_Bool (list_any (same_request (request t place)) (r ∷ reqs))) [
  | inl has ↦ has
  | inr none ↦
      let zero_ = bodies.none_counts (request t place) (r ∷ reqs) none in
      absurd (omega (arith, some, place_counts t place (r ∷ reqs) own, zero_))
]

pub place_of_one : (t : ℕ) (q : ReqNo) (reqs : List ReqNo) → AreOf t reqs → IsOneOf q reqs → 0 < times q.nth (places_of reqs)
place_of_one t q reqs own has =
    let mine : request t q.nth ≡ q = ap (λ (u : ℕ). request u q.nth) (sym (own_in t reqs q own has)) in
    let counted : 1 ≤ bodies.times (request t q.nth) reqs = subst (λ (r : ReqNo). 1 ≤ bodies.times r reqs) (sym mine) (some_counts q reqs has) in
    omega (arith, counted, place_counts t q.nth reqs own)

-- ---- how many postings a front of a body has

front_few : (ops : List Op) (k : ℕ) → postings (take k ops) ≤ postings ops
front_few ops k = sum_by-take-le (λ (x : Op). cond (is_posting x) 1 0) ops k

-- what a task may be in front of has posted no more than its body
called_few : (def : TaskDef) (at : Phase) → postings (called def at) ≤ postings def.body.items
called_few def phase.Waiting = front_few def.body.items 0
called_few def (phase.At k) = front_few def.body.items k
called_few def (phase.In k) = front_few def.body.items (k + 1)
called_few def phase.Ended = omega arith
called_few def phase.Returned = omega arith
called_few def phase.Released = omega arith

-- ---- what is awaited in an operation is posted by the body

none_closed : (t : ℕ) (front : List Op) → ClosedBy t front []
none_closed t front = record { few = λ n. omega arith; posted = λ n has. absurd (false≢true has); closed = λ n has left. false≢true has }

named_adds : (t : ℕ) (front : List Op) (later : Bool) (handles : Listing Handle) (status : Option Span) → All (IsOpen front) handles.items
    → AllPairs NamesOther handles.items → Adds t front (op.Await later handles status) (named_requests t handles.items)
named_adds t front later handles status are_open apart = record {
  own = named_own t handles.items;
  few = λ q. named_once t handles.items q apart;
  comes = λ n has.
      let named = named_by t n handles.items has in
      inl (All-contains (IsOpen front) handles.items (handle.Nth n) are_open named.0, named.1);
}

own_below : (t n k : ℕ) (def : TaskDef) (x : Op) (blocking : Bool) → slice_get def.body.items k ≡ Some x → is_posting x ≡ true
    → IsOneOf (request t n) (cond blocking (request t (nth_at def k) ∷ []) []) → n < postings def.body.items
own_below t n k def x true here is_post has = elim (or_cases (same_request (request t n) (request t (nth_at def k))) false has) [
  | inl same ↦
      let is : n ≡ nth_at def k = ap (λ (r : ReqNo). r.nth) (one_request (request t n) (request t (nth_at def k)) same) in
      let next : postings (take (k + 1) def.body.items) ≡ nth_at def k + posts x =
      ap postings (take_next def.body.items k x here) ∙ postings-push (take k def.body.items) x in
      let mine : posts x ≡ 1 = ap (λ (b : Bool). if b then 1 else 0) is_post in
      omega (arith, is, next, mine, front_few def.body.items (k + 1))
  | inr none ↦ absurd (false≢true none)
]
own_below t n k def x false here is_post has = absurd (false≢true has)

awaited_by_below : (p : Program) (t n k : ℕ) (def : TaskDef) (o : Option Op) → WellFormed p → slice_get p.tasks.items t ≡ Some def
    → slice_get def.body.items k ≡ o → IsOneOf (request t n) (awaited_by t (nth_at def k) o) → n < postings def.body.items
awaited_by_below p t n k def None well is_def here has = absurd (false≢true has)
awaited_by_below p t n k def (Some (op.Compute kind dst left right value step)) well is_def here has = absurd (false≢true has)
awaited_by_below p t n k def (Some (op.Post how span peer tag comm status)) well is_def here has =
    own_below t n k def (op.Post how span peer tag comm status) (blocks how) here refl has
awaited_by_below p t n k def (Some (op.Await later handles status)) well is_def here has =
    let x = op.Await later handles status in
    let follows = follows_at p t k def x well is_def here in
    let closed = closed_more t (take k def.body.items) x [] (named_requests t handles.items) (none_closed t (take k def.body.items))
    (named_adds t (take k def.body.items) later handles status follows.handles.0 follows.handles.1) in
    let few = closed.posted n has in
    let front = ap postings (take_next def.body.items k x here) in
    omega (arith, few, front, front_few def.body.items (k + 1))

pub awaited_below : (p : Program) (t n k : ℕ) (def : TaskDef) → WellFormed p → slice_get p.tasks.items t ≡ Some def
    → IsOneOf (request t n) (awaited t def k) → n < postings def.body.items
unfolding awaited
awaited_below p t n k def well is_def has = awaited_by_below p t n k def (slice_get def.body.items k) well is_def refl has

-- ---- what the holders may issue

-- the task after its move keeps its books in order
pub tidy_after : (p : Program) (w : ℕ) (cs : List ℕ) (t : ℕ) (may : MayMove p (state_of p cs) t) → WellFormed p → IsDefined p w (opening p) cs
    → (o : Opens p (state_of p cs) t) → IsTidyTask p (move p (state_of p cs) t).state t o.def o.after
tidy_after p w cs t may well runs o =
    let s = state_of p cs in
    let runs_on = IsDefined-push p w (opening p) cs t runs (inl may) in
    let is : state_of p (cs ++ t ∷ []) ≡ (move p s t).state =
    state_after-push p (opening p) cs t ∙ ap (λ (m : Moved). m.state) (step-task p s t (exists_of_move p s t may)) in
    subst (λ (z : State). IsTidy p z) is (runs_are_tidy p w (cs ++ t ∷ []) well runs_on) t o.def o.after o.is_def o.now

-- at the pause meeting, where nothing is issued: what the task awaits in its operation and is incomplete
pub new_at_pause : (p : Program) (w : ℕ) (cs : List ℕ) (t : ℕ) (may : MayMove p (state_of p cs) t) → WellFormed p → IsDefined p w (opening p) cs
    → (o : Opens p (state_of p cs) t) (k : ℕ) → o.after.phase ≡ phase.In k → (holder : HolderIs) → holder.issued ≡ []
    → holder.places ≡ requests_of (slice_get p.tasks.items t) → AreNew t holder (opened p (state_of p cs) t)
new_at_pause p w cs t may well runs o k inside holder none places =
    let s = state_of p cs in
    let reqs = opened p s t in
    let own = opened_own p s t in
    let waits = o.waits k inside in
    let known : holder.places ≡ postings o.def.body.items = places ∙ ap requests_of o.is_def in
    record {
      own = own;
      within = λ place some.
          let is_in = place_is_in t place reqs own some in
          let waited : IsOneOf (request t place) (awaited t o.def k) =
          open_among p _ (request t place) (awaited t o.def k) (subst (IsOneOf (request t place)) waits is_in) in
          omega (arith, known, awaited_below p t place k o.def well o.is_def waited);
      once = λ place.
          let count = place_counts t place reqs own in
          let few : bodies.times (request t place) reqs ≤ 1 =
          subst (λ (all : List ReqNo). bodies.times (request t place) all ≤ 1) (sym waits)
          (let fewer = open_fewer p (move p s t).state.exchange (request t place) (awaited t o.def k) in
          let most = awaited_once p t o.def (phase.In k) (request t place) well o.is_def in omega (arith, fewer, most)) in
          let issued : times place (holder.issued ++ places_of reqs) ≡ times place (places_of reqs) =
          ap (λ (ps : List ℕ). times place (ps ++ places_of reqs)) none in
          omega (arith, count, few, issued);
    }

-- at the event meeting, where the places of the bound requests are issued: what the move binds
pub new_at_events : (p : Program) (w : ℕ) (cs : List ℕ) (t : ℕ) (may : MayMove p (state_of p cs) t) → WellFormed p → IsDefined p w (opening p) cs
    → (o : Opens p (state_of p cs) t) → ((k : ℕ) → o.after.phase ≡ phase.In k → ⊥) → (holder : HolderIs) → holder.issued ≡ places_of o.before.bound
    → holder.places ≡ requests_of (slice_get p.tasks.items t) → AreNew t holder (opened p (state_of p cs) t)
new_at_events p w cs t may well runs o outside holder bound places =
    let s = state_of p cs in
    let reqs = opened p s t in
    let own = opened_own p s t in
    let tidy = tidy_after p w cs t may well runs o in
    let goes = o.goes outside in
    let known : holder.places ≡ postings o.def.body.items = places ∙ ap requests_of o.is_def in
    record {
      own = own;
      within = λ place some.
          let is_in = place_is_in t place reqs own some in
          let after : IsOneOf (request t place) o.after.bound =
          subst (IsOneOf (request t place)) (sym goes) (in_right (request t place) o.before.bound reqs is_in) in
          omega (arith, known, tidy.bound.posted place after, called_few o.def o.after.phase);
      once = λ place.
          let whole : times place (holder.issued ++ places_of reqs) ≡ times place (places_of o.after.bound) =
          ap (λ (ps : List ℕ). times place (ps ++ places_of reqs)) bound
          ∙ ap (times place) (sym (places-append o.before.bound reqs) ∙ ap places_of (sym goes)) in
          omega (arith, whole, place_counts t place o.after.bound tidy.bound.own, tidy.bound.once (request t place));
    }

-- ---- what the task waits for at its meetings

-- the places of these requests are all that are wanted of what is among them
pub awaited_among : (p : Program) (x : Exchange) (t : ℕ) (all reqs : List ReqNo) → AreOf t all
    → ((q : ReqNo) → IsOneOf q reqs → is_complete p x q ≡ false → IsOneOf q all) → AreAwaited p x t (places_of all) reqs
awaited_among p x t all [] own within = tt
awaited_among p x t all (r ∷ reqs) own within = (
  (λ open_.
      let has = within r (or_left (same_request r r) (list_any (same_request r) reqs) (same_request-self r)) open_ in
      (own_in t all r own has, place_of_one t r all own has)),
  awaited_among p x t all reqs own (λ q has. within q (or_right (same_request q r) (list_any (same_request q) reqs) has)),
)
