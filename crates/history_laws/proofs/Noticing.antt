-- What the move of a task adds to the notices.
use Rattle.std.proofs.Common.{◌≡◌, ℕ, zero, suc, ◌<◌, ◌≤◌, Bool, true, false, cond, ◌⊎◌, List, [], ◌∷◌, ◌++◌, length, get_or, replicate, slice_get, slice_set}
use Rattle.std.proofs.Common.{Contains, Option, Some, None, refl, sym, ap, ◌∙◌, subst, inl, inr, arith}
use Rattle.std.specs.List.{list_any}
use Rattle.std.proofs.lemmas.Bool.{or_cases, or_left, or_right, false≢true}
use Rattle.std.proofs.lemmas.List.{length-replicate}
use Rattle.std.proofs.lemmas.List.Elements.{Contains-append_cases}
use Rattle.std.proofs.lemmas.Option.{slice_get_within}
use Rattle.rt_base.specs.declared.data.ReqNo.{ReqNo}
use Rattle.rt_base.specs.declared.data.Phase.{Phase}
use Rattle.rt_base.specs.declared.data.Phase.TheVariants as phase
use Rattle.rt_base.specs.declared.data.Handle.{Handle}
use Rattle.rt_base.specs.declared.data.Handle.TheVariants as handle
use Rattle.rt_base.specs.declared.data.Op.{Op}
use Rattle.rt_base.specs.declared.data.Op.TheVariants as op
use Rattle.rt_base.specs.declared.data.TaskDef.{TaskDef}
use Rattle.rt_base.specs.declared.data.Status.{Status}
use Rattle.rt_base.specs.declared.data.Entry.{Entry}
use Rattle.rt_base.specs.declared.data.Program.{Program}
use Rattle.rt_base.specs.Operations.{blocks, request, nth_at, named_requests}
use Rattle.rt_base.specs.Matching.{same_request}
use Rattle.rt_base.specs.Exchange.{Exchange}
use Rattle.rt_base.specs.Completion.{is_complete}
use Rattle.rt_base.specs.State.{State, Task, opening, waiting_task}
use Rattle.rt_base.proofs.SameRequest.{one_request, same_request-self}
use Rattle.task_machine.specs.Course.{posted_by_phase}
use Rattle.task_machine.specs.Machine.{Moved, move_at, call_move, post_move, await_move, posted_task, poll, polled, step, MayStep, open_ones}
use Rattle.task_machine.specs.Legal.{IsDefined, state_after, callers, final, IsLegal}
use Rattle.task_machine.proofs.Rows.{move-row}
use Rattle.task_machine.proofs.Items.{either_place, at_replicate, same_some}
use Rattle.task_machine.proofs.Runs.{step-task, exists_of_move}
use Rattle.history_laws.specs.Notices.{WaitsNamePosted}
use Rattle.history_laws.proofs.Tracing.{Row, move_row, set_here, past}

-- membership, by the first item
pub contains_later : {X : Type 0} (y : X) (xs : List X) (x : X) → Contains xs x → Contains (y ∷ xs) x
contains_later y xs x has = (suc has.0, omega (arith, has.1), has.2)

contains_by : {X : Type 0} (y : X) (xs : List X) (x : X) (k : ℕ) → k < suc (length xs) → get_or (y ∷ xs) k x ≡ x → (y ≡ x) ⊎ Contains xs x
contains_by y xs x zero below is = inl is
contains_by y xs x (suc k) below is = inr (k, omega (arith, below), is)

pub contains_cases : {X : Type 0} (y : X) (xs : List X) (x : X) → Contains (y ∷ xs) x → (y ≡ x) ⊎ Contains xs x
contains_cases y xs x has = contains_by y xs x has.0 has.1 has.2

pub nothing_in : {X : Type 0} (x : X) → Contains [] x → ⊥
nothing_in x has = absurd (omega (arith, has.1))

-- a request is in a list where a test finds it
pub found_in : (q : ReqNo) (xs : List ReqNo) → list_any (same_request q) xs ≡ true → Contains xs q
found_in q [] any = absurd (false≢true any)
found_in q (x ∷ xs) any = elim (or_cases (same_request q x) (list_any (same_request q) xs) any) [
  | inl same ↦ subst (Contains (x ∷ xs)) (sym (one_request q x same)) (zero, omega arith, refl)
  | inr later ↦ contains_later x xs q (found_in q xs later)
]

pub finds : (q : ReqNo) (xs : List ReqNo) → Contains xs q → list_any (same_request q) xs ≡ true
finds q [] has = absurd (nothing_in q has)
finds q (x ∷ xs) has = elim (contains_cases x xs q has) [
  | inl same ↦ or_left (same_request q x) (list_any (same_request q) xs) (ap (same_request q) same ∙ same_request-self q)
  | inr later ↦ or_right (same_request q x) (list_any (same_request q) xs) (finds q xs later)
]

-- the requests that handles name, where each handle's number is below a bound
pub named_below : (t m : ℕ) (handles : List Handle) (q : ReqNo) → ((n : ℕ) → Contains handles (handle.Nth n) → n < m) → Contains (named_requests t handles) q
    → (q.task.0 ≡ t) × (q.nth < m)
named_below t m [] q below has = absurd (nothing_in q has)
named_below t m (handle.Null ∷ handles) q below has =
    named_below t m handles q (λ n in_rest. below n (contains_later handle.Null handles (handle.Nth n) in_rest)) has
named_below t m (handle.Nth n ∷ handles) q below has = elim (contains_cases (request t n) (named_requests t handles) q has) [
  | inl same ↦ (ap (λ (r : ReqNo). r.task.0) (sym same), subst (λ (r : ReqNo). r.nth < m) same (below n (zero, omega arith, refl)))
  | inr later ↦ named_below t m handles q (λ i in_rest. below i (contains_later (handle.Nth n) handles (handle.Nth i) in_rest)) later
]

-- the incomplete ones of a list are in it
open_by : (r : ReqNo) (left reqs : List ReqNo) (q : ReqNo) (b : Bool) → (Contains left q → Contains reqs q) → Contains (cond b left (r ∷ left)) q
    → Contains (r ∷ reqs) q
open_by r left reqs q true rest has = contains_later r reqs q (rest has)
open_by r left reqs q false rest has = elim (contains_cases r left q has) [
  | inl same ↦ subst (Contains (r ∷ reqs)) same (zero, omega arith, refl)
  | inr later ↦ contains_later r reqs q (rest later)
]

open_among : (p : Program) (x : Exchange) (reqs : List ReqNo) (q : ReqNo) → Contains (open_ones p x reqs) q → Contains reqs q
open_among p x [] q has = has
open_among p x (r ∷ reqs) q has = open_by r (open_ones p x reqs) reqs q (is_complete p x r) (open_among p x reqs q) has

-- a request of this task, of those that it has posted where it stands
abbrev pub IsPostedBy : Program → ℕ → Phase → ReqNo → Type 0
IsPostedBy p t at q = (q.task.0 ≡ t) × ((def : TaskDef) → slice_get p.tasks.items t ≡ Some def → q.nth < posted_by_phase def at)

-- what is bound to a task is its own and posted
abbrev pub BoundArePosted : Program → State → Type 0
BoundArePosted p s = (t : ℕ) (task : Task) → slice_get s.tasks t ≡ Some task → (q : ReqNo) → Contains task.bound q → IsPostedBy p t task.phase q

-- what a move binds was posted by the task before it
abbrev Binds : ℕ → TaskDef → Task → ReqNo → Type 0
Binds u def was q = Contains was.bound q ⊎ ((q.task.0 ≡ u) × (q.nth < posted_by_phase def was.phase))

set_to : (s : State) (u : ℕ) (was new now : Task) → slice_get s.tasks u ≡ Some was → slice_get (slice_set s.tasks u new) u ≡ Some now → new ≡ now
set_to s u was new now is_task at = same_some (sym (set_here s.tasks u was new is_task) ∙ at)

kept_bound : (s : State) (u : ℕ) (def : TaskDef) (was new now : Task) (q : ReqNo) → slice_get s.tasks u ≡ Some was
    → slice_get (slice_set s.tasks u new) u ≡ Some now
    → new.bound ≡ was.bound → Contains now.bound q → Binds u def was q
kept_bound s u def was new now q is_task at same has =
    inl (subst (λ (reqs : List ReqNo). Contains reqs q) (ap (λ (z : Task). z.bound) (sym (set_to s u was new now is_task at)) ∙ same) has)

stays_bound : (s : State) (u : ℕ) (def : TaskDef) (was now : Task) (q : ReqNo) → slice_get s.tasks u ≡ Some was → slice_get s.tasks u ≡ Some now
    → Contains now.bound q → Binds u def was q
stays_bound s u def was now q is_task at has =
    let same : now ≡ was = same_some (sym at ∙ is_task) in
    inl (subst (λ (z : Task). Contains z.bound q) same has)

post_bound : (p : Program) (s : State) (u : ℕ) (def : TaskDef) (was : Task) (k : ℕ) (blocking : Bool) (now : Task) (q : ReqNo) → slice_get s.tasks u ≡ Some was
    → slice_get (post_move p s u def was k blocking).state.tasks u ≡ Some now → Contains now.bound q → Binds u def was q
post_bound p s u def was k true now q is_task at has = kept_bound s u def was (posted_task def k true was) now q is_task at refl has
post_bound p s u def was k false now q is_task at has = kept_bound s u def was (posted_task def k false was) now q is_task at refl has

await_bound : (p : Program) (s : State) (u : ℕ) (def : TaskDef) (was : Task) (k : ℕ) (handles : List Handle) (later : Bool) (now : Task) (q : ReqNo)
    → slice_get s.tasks u ≡ Some was
    → was.phase ≡ phase.At k → ((n : ℕ) → Contains handles (handle.Nth n) → n < nth_at def k)
    → slice_get (await_move p s u def was k handles later).state.tasks u ≡ Some now → Contains now.bound q → Binds u def was q
await_bound p s u def was k handles false now q is_task stands below at has = kept_bound s u def was _ now q is_task at refl has
await_bound p s u def was k handles true now q is_task stands below at has =
    let named = named_requests u handles in
    let same : now.bound ≡ was.bound ++ open_ones p s.exchange named = ap (λ (z : Task). z.bound) (sym (set_to s u was _ now is_task at)) in
    elim (Contains-append_cases was.bound (open_ones p s.exchange named) q (subst (λ (reqs : List ReqNo). Contains reqs q) same has)) [
      | inl old ↦ inl old
      | inr new ↦
          let own = named_below u (nth_at def k) handles q below (open_among p s.exchange named q new) in
          inr (own.0, omega (arith, own.1, ap (posted_by_phase def) stands))
    ]

call_bound : (p : Program) (s : State) (u : ℕ) (def : TaskDef) (was : Task) (k : ℕ) (o : Option Op) (now : Task) (q : ReqNo) → WaitsNamePosted p
    → slice_get p.tasks.items u ≡ Some def
    → slice_get s.tasks u ≡ Some was → was.phase ≡ phase.At k → slice_get def.body.items k ≡ o
    → slice_get (call_move p s u def was k o).state.tasks u ≡ Some now
    → Contains now.bound q → Binds u def was q
call_bound p s u def was k None now q waits is_def is_task stands here at has = stays_bound s u def was now q is_task at has
call_bound p s u def was k (Some (op.Compute kind dst left right value step)) now q waits is_def is_task stands here at has =
    stays_bound s u def was now q is_task at has
call_bound p s u def was k (Some (op.Post how span peer tag comm status)) now q waits is_def is_task stands here at has =
    post_bound p s u def was k (blocks how) now q is_task at has
call_bound p s u def was k (Some (op.Await later handles status)) now q waits is_def is_task stands here at has =
    await_bound p s u def was k handles.items later now q is_task stands (λ n names. waits u k n def (op.Await later handles status) _ is_def here refl names)
    at has

move_bound : (p : Program) (s : State) (u : ℕ) (def : TaskDef) (was : Task) (at : Phase) (now : Task) (q : ReqNo) → WaitsNamePosted p
    → slice_get p.tasks.items u ≡ Some def
    → slice_get s.tasks u ≡ Some was → was.phase ≡ at → slice_get (move_at p s u def was at).state.tasks u ≡ Some now → Contains now.bound q → Binds u def was q
move_bound p s u def was phase.Waiting now q waits is_def is_task stands is has = kept_bound s u def was _ now q is_task is refl has
move_bound p s u def was (phase.At k) now q waits is_def is_task stands is has =
    call_bound p s u def was k (slice_get def.body.items k) now q waits is_def is_task stands refl is has
move_bound p s u def was (phase.In k) now q waits is_def is_task stands is has = kept_bound s u def was _ now q is_task is refl has
move_bound p s u def was phase.Ended now q waits is_def is_task stands is has = kept_bound s u def was _ now q is_task is refl has
move_bound p s u def was phase.Returned now q waits is_def is_task stands is has = kept_bound s u def was _ now q is_task is refl has
move_bound p s u def was phase.Released now q waits is_def is_task stands is has = stays_bound s u def was now q is_task is has

-- what is bound stays posted
still_posted : (p : Program) (u : ℕ) (d : TaskDef) (was now : Task) (q : ReqNo) → slice_get p.tasks.items u ≡ Some d
    → posted_by_phase d was.phase ≤ posted_by_phase d now.phase
    → (Contains was.bound q → IsPostedBy p u was.phase q) → Binds u d was q → IsPostedBy p u now.phase q
still_posted p u d was now q is_d later known (inl old) =
    let own = known old in (
      own.0,
      λ def is_def.
          let same : d ≡ def = same_some (sym is_d ∙ is_def) in
          subst (λ (e : TaskDef). q.nth < posted_by_phase e now.phase) same (omega (arith, own.1 d is_d, later)),
    )
still_posted p u d was now q is_d later known (inr new) = (
  new.0,
  λ def is_def.
      let same : d ≡ def = same_some (sym is_d ∙ is_def) in
      subst (λ (e : TaskDef). q.nth < posted_by_phase e now.phase) same (omega (arith, new.1, later)),
)

bound_after : (p : Program) (s : State) (u : ℕ) (d : TaskDef) (was : Task) (moved : Moved) (row : Row p s u d was.phase moved)
    → slice_get p.tasks.items u ≡ Some d → slice_get s.tasks u ≡ Some was
    → ((now : Task) (q : ReqNo) → slice_get moved.state.tasks u ≡ Some now → Contains now.bound q → Binds u d was q) → BoundArePosted p s
    → BoundArePosted p moved.state
bound_after p s u d was moved row is_d is_task binds own t task at q has = elim (either_place t u) [
  | inl same ↦
      let here : slice_get moved.state.tasks u ≡ Some task = ap (slice_get moved.state.tasks) (sym same) ∙ at in
      let now : row.now ≡ task = same_some (sym row.here ∙ here) in
      subst (λ (v : ℕ). IsPostedBy p v task.phase q) (sym same)
      (still_posted p u d was task q is_d (subst (λ (z : Task). posted_by_phase d was.phase ≤ posted_by_phase d z.phase) now row.later) (own u was is_task q)
      (binds task q here has))
  | inr other ↦ own t task (sym (row.others t other) ∙ at) q has
]

poll_bound : (p : Program) (s : State) (poller : ℕ) (notices : List ReqNo) → BoundArePosted p s → BoundArePosted p (polled s poller notices).state
poll_bound p s poller [] own = own
poll_bound p s poller (req ∷ notices) own = own

poll_keeps : (p : Program) (s : State) (poller : ℕ) → BoundArePosted p s → BoundArePosted p (poll s poller).state
unfolding poll
poll_keeps p s poller own = poll_bound p s poller s.notices own

step_poll : (p : Program) (s : State) (c : ℕ) → length p.tasks.items ≤ c → BoundArePosted p s → BoundArePosted p (step p s c).state
unfolding step
step_poll p s c above own = rw (past c (length p.tasks.items) above) (poll_keeps p s _ own)

pub step_bound : (p : Program) (w : ℕ) (s : State) (c : ℕ) → WaitsNamePosted p → MayStep p w s c → BoundArePosted p s → BoundArePosted p (step p s c).state
step_bound p w s c waits may own = elim may [
  | inl moves ↦
      let row = move_row p s c moves.def moves.task moves.task.phase moves.is_def moves.is_task refl in
      let is = move-row p s c moves.def moves.task moves.task.phase moves.is_def moves.is_task refl in
      subst (λ (m : Moved). BoundArePosted p m.state) (sym is ∙ sym (step-task p s c (exists_of_move p s c moves)))
      (bound_after p s c moves.def moves.task _ row moves.is_def moves.is_task
      (λ now q. move_bound p s c moves.def moves.task moves.task.phase now q waits moves.is_def moves.is_task refl) own)
  | inr polls ↦ step_poll p s c polls.poller own
]

run_bound : (p : Program) (w : ℕ) (s : State) (cs : List ℕ) → WaitsNamePosted p → IsDefined p w s cs → BoundArePosted p s
    → BoundArePosted p (state_after p s cs)
run_bound p w s [] waits runs own = own
run_bound p w s (c ∷ cs) waits runs own = run_bound p w (step p s c).state cs waits runs.1 (step_bound p w s c waits runs.0 own)

pub none_bound : (p : Program) → BoundArePosted p (opening p)
none_bound p t task at q has =
    let tasks = length p.tasks.items in
    let within : t < tasks = omega (arith, slice_get_within (replicate tasks waiting_task) t task at, length-replicate tasks waiting_task) in
    let same : task ≡ waiting_task = same_some (sym at ∙ at_replicate tasks waiting_task t within) in
    absurd (nothing_in q (subst (λ (z : Task). Contains z.bound q) same has))

pub bound_end : (p : Program) (w : ℕ) (entries : List Entry) (statuses : List Status) → IsLegal p w entries statuses → WaitsNamePosted p
    → BoundArePosted p (final p entries)
bound_end p w entries statuses legal waits = run_bound p w (opening p) (callers p entries) waits legal.runs (none_bound p)
