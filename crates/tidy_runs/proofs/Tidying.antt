-- The books of all tasks are in order after every run.
use Rattle.std.proofs.Common.{◌≡◌, ◌≢◌, ℕ, zero, suc, ◌+◌, ◌≤◌, Bool, true, false, cond, ◌⊎◌, List, [], ◌∷◌, ◌++◌, length, take, drop, slice_get}
use Rattle.std.proofs.Common.{Contains, Option, Some, None, refl, sym, ap, ◌∙◌, subst, inl, inr, arith}
use Rattle.std.specs.List.{list_any}
use Rattle.std.proofs.lemmas.Bool.{cases_Bool, or_cases, or_left, false≢true}
use Rattle.std.proofs.lemmas.List.{append-nil}
use Rattle.std.proofs.lemmas.List.Elements.{All-contains, Contains-append_left, Contains-push, Contains-push_cases}
use Rattle.std.proofs.lemmas.Option.{none-some, slice_get_within, get_or_from_slice_get}
use Rattle.rt_base.specs.declared.data.ReqNo.{ReqNo}
use Rattle.rt_base.specs.declared.data.Phase.{Phase}
use Rattle.rt_base.specs.declared.data.Phase.TheVariants as phase
use Rattle.rt_base.specs.declared.data.Handle.{Handle}
use Rattle.rt_base.specs.declared.data.Handle.TheVariants as handle
use Rattle.rt_base.specs.declared.data.Op.{Op}
use Rattle.rt_base.specs.declared.data.Op.TheVariants as op
use Rattle.rt_base.specs.declared.data.TaskDef.{TaskDef}
use Rattle.rt_base.specs.declared.data.Program.{Program}
use Rattle.rt_base.specs.Operations.{request, blocks, is_local, nth_at, named_requests, awaited_by, awaited}
use Rattle.rt_base.specs.Matching.{same_request}
use Rattle.rt_base.specs.Exchange.{Exchange}
use Rattle.rt_base.specs.Completion.{is_complete}
use Rattle.rt_base.specs.State.{State, Task, opening, waiting_task}
use Rattle.rt_base.specs.MayMove.{MayMove}
use Rattle.rt_base.specs.InUse.{left_after}
use Rattle.rt_base.specs.WellFormed.{WellFormed, IsTask, IsOpen, Follows}
use Rattle.rt_base.proofs.SameRequest.{one_request, same_from_eq}
use Rattle.rt_base.proofs.Postings.{stays_complete}
use Rattle.task_local.specs.Local.{stop}
use Rattle.task_local.specs.Packed.{packed}
use Rattle.task_local.specs.Waits.{handles_of}
use Rattle.task_machine.specs.Machine.{Moved, move_at, call_move, post_move, await_move, step, MayStep, awaited_at, open_ones}
use Rattle.task_machine.specs.Legal.{IsDefined, state_after}
use Rattle.task_machine.specs.Owed.{IsOneOf}
use Rattle.task_machine.proofs.Rows.{move-row}
use Rattle.task_machine.proofs.Items.{same_some, either_place, at_replicate}
use Rattle.task_machine.proofs.Runs.{step-task, exists_of_move}
use Rattle.task_machine.proofs.Calls.{Stays, set_here}
use Rattle.task_machine.proofs.Owing.{stands_silent}
use Rattle.task_machine.proofs.Others.{leaves_others, complete_stays}
use Rattle.tidy_runs.specs.Tidy.{called, binds, bindings, named_at, AreOf, IsBoundBy, IsTidyTask, RunsAreTidy}
use Rattle.tidy_runs.proofs.Bodies.{nothing_in, in_either, in_left, in_right, times, own-append, own_in, named_own}
use Rattle.tidy_runs.proofs.Bodies.{open_has, open_among, named_once, named_by, closed_on}
use Rattle.tidy_runs.proofs.Bodies.{closed_more, closed_of, bound_of, Adds, wait_adds, take_next, length_at_place, holds_at_stop, bindings-push}

-- what a task awaits: its own requests, each once
posted_own : (t n : ℕ) (blocking : Bool) → AreOf t (cond blocking (request t n ∷ []) [])
posted_own t n true = (refl, tt)
posted_own t n false = tt

awaited_by_own : (t n : ℕ) (o : Option Op) → AreOf t (awaited_by t n o)
awaited_by_own t n None = tt
awaited_by_own t n (Some (op.Compute kind dst left right value step)) = tt
awaited_by_own t n (Some (op.Post how span peer tag comm status)) = posted_own t n (blocks how)
awaited_by_own t n (Some (op.Await later handles status)) = named_own t handles.items

pub awaited_own : (t : ℕ) (def : TaskDef) (at : Phase) → AreOf t (awaited_at t (Some def) (Some at))
unfolding awaited
awaited_own t def phase.Waiting = tt
awaited_own t def (phase.At k) = tt
awaited_own t def (phase.In k) = awaited_by_own t (nth_at def k) (slice_get def.body.items k)
awaited_own t def phase.Ended = tt
awaited_own t def phase.Returned = tt
awaited_own t def phase.Released = tt

posted_once : (t n : ℕ) (q : ReqNo) (blocking : Bool) → times q (cond blocking (request t n ∷ []) []) ≤ 1
posted_once t n q true = named_once t (handle.Nth n ∷ []) q (λ i j d below within. absurd (omega arith))
posted_once t n q false = omega arith

-- a list around one of its places
split_here : (ops : List Op) (k : ℕ) (x : Op) → slice_get ops k ≡ Some x → ops ≡ take k ops ++ x ∷ drop (suc k) ops
split_here [] k x here = absurd (none-some x here)
split_here (y ∷ ops) zero x here = ap (λ z. z ∷ ops) (same_some here)
split_here (y ∷ ops) (suc k) x here = ap (λ zs. y ∷ zs) (split_here ops k x here)

-- an operation of a body follows those before it
pub follows_at : (p : Program) (t k : ℕ) (def : TaskDef) (x : Op) → WellFormed p → slice_get p.tasks.items t ≡ Some def → slice_get def.body.items k ≡ Some x
    → Follows def.accesses.items (take k def.body.items) x
follows_at p t k def x well is_def here =
    let task : IsTask p def = subst (IsTask p) (get_or_from_slice_get p.tasks.items t def def is_def)
    (well.tasks t def (slice_get_within p.tasks.items t def is_def)) in
    task.follows (take k def.body.items) (drop (suc k) def.body.items) x (split_here def.body.items k x here)

awaited_by_once : (p : Program) (t k n : ℕ) (def : TaskDef) (q : ReqNo) (o : Option Op) → WellFormed p → slice_get p.tasks.items t ≡ Some def
    → slice_get def.body.items k ≡ o → times q (awaited_by t n o) ≤ 1
awaited_by_once p t k n def q None well is_def here = omega arith
awaited_by_once p t k n def q (Some (op.Compute kind dst left right value step)) well is_def here = omega arith
awaited_by_once p t k n def q (Some (op.Post how span peer tag comm status)) well is_def here = posted_once t n q (blocks how)
awaited_by_once p t k n def q (Some (op.Await later handles status)) well is_def here =
    named_once t handles.items q (follows_at p t k def (op.Await later handles status) well is_def here).handles.1

pub awaited_once : (p : Program) (t : ℕ) (def : TaskDef) (at : Phase) (q : ReqNo) → WellFormed p → slice_get p.tasks.items t ≡ Some def
    → times q (awaited_at t (Some def) (Some at)) ≤ 1
unfolding awaited
awaited_once p t def phase.Waiting q well is_def = omega arith
awaited_once p t def (phase.At k) q well is_def = omega arith
awaited_once p t def (phase.In k) q well is_def = awaited_by_once p t k (nth_at def k) def q (slice_get def.body.items k) well is_def refl
awaited_once p t def phase.Ended q well is_def = omega arith
awaited_once p t def phase.Returned q well is_def = omega arith
awaited_once p t def phase.Released q well is_def = omega arith

-- which operations a task noted, and what is bound to it, behind these operations
record Stands (t : ℕ) (noted : List ℕ) (reqs : List ReqNo) (front : List Op) : Type 0 where
  named : noted ≡ bindings 0 front
  bound : IsBoundBy t front reqs

-- all that the noted operations name is complete or bound
abbrev Covered : Program → Exchange → ℕ → TaskDef → List ℕ → List ReqNo → Type 0
Covered p x t def noted reqs =
    (k : ℕ) → Contains noted k → (q : ReqNo) → IsOneOf q (named_at t def k) → (is_complete p x q ≡ true) ⊎ IsOneOf q reqs

-- a noted operation names each of these requests
abbrev Sourced : ℕ → TaskDef → List ℕ → List ReqNo → Type 0
Sourced t def noted reqs = (q : ReqNo) → IsOneOf q reqs → (k : ℕ) × Contains noted k × IsOneOf q (named_at t def k)

-- none of these requests is awaited by a task that stands there
abbrev Apart : ℕ → TaskDef → Phase → List ReqNo → Type 0
Apart t def at reqs = (q : ReqNo) → IsOneOf q reqs → IsOneOf q (awaited_at t (Some def) (Some at)) → ⊥

-- the books of a task
record Keeps (p : Program) (x : Exchange) (t : ℕ) (def : TaskDef) (task : Task) : Type 0 where
  stands : Stands t task.named task.bound (called def task.phase)
  covered : Covered p x t def task.named task.bound
  sourced : Sourced t def task.named task.bound
  apart : Apart t def task.phase task.bound

-- over an operation that doesn't bind, and over one that does
none_bound : (k n : ℕ) (front : List Op) (x : Op) → k + length front ≡ n → binds x ≡ false → bindings k front ≡ bindings k (front ++ x ∷ [])
none_bound k n front x len silent =
    sym (bindings-push k n front x len ∙ ap (λ (b : Bool). bindings k front ++ cond b (n ∷ []) []) silent ∙ append-nil (bindings k front))

one_bound : (k n : ℕ) (front : List Op) (x : Op) → k + length front ≡ n → binds x ≡ true → bindings k front ++ n ∷ [] ≡ bindings k (front ++ x ∷ [])
one_bound k n front x len is = sym (bindings-push k n front x len ∙ ap (λ (b : Bool). bindings k front ++ cond b (n ∷ []) []) is)

over_silent : (t : ℕ) (noted : List ℕ) (reqs : List ReqNo) (front : List Op) (x : Op) → binds x ≡ false → Stands t noted reqs front
    → Stands t noted reqs (front ++ x ∷ [])
over_silent t noted reqs front x silent s = record {
  named = s.named ∙ none_bound 0 (0 + length front) front x refl silent;
  bound = bound_of t (front ++ x ∷ []) reqs s.bound.own (closed_on t front x reqs (closed_of t front reqs s.bound));
}

over_binding : (t k : ℕ) (noted : List ℕ) (reqs new : List ReqNo) (front : List Op) (x : Op) → length front ≡ k → binds x ≡ true → Adds t front x new
    → Stands t noted reqs front → Stands t (noted ++ k ∷ []) (reqs ++ new) (front ++ x ∷ [])
over_binding t k noted reqs new front x len is adds s = record {
  named = ap (λ (ns : List ℕ). ns ++ k ∷ []) s.named ∙ one_bound 0 k front x (omega (arith, len)) is;
  bound = bound_of t (front ++ x ∷ []) (reqs ++ new) (own-append t reqs new s.bound.own adds.own)
      (closed_more t front x reqs new (closed_of t front reqs s.bound) adds);
}

local_silent : (x : Op) → is_local x ≡ true → binds x ≡ false
local_silent (op.Compute kind dst left right value step) is = refl
local_silent (op.Post how span peer tag comm status) is = refl
local_silent (op.Await later handles status) is = absurd (false≢true is)

-- what is covered stays so
covered_stays : (p : Program) (x y : Exchange) (t : ℕ) (def : TaskDef) (noted : List ℕ) (reqs : List ReqNo) → Stays p x y → Covered p x t def noted reqs
    → Covered p y t def noted reqs
covered_stays p x y t def noted reqs stays covered k has q names = elim (covered k has q names) [
  | inl complete ↦ inl (stays q complete)
  | inr bound ↦ inr bound
]

complete_or_open : (p : Program) (x : Exchange) (q : ReqNo) (named reqs : List ReqNo) → IsOneOf q named
    → (is_complete p x q ≡ true) ⊎ (is_complete p x q ≡ false) → (is_complete p x q ≡ true) ⊎ IsOneOf q (reqs ++ open_ones p x named)
complete_or_open p x q named reqs has (inl complete) = inl complete
complete_or_open p x q named reqs has (inr undone) = inr (in_right q reqs (open_ones p x named) (open_has p x q named undone has))

covered_more : (p : Program) (x : Exchange) (t k : ℕ) (def : TaskDef) (noted : List ℕ) (reqs named : List ReqNo) → named_at t def k ≡ named
    → Covered p x t def noted reqs → Covered p x t def (noted ++ k ∷ []) (reqs ++ open_ones p x named)
covered_more p x t k def noted reqs named is covered i has q names = elim (Contains-push_cases noted k i has) [
  | inl before ↦ elim (covered i before q names) [
    | inl complete ↦ inl complete
    | inr bound ↦ inr (in_left q reqs (open_ones p x named) bound)
  ]
  | inr same ↦
      complete_or_open p x q named reqs (subst (IsOneOf q) (ap (named_at t def) (sym same) ∙ is) names) (cases_Bool (is_complete p x q))
]

sourced_more : (p : Program) (x : Exchange) (t k : ℕ) (def : TaskDef) (noted : List ℕ) (reqs named : List ReqNo) → named_at t def k ≡ named
    → Sourced t def noted reqs → Sourced t def (noted ++ k ∷ []) (reqs ++ open_ones p x named)
sourced_more p x t k def noted reqs named is sourced q has = elim (in_either q reqs (open_ones p x named) has) [
  | inl before ↦ let source = sourced q before in (source.0, Contains-append_left noted (k ∷ []) source.0 source.1, source.2)
  | inr new ↦ (k, Contains-push noted k, subst (IsOneOf q) (sym is) (open_among p x q named new))
]

-- a task awaits nothing where it stands after its local operations
stop_apart : (t : ℕ) (def : TaskDef) (k : ℕ) (reqs : List ReqNo) → Apart t def (stop def k) reqs
stop_apart t def k reqs q bound waits = false≢true (ap (list_any (same_request q)) (sym (stands_silent t def k)) ∙ waits)

stop_stands : (t : ℕ) (def : TaskDef) (k : ℕ) (noted : List ℕ) (reqs : List ReqNo) → Stands t noted reqs (take k def.body.items)
    → Stands t noted reqs (called def (stop def k))
stop_stands t def k noted reqs s =
    holds_at_stop (Stands t noted reqs) def (λ front x local. over_silent t noted reqs front x (local_silent x local)) k s

-- the books of the task after a step
record Kept (p : Program) (t : ℕ) (def : TaskDef) (s : State) : Type 0 where
  now : Task
  is_task : slice_get s.tasks t ≡ Some now
  keeps : Keeps p s.exchange t def now

-- behind a posting
awaited_is : (t k : ℕ) (def : TaskDef) (o : Option Op) → slice_get def.body.items k ≡ o → awaited t def k ≡ awaited_by t (nth_at def k) o
unfolding awaited
awaited_is t k def o here = ap (awaited_by t (nth_at def k)) here

next_stands : (t k : ℕ) (def : TaskDef) (noted : List ℕ) (reqs : List ReqNo) (x : Op) → slice_get def.body.items k ≡ Some x → binds x ≡ false
    → Stands t noted reqs (take k def.body.items) → Stands t noted reqs (take (k + 1) def.body.items)
next_stands t k def noted reqs x here silent s =
    subst (Stands t noted reqs) (sym (take_next def.body.items k x here)) (over_silent t noted reqs (take k def.body.items) x silent s)

own_apart : (t k : ℕ) (def : TaskDef) (reqs : List ReqNo) (q : ReqNo) → IsBoundBy t (take k def.body.items) reqs → IsOneOf q reqs
    → IsOneOf q (request t (nth_at def k) ∷ []) → ⊥
own_apart t k def reqs q b bound waits = elim (or_cases (same_request q (request t (nth_at def k))) false waits) [
  | inl same ↦
      let own : IsOneOf (request t (nth_at def k)) reqs = subst (λ (r : ReqNo). IsOneOf r reqs) (one_request q (request t (nth_at def k)) same) bound in
      absurd (omega (arith, b.posted (nth_at def k) own))
  | inr none ↦ false≢true none
]

post_kept : (p : Program) (s : State) (t : ℕ) (def : TaskDef) (was : Task) (k : ℕ) (x : Op) (blocking : Bool) → slice_get s.tasks t ≡ Some was
    → slice_get def.body.items k ≡ Some x → binds x ≡ false
    → (blocking ≡ true → awaited t def k ≡ request t (nth_at def k) ∷ []) → Stands t was.named was.bound (take k def.body.items)
    → Covered p s.exchange t def was.named was.bound → Sourced t def was.named was.bound → Kept p t def (post_move p s t def was k blocking).state
post_kept p s t def was k x false is_task here silent awaits stands covered sourced = record {
  now = _;
  is_task = set_here s.tasks t was _ is_task;
  keeps = record {
    stands = stop_stands t def (k + 1) was.named was.bound (next_stands t k def was.named was.bound x here silent stands);
    covered = covered_stays p s.exchange _ t def was.named was.bound (λ q. stays_complete p s.exchange (request t (nth_at def k)) q (packed def k was.copy))
        covered;
    sourced = sourced;
    apart = stop_apart t def (k + 1) was.bound;
  };
}
post_kept p s t def was k x true is_task here silent awaits stands covered sourced = record {
  now = _;
  is_task = set_here s.tasks t was _ is_task;
  keeps = record {
    stands = next_stands t k def was.named was.bound x here silent stands;
    covered = covered_stays p s.exchange _ t def was.named was.bound (λ q. stays_complete p s.exchange (request t (nth_at def k)) q (packed def k was.copy))
        covered;
    sourced = sourced;
    apart = λ q bound waits. own_apart t k def was.bound q stands.bound bound (subst (IsOneOf q) (awaits refl) waits);
  };
}

-- behind a wait
named_apart : (t : ℕ) (front : List Op) (handles : List Handle) (reqs : List ReqNo) (q : ReqNo) → IsBoundBy t front reqs
    → ((n : ℕ) → Contains handles (handle.Nth n) → Contains (left_after 0 front) n) → IsOneOf q reqs → IsOneOf q (named_requests t handles) → ⊥
named_apart t front handles reqs q b are_open bound waits =
    let own : request t q.nth ≡ q = ap (λ (u : ℕ). request u q.nth) (sym (own_in t reqs q b.own bound)) in
    let named = named_by t q.nth handles (subst (λ (r : ReqNo). IsOneOf r (named_requests t handles)) (sym own) waits) in
    b.closed q.nth (subst (λ (r : ReqNo). IsOneOf r reqs) (sym own) bound) (are_open q.nth named.0)

await_kept : (p : Program) (s : State) (t : ℕ) (def : TaskDef) (was : Task) (k : ℕ) (later : Bool) (handles : List Handle) (x : Op)
    → slice_get s.tasks t ≡ Some was → slice_get def.body.items k ≡ Some x → binds x ≡ later → awaited t def k ≡ named_requests t handles
    → named_at t def k ≡ named_requests t handles → Adds t (take k def.body.items) x (open_ones p s.exchange (named_requests t handles))
    → ((n : ℕ) → Contains handles (handle.Nth n) → Contains (left_after 0 (take k def.body.items)) n)
    → Stands t was.named was.bound (take k def.body.items) → Covered p s.exchange t def was.named was.bound
    → Sourced t def was.named was.bound → Kept p t def (await_move p s t def was k handles later).state
await_kept p s t def was k false handles x is_task here is awaits named adds are_open stands covered sourced = record {
  now = _;
  is_task = set_here s.tasks t was _ is_task;
  keeps = record {
    stands = next_stands t k def was.named was.bound x here is stands;
    covered = covered;
    sourced = sourced;
    apart = λ q bound waits. named_apart t (take k def.body.items) handles was.bound q stands.bound are_open bound (subst (IsOneOf q) awaits waits);
  };
}
await_kept p s t def was k true handles x is_task here is awaits named adds are_open stands covered sourced =
    let new = open_ones p s.exchange (named_requests t handles) in
    record {
      now = _;
      is_task = set_here s.tasks t was _ is_task;
      keeps = record {
        stands = stop_stands t def (k + 1) (was.named ++ k ∷ []) (was.bound ++ new)
            (subst (Stands t (was.named ++ k ∷ []) (was.bound ++ new)) (sym (take_next def.body.items k x here))
            (over_binding t k was.named was.bound new (take k def.body.items) x (length_at_place def.body.items k x here) is adds stands));
        covered = covered_more p s.exchange t k def was.named was.bound (named_requests t handles) named covered;
        sourced = sourced_more p s.exchange t k def was.named was.bound (named_requests t handles) named sourced;
        apart = stop_apart t def (k + 1) (was.bound ++ new);
      };
    }

call_kept : (p : Program) (s : State) (t : ℕ) (def : TaskDef) (was : Task) (k : ℕ) (o : Option Op) → WellFormed p → slice_get p.tasks.items t ≡ Some def
    → slice_get s.tasks t ≡ Some was → slice_get def.body.items k ≡ o → was.phase ≡ phase.At k → Keeps p s.exchange t def was
    → Kept p t def (call_move p s t def was k o).state
call_kept p s t def was k None well is_def is_task here at keeps = record { now = was; is_task = is_task; keeps = keeps }
call_kept p s t def was k (Some (op.Compute kind dst left right value step)) well is_def is_task here at keeps =
    record { now = was; is_task = is_task; keeps = keeps }
call_kept p s t def was k (Some (op.Post how span peer tag comm status)) well is_def is_task here at keeps =
    post_kept p s t def was k (op.Post how span peer tag comm status) (blocks how) is_task here refl
    (λ blocking. awaited_is t k def _ here ∙ ap (λ (b : Bool). cond b (request t (nth_at def k) ∷ []) []) blocking)
    (subst (λ (z : Phase). Stands t was.named was.bound (called def z)) at keeps.stands) keeps.covered keeps.sourced
call_kept p s t def was k (Some (op.Await later handles status)) well is_def is_task here at keeps =
    let x : Op = op.Await later handles status in
    let follows = follows_at p t k def x well is_def here in
    await_kept p s t def was k later handles.items x is_task here refl (awaited_is t k def _ here)
    (ap (λ (o : Option Op). named_requests t (handles_of (nth_at def k) o)) here)
    (wait_adds p s.exchange t (take k def.body.items) x handles.items (λ n. refl) follows.handles.0 follows.handles.1)
    (λ n has. All-contains (IsOpen (take k def.body.items)) handles.items (handle.Nth n) follows.handles.0 has)
    (subst (λ (z : Phase). Stands t was.named was.bound (called def z)) at keeps.stands) keeps.covered keeps.sourced

-- the move of a task keeps its books
move_kept : (p : Program) (s : State) (t : ℕ) (def : TaskDef) (was : Task) (at : Phase) → WellFormed p → slice_get p.tasks.items t ≡ Some def
    → slice_get s.tasks t ≡ Some was → was.phase ≡ at → Keeps p s.exchange t def was → Kept p t def (move_at p s t def was at).state
move_kept p s t def was phase.Waiting well is_def is_task at keeps = record {
  now = _;
  is_task = set_here s.tasks t was _ is_task;
  keeps = record {
    stands = stop_stands t def 0 was.named was.bound (subst (λ (z : Phase). Stands t was.named was.bound (called def z)) at keeps.stands);
    covered = keeps.covered;
    sourced = keeps.sourced;
    apart = stop_apart t def 0 was.bound;
  };
}
move_kept p s t def was (phase.At k) well is_def is_task at keeps = call_kept p s t def was k (slice_get def.body.items k) well is_def is_task refl at keeps
move_kept p s t def was (phase.In k) well is_def is_task at keeps = record {
  now = _;
  is_task = set_here s.tasks t was _ is_task;
  keeps = record {
    stands = stop_stands t def (k + 1) was.named was.bound (subst (λ (z : Phase). Stands t was.named was.bound (called def z)) at keeps.stands);
    covered = keeps.covered;
    sourced = keeps.sourced;
    apart = stop_apart t def (k + 1) was.bound;
  };
}
move_kept p s t def was phase.Ended well is_def is_task at keeps = record {
  now = _;
  is_task = set_here s.tasks t was _ is_task;
  keeps = record {
    stands = subst (λ (z : Phase). Stands t was.named was.bound (called def z)) at keeps.stands;
    covered = keeps.covered;
    sourced = keeps.sourced;
    apart = λ q bound waits. false≢true waits;
  };
}
move_kept p s t def was phase.Returned well is_def is_task at keeps = record {
  now = _;
  is_task = set_here s.tasks t was _ is_task;
  keeps = record {
    stands = subst (λ (z : Phase). Stands t was.named was.bound (called def z)) at keeps.stands;
    covered = keeps.covered;
    sourced = keeps.sourced;
    apart = λ q bound waits. false≢true waits;
  };
}
move_kept p s t def was phase.Released well is_def is_task at keeps = record { now = was; is_task = is_task; keeps = keeps }

-- a step of the machine keeps the books of each task
own_kept : (p : Program) (s : State) (t : ℕ) (def : TaskDef) → WellFormed p → slice_get p.tasks.items t ≡ Some def → MayMove p s t → Kept p t def s
    → Kept p t def (step p s t).state
own_kept p s t def well is_def may kept =
    subst (λ (m : Moved). Kept p t def m.state)
    (sym (step-task p s t (exists_of_move p s t may) ∙ move-row p s t def kept.now kept.now.phase is_def kept.is_task refl))
    (move_kept p s t def kept.now kept.now.phase well is_def kept.is_task refl kept.keeps)

other_kept : (p : Program) (w : ℕ) (s : State) (c t : ℕ) (def : TaskDef) → MayStep p w s c → t ≢ c → Kept p t def s → Kept p t def (step p s c).state
other_kept p w s c t def may other kept = record {
  now = kept.now;
  is_task = leaves_others p w s c may t other ∙ kept.is_task;
  keeps = record {
    stands = kept.keeps.stands;
    covered = covered_stays p s.exchange (step p s c).state.exchange t def kept.now.named kept.now.bound (complete_stays p w s c may) kept.keeps.covered;
    sourced = kept.keeps.sourced;
    apart = kept.keeps.apart;
  };
}

step_kept : (p : Program) (w : ℕ) (s : State) (c t : ℕ) (def : TaskDef) → WellFormed p → slice_get p.tasks.items t ≡ Some def → MayStep p w s c
    → Kept p t def s → Kept p t def (step p s c).state
step_kept p w s c t def well is_def may kept = elim (either_place t c) [
  | inl same ↦ elim may [
    | inl moves ↦
        subst (λ (d : ℕ). Kept p t def (step p s d).state) same
        (own_kept p s t def well is_def (subst (MayMove p s) (sym same) moves) kept)
    | inr polls ↦ absurd (omega (arith, same, polls.poller, slice_get_within p.tasks.items t def is_def))
  ]
  | inr other ↦ other_kept p w s c t def may other kept
]

run_kept : (p : Program) (w : ℕ) (s : State) (cs : List ℕ) (t : ℕ) (def : TaskDef) → WellFormed p → slice_get p.tasks.items t ≡ Some def
    → IsDefined p w s cs → Kept p t def s → Kept p t def (state_after p s cs)
run_kept p w s [] t def well is_def runs kept = kept
run_kept p w s (c ∷ cs) t def well is_def runs kept =
    run_kept p w (step p s c).state cs t def well is_def runs.1 (step_kept p w s c t def well is_def runs.0 kept)

at_opening : (p : Program) (t : ℕ) (def : TaskDef) → slice_get p.tasks.items t ≡ Some def → Kept p t def (opening p)
at_opening p t def is_def = record {
  now = waiting_task;
  is_task = at_replicate (length p.tasks.items) waiting_task t (slice_get_within p.tasks.items t def is_def);
  keeps = record {
    stands = record {
      named = refl;
      bound = record {
        own = tt;
        once = λ q. omega arith;
        posted = λ n has. absurd (false≢true has);
        closed = λ n has left. false≢true has;
      };
    };
    covered = λ k has q names. absurd (nothing_in k has);
    sourced = λ q bound. absurd (false≢true bound);
    apart = λ q bound waits. false≢true bound;
  };
}

-- the books of a task, with what follows of the place where it stands
tidy_task : (p : Program) (s : State) (t : ℕ) (def : TaskDef) (task : Task) → WellFormed p → slice_get p.tasks.items t ≡ Some def
    → Keeps p s.exchange t def task → IsTidyTask p s t def task
tidy_task p s t def task well is_def keeps = record {
  named = keeps.stands.named;
  bound = keeps.stands.bound;
  covered = keeps.covered;
  bound_named = keeps.sourced;
  awaited_own = awaited_own t def task.phase;
  awaited_once = λ q. awaited_once p t def task.phase q well is_def;
  apart = keeps.apart;
}

-- before its first operation nothing is bound to a task
pub unbound : (t : ℕ) (bound : List ReqNo) → IsBoundBy t [] bound → bound ≡ []
unbound t [] b = refl
unbound t (r ∷ bound) b =
    let own : request t r.nth ≡ r = ap (λ (u : ℕ). request u r.nth) (sym b.own.0) in
    let first : IsOneOf (request t r.nth) (r ∷ bound) =
    or_left (same_request (request t r.nth) r) (list_any (same_request (request t r.nth)) bound) (same_from_eq (request t r.nth) r own) in
    absurd (omega (arith, b.posted r.nth first))

pub runs_are_tidy : RunsAreTidy
runs_are_tidy p w cs well runs t def task is_def is_task =
    let kept = run_kept p w (opening p) cs t def well is_def runs (at_opening p t def is_def) in
    let same : kept.now ≡ task = same_some (sym kept.is_task ∙ is_task) in
    tidy_task p (state_after p (opening p) cs) t def task well is_def
    (subst (Keeps p (state_after p (opening p) cs).exchange t def) same kept.keeps)
