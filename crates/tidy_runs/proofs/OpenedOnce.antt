-- Over a run each request is opened at most once, and what is owed was opened.
use Rattle.std.proofs.Common.{◌≡◌, ℕ, zero, suc, ◌+◌, ◌<◌, ◌≤◌, Bool, true, false, cond, ◌⊎◌, List, [], ◌∷◌, ◌++◌, length, take, slice_get}
use Rattle.std.proofs.Common.{replicate, Option, Some, None, refl, sym, ap, ◌∙◌, subst, inl, inr, arith, append_assoc, lt-ltb}
use Rattle.std.specs.Prelude.{nat_lt, option_map}
use Rattle.std.specs.List.{list_any}
use Rattle.std.proofs.lemmas.Bool.{or_cases, false≢true, both_ways}
use Rattle.std.proofs.lemmas.List.{append-nil}
use Rattle.std.proofs.lemmas.Option.{slice_get_within}
use Rattle.rt_base.specs.declared.data.ReqNo.{ReqNo}
use Rattle.rt_base.specs.declared.data.Phase.{Phase}
use Rattle.rt_base.specs.declared.data.Phase.TheVariants as phase
use Rattle.rt_base.specs.declared.data.Handle.{Handle}
use Rattle.rt_base.specs.declared.data.Op.{Op}
use Rattle.rt_base.specs.declared.data.Op.TheVariants as op
use Rattle.rt_base.specs.declared.data.TaskDef.{TaskDef}
use Rattle.rt_base.specs.declared.data.Program.{Program}
use Rattle.rt_base.specs.Operations.{request, blocks, nth_at, named_requests}
use Rattle.rt_base.specs.Matching.{same_request}
use Rattle.rt_base.specs.Exchange.{post}
use Rattle.rt_base.specs.State.{State, Task, opening, waiting_task}
use Rattle.rt_base.specs.WellFormed.{WellFormed}
use Rattle.task_local.specs.Local.{stop}
use Rattle.task_local.specs.Packed.{packed}
use Rattle.task_machine.specs.Machine.{Moved, move_at, call_move, post_move, await_move, step, MayStep, listened, is_expected, open_ones}
use Rattle.task_machine.specs.Legal.{IsDefined, state_after, state_of}
use Rattle.task_machine.specs.Owed.{opened, opened_of, opened_at, opened_by, opened_by_posting, opened_by_step, IsOneOf, IsOwed}
use Rattle.task_machine.proofs.Rows.{move-row}
use Rattle.task_machine.proofs.Items.{either_place, at_replicate}
use Rattle.task_machine.proofs.Runs.{step-task, exists_of_move, IsDefined-push}
use Rattle.task_machine.proofs.Calls.{set_here}
use Rattle.task_machine.proofs.Fronts.{past}
use Rattle.task_machine.proofs.Owing.{move_owes, poll_owes}
use Rattle.task_machine.proofs.Others.{leaves_others}
use Rattle.tidy_runs.specs.Tidy.{called, AreOf}
use Rattle.tidy_runs.specs.Openings.{openings, MovesOpenTheirOwn, NothingIsOpenedTwice, OpenedAreNew, OwedWereOpened}
use Rattle.tidy_runs.proofs.Bodies.{times, times-cons, times-append, count_one, none_of_other, in_left, in_right, named_own}
use Rattle.tidy_runs.proofs.Bodies.{open_own, ClosedBy, Adds, closed_on}
use Rattle.tidy_runs.proofs.Bodies.{closed_more, closed_aside, waits_itself, wait_adds, post_adds, take_next, holds_at_stop}
use Rattle.tidy_runs.proofs.Tidying.{follows_at}

-- a move opens requests of its own task
post_own : (p : Program) (s : State) (t : ℕ) (def : TaskDef) (was : Task) (k : ℕ) (blocking : Bool) → AreOf t (opened_by_posting p s t def was k blocking)
post_own p s t def was k false = tt
post_own p s t def was k true = open_own p _ t (request t (nth_at def k) ∷ []) (refl, tt)

call_own : (p : Program) (s : State) (t : ℕ) (def : TaskDef) (was : Task) (k : ℕ) (o : Option Op) → AreOf t (opened_by p s t def was k o)
call_own p s t def was k None = tt
call_own p s t def was k (Some (op.Compute kind dst left right value step)) = tt
call_own p s t def was k (Some (op.Post how span peer tag comm status)) = post_own p s t def was k (blocks how)
call_own p s t def was k (Some (op.Await later handles status)) =
    open_own p s.exchange t (named_requests t handles.items) (named_own t handles.items)

at_own : (p : Program) (s : State) (t : ℕ) (def : TaskDef) (was : Task) (at : Phase) → AreOf t (opened_at p s t def was at)
at_own p s t def was phase.Waiting = tt
at_own p s t def was (phase.At k) = call_own p s t def was k (slice_get def.body.items k)
at_own p s t def was (phase.In k) = tt
at_own p s t def was phase.Ended = tt
at_own p s t def was phase.Returned = tt
at_own p s t def was phase.Released = tt

of_own : (p : Program) (s : State) (t : ℕ) (def : Option TaskDef) (was : Option Task) → AreOf t (opened_of p s t def was)
of_own p s t None was = tt
of_own p s t (Some def) None = tt
of_own p s t (Some def) (Some was) = at_own p s t def was was.phase

pub opened_own : MovesOpenTheirOwn
unfolding opened
opened_own p s t = of_own p s t (slice_get p.tasks.items t) (slice_get s.tasks t)

-- what a step opens
pub opened-task : (p : Program) (s : State) (t : ℕ) → t < length p.tasks.items → opened_by_step p s t [] ≡ opened p s t
opened-task p s t exists = rw (lt-ltb t (length p.tasks.items) exists) refl

pub opened-poller : (p : Program) (s : State) (c : ℕ) → length p.tasks.items ≤ c → opened_by_step p s c [] ≡ []
opened-poller p s c above = rw (past c (length p.tasks.items) above) refl

own_or_none : (c : ℕ) (reqs : List ReqNo) (b : Bool) → AreOf c reqs → AreOf c (cond b reqs [])
own_or_none c reqs true own = own
own_or_none c reqs false own = tt

step_own : (p : Program) (s : State) (c : ℕ) → AreOf c (opened_by_step p s c [])
step_own p s c = own_or_none c (opened p s c) (nat_lt c (length p.tasks.items)) (opened_own p s c)

pub opened-row : (p : Program) (s : State) (t : ℕ) (def : TaskDef) (was : Task) → slice_get p.tasks.items t ≡ Some def → slice_get s.tasks t ≡ Some was
    → opened p s t ≡ opened_at p s t def was was.phase
unfolding opened
opened-row p s t def was is_def is_task = rw (is_def, is_task) refl

-- of the requests of task t those that were opened so far were posted, and no later wait may name them
record Behind (p : Program) (t : ℕ) (def : TaskDef) (s : State) (reqs : List ReqNo) : Type 0 where
  now : Task
  is_task : slice_get s.tasks t ≡ Some now
  closed : ClosedBy t (called def now.phase) reqs

none_more : (t : ℕ) (front : List Op) (reqs : List ReqNo) → ClosedBy t front reqs → ClosedBy t front (reqs ++ [])
none_more t front reqs c = subst (ClosedBy t front) (sym (append-nil reqs)) c

stop_closed : (t : ℕ) (def : TaskDef) (k : ℕ) (reqs : List ReqNo) → ClosedBy t (take k def.body.items) reqs → ClosedBy t (called def (stop def k)) reqs
stop_closed t def k reqs c = holds_at_stop (λ front. ClosedBy t front reqs) def (λ front x local. closed_on t front x reqs) k c

next_closed : (t k : ℕ) (def : TaskDef) (x : Op) (reqs : List ReqNo) → slice_get def.body.items k ≡ Some x → ClosedBy t (take k def.body.items) reqs
    → ClosedBy t (take (k + 1) def.body.items) reqs
next_closed t k def x reqs here c =
    subst (λ (front : List Op). ClosedBy t front reqs) (sym (take_next def.body.items k x here)) (closed_on t (take k def.body.items) x reqs c)

next_more : (t k : ℕ) (def : TaskDef) (x : Op) (reqs new : List ReqNo) → slice_get def.body.items k ≡ Some x → Adds t (take k def.body.items) x new
    → ClosedBy t (take k def.body.items) reqs → ClosedBy t (take (k + 1) def.body.items) (reqs ++ new)
next_more t k def x reqs new here adds c =
    subst (λ (front : List Op). ClosedBy t front (reqs ++ new)) (sym (take_next def.body.items k x here))
    (closed_more t (take k def.body.items) x reqs new c adds)

post_behind : (p : Program) (s : State) (t : ℕ) (def : TaskDef) (was : Task) (k : ℕ) (x : Op) (blocking : Bool) (reqs : List ReqNo)
    → slice_get s.tasks t ≡ Some was → slice_get def.body.items k ≡ Some x → waits_itself x ≡ blocking → ClosedBy t (take k def.body.items) reqs
    → Behind p t def (post_move p s t def was k blocking).state (reqs ++ opened_by_posting p s t def was k blocking)
post_behind p s t def was k x false reqs is_task here waits c = record {
  now = _;
  is_task = set_here s.tasks t was _ is_task;
  closed = none_more t (called def (stop def (k + 1))) reqs (stop_closed t def (k + 1) reqs (next_closed t k def x reqs here c));
}
post_behind p s t def was k x true reqs is_task here waits c =
    let after = post p s.exchange (request t (nth_at def k)) (packed def k was.copy) in
    record {
      now = _;
      is_task = set_here s.tasks t was _ is_task;
      closed = next_more t k def x reqs (open_ones p after (request t (nth_at def k) ∷ [])) here (post_adds p after t (take k def.body.items) x waits) c;
    }

await_behind : (p : Program) (s : State) (t : ℕ) (def : TaskDef) (was : Task) (k : ℕ) (x : Op) (handles : List Handle) (later : Bool) (reqs : List ReqNo)
    → slice_get s.tasks t ≡ Some was → slice_get def.body.items k ≡ Some x
    → Adds t (take k def.body.items) x (open_ones p s.exchange (named_requests t handles)) → ClosedBy t (take k def.body.items) reqs
    → Behind p t def (await_move p s t def was k handles later).state (reqs ++ open_ones p s.exchange (named_requests t handles))
await_behind p s t def was k x handles false reqs is_task here adds c = record {
  now = _;
  is_task = set_here s.tasks t was _ is_task;
  closed = next_more t k def x reqs (open_ones p s.exchange (named_requests t handles)) here adds c;
}
await_behind p s t def was k x handles true reqs is_task here adds c =
    let new = open_ones p s.exchange (named_requests t handles) in
    record {
      now = _;
      is_task = set_here s.tasks t was _ is_task;
      closed = stop_closed t def (k + 1) (reqs ++ new) (next_more t k def x reqs new here adds c);
    }

call_behind : (p : Program) (s : State) (t : ℕ) (def : TaskDef) (was : Task) (k : ℕ) (o : Option Op) (reqs : List ReqNo) → WellFormed p
    → slice_get p.tasks.items t ≡ Some def → slice_get s.tasks t ≡ Some was → slice_get def.body.items k ≡ o → was.phase ≡ phase.At k
    → ClosedBy t (called def was.phase) reqs → Behind p t def (call_move p s t def was k o).state (reqs ++ opened_by p s t def was k o)
call_behind p s t def was k None reqs well is_def is_task here at c =
    record { now = was; is_task = is_task; closed = none_more t (called def was.phase) reqs c }
call_behind p s t def was k (Some (op.Compute kind dst left right value step)) reqs well is_def is_task here at c =
    record { now = was; is_task = is_task; closed = none_more t (called def was.phase) reqs c }
call_behind p s t def was k (Some (op.Post how span peer tag comm status)) reqs well is_def is_task here at c =
    post_behind p s t def was k (op.Post how span peer tag comm status) (blocks how) reqs is_task here refl
    (subst (λ (z : Phase). ClosedBy t (called def z) reqs) at c)
call_behind p s t def was k (Some (op.Await later handles status)) reqs well is_def is_task here at c =
    let x : Op = op.Await later handles status in
    let follows = follows_at p t k def x well is_def here in
    await_behind p s t def was k x handles.items later reqs is_task here
    (wait_adds p s.exchange t (take k def.body.items) x handles.items (λ n. refl) follows.handles.0 follows.handles.1)
    (subst (λ (z : Phase). ClosedBy t (called def z) reqs) at c)

move_behind : (p : Program) (s : State) (t : ℕ) (def : TaskDef) (was : Task) (at : Phase) (reqs : List ReqNo) → WellFormed p
    → slice_get p.tasks.items t ≡ Some def → slice_get s.tasks t ≡ Some was → was.phase ≡ at → ClosedBy t (called def was.phase) reqs
    → Behind p t def (move_at p s t def was at).state (reqs ++ opened_at p s t def was at)
move_behind p s t def was phase.Waiting reqs well is_def is_task at c = record {
  now = _;
  is_task = set_here s.tasks t was _ is_task;
  closed = none_more t (called def (stop def 0)) reqs (stop_closed t def 0 reqs (subst (λ (z : Phase). ClosedBy t (called def z) reqs) at c));
}
move_behind p s t def was (phase.At k) reqs well is_def is_task at c =
    call_behind p s t def was k (slice_get def.body.items k) reqs well is_def is_task refl at c
move_behind p s t def was (phase.In k) reqs well is_def is_task at c = record {
  now = _;
  is_task = set_here s.tasks t was _ is_task;
  closed = none_more t (called def (stop def (k + 1))) reqs (stop_closed t def (k + 1) reqs (subst (λ (z : Phase). ClosedBy t (called def z) reqs) at c));
}
move_behind p s t def was phase.Ended reqs well is_def is_task at c = record {
  now = _;
  is_task = set_here s.tasks t was _ is_task;
  closed = none_more t def.body.items reqs (subst (λ (z : Phase). ClosedBy t (called def z) reqs) at c);
}
move_behind p s t def was phase.Returned reqs well is_def is_task at c = record {
  now = _;
  is_task = set_here s.tasks t was _ is_task;
  closed = none_more t def.body.items reqs (subst (λ (z : Phase). ClosedBy t (called def z) reqs) at c);
}
move_behind p s t def was phase.Released reqs well is_def is_task at c =
    record { now = was; is_task = is_task; closed = none_more t (called def was.phase) reqs c }

-- a step, by whom it is
own_behind : (p : Program) (s : State) (t : ℕ) (def : TaskDef) (reqs : List ReqNo) → WellFormed p → slice_get p.tasks.items t ≡ Some def
    → t < length p.tasks.items → Behind p t def s reqs → Behind p t def (step p s t).state (reqs ++ opened_by_step p s t [])
own_behind p s t def reqs well is_def exists b =
    subst (λ (new : List ReqNo). Behind p t def (step p s t).state (reqs ++ new))
    (sym (opened-task p s t exists ∙ opened-row p s t def b.now is_def b.is_task))
    (subst (λ (m : Moved). Behind p t def m.state (reqs ++ opened_at p s t def b.now b.now.phase))
    (sym (step-task p s t exists ∙ move-row p s t def b.now b.now.phase is_def b.is_task refl))
    (move_behind p s t def b.now b.now.phase reqs well is_def b.is_task refl b.closed))

step_behind : (p : Program) (w : ℕ) (s : State) (c t : ℕ) (def : TaskDef) (reqs : List ReqNo) → WellFormed p → slice_get p.tasks.items t ≡ Some def
    → MayStep p w s c → Behind p t def s reqs → Behind p t def (step p s c).state (reqs ++ opened_by_step p s c [])
step_behind p w s c t def reqs well is_def may b = elim (either_place t c) [
  | inl same ↦
      subst (λ (d : ℕ). Behind p t def (step p s d).state (reqs ++ opened_by_step p s d [])) same
      (own_behind p s t def reqs well is_def (slice_get_within p.tasks.items t def is_def) b)
  | inr other ↦ record {
    now = b.now;
    is_task = leaves_others p w s c may t other ∙ b.is_task;
    closed = closed_aside t c (called def b.now.phase) reqs (opened_by_step p s c []) other (step_own p s c) b.closed;
  }
]

run_behind : (p : Program) (w : ℕ) (s : State) (cs : List ℕ) (t : ℕ) (def : TaskDef) (reqs : List ReqNo) → WellFormed p
    → slice_get p.tasks.items t ≡ Some def → IsDefined p w s cs → Behind p t def s reqs → Behind p t def (state_after p s cs) (reqs ++ openings p s cs)
run_behind p w s [] t def reqs well is_def runs b = record { now = b.now; is_task = b.is_task; closed = none_more t (called def b.now.phase) reqs b.closed }
run_behind p w s (c ∷ cs) t def reqs well is_def runs b =
    let new = opened_by_step p s c [] in
    subst (Behind p t def (state_after p (step p s c).state cs)) (append_assoc reqs new (openings p (step p s c).state cs))
    (run_behind p w (step p s c).state cs t def (reqs ++ new) well is_def runs.1 (step_behind p w s c t def reqs well is_def runs.0 b))

at_opening : (p : Program) (t : ℕ) (def : TaskDef) → slice_get p.tasks.items t ≡ Some def → Behind p t def (opening p) []
at_opening p t def is_def = record {
  now = waiting_task;
  is_task = at_replicate (length p.tasks.items) waiting_task t (slice_get_within p.tasks.items t def is_def);
  closed = record { few = λ n. omega arith; posted = λ n has. absurd (false≢true has); closed = λ n has left. false≢true has };
}

-- what belongs to no task is never opened
none_opened : (p : Program) (s : State) (q : ReqNo) → slice_get p.tasks.items q.task.0 ≡ None → times q (opened p s q.task.0) ≡ 0
unfolding opened
none_opened p s q none = rw none refl

none_or_none : (q : ReqNo) (reqs : List ReqNo) (b : Bool) → times q reqs ≡ 0 → times q (cond b reqs []) ≡ 0
none_or_none q reqs true none = none
none_or_none q reqs false none = refl

step_none : (p : Program) (s : State) (c : ℕ) (q : ReqNo) → slice_get p.tasks.items q.task.0 ≡ None → times q (opened_by_step p s c []) ≡ 0
step_none p s c q none = elim (either_place q.task.0 c) [
  | inl same ↦
      subst (λ (d : ℕ). times q (opened_by_step p s d []) ≡ 0) same
      (none_or_none q (opened p s q.task.0) (nat_lt q.task.0 (length p.tasks.items)) (none_opened p s q none))
  | inr other ↦ none_of_other c (opened_by_step p s c []) q (step_own p s c) other
]

run_none : (p : Program) (s : State) (cs : List ℕ) (q : ReqNo) → slice_get p.tasks.items q.task.0 ≡ None → times q (openings p s cs) ≡ 0
run_none p s [] q none = refl
run_none p s (c ∷ cs) q none =
    omega (
      arith,
      times-append q (opened_by_step p s c []) (openings p (step p s c).state cs),
      step_none p s c q none,
      run_none p (step p s c).state cs q none,
    )

once_by : (p : Program) (w : ℕ) (cs : List ℕ) (q : ReqNo) (o : Option TaskDef) → WellFormed p → IsDefined p w (opening p) cs
    → slice_get p.tasks.items q.task.0 ≡ o → times q (openings p (opening p) cs) ≤ 1
once_by p w cs q None well runs is = omega (arith, run_none p (opening p) cs q is)
once_by p w cs q (Some def) well runs is =
    (run_behind p w (opening p) cs q.task.0 def [] well is runs (at_opening p q.task.0 def is)).closed.few q.nth

pub opened_once : NothingIsOpenedTwice
opened_once p w cs well runs q = once_by p w cs q (slice_get p.tasks.items q.task.0) well runs refl

-- one step more
openings-push : (p : Program) (s : State) (cs : List ℕ) (c : ℕ) → openings p s (cs ++ c ∷ []) ≡ openings p s cs ++ opened_by_step p (state_after p s cs) c []
openings-push p s [] c = append-nil (opened_by_step p s c [])
openings-push p s (d ∷ cs) c =
    ap (λ (reqs : List ReqNo). opened_by_step p s d [] ++ reqs) (openings-push p (step p s d).state cs c)
    ∙ sym (append_assoc (opened_by_step p s d []) (openings p (step p s d).state cs) (opened_by_step p (state_after p (step p s d).state cs) c []))

-- a request that is in a list stands there at least once
counted : (q r : ReqNo) (reqs : List ReqNo) → (IsOneOf q reqs → 1 ≤ times q reqs) → (same_request q r ≡ true) ⊎ IsOneOf q reqs → 1 ≤ times q (r ∷ reqs)
counted q r reqs rest (inl same) = omega (arith, times-cons q r reqs, count_one (same_request q r) same)
counted q r reqs rest (inr later) = omega (arith, times-cons q r reqs, rest later)

pub some_counts : (q : ReqNo) (reqs : List ReqNo) → IsOneOf q reqs → 1 ≤ times q reqs
some_counts q [] has = absurd (false≢true has)
some_counts q (r ∷ reqs) has = counted q r reqs (some_counts q reqs) (or_cases (same_request q r) (list_any (same_request q) reqs) has)

pub opened_new : OpenedAreNew
opened_new p w cs well runs t may q opens before =
    let s = state_of p cs in
    let whole = openings-push p (opening p) cs t ∙ ap (λ (new : List ReqNo). openings p (opening p) cs ++ new) (opened-task p s t (exists_of_move p s t may)) in
    let few = opened_once p w (cs ++ t ∷ []) well (IsDefined-push p w (opening p) cs t runs (inl may)) q in
    let count : times q (openings p (opening p) (cs ++ t ∷ [])) ≡ times q (openings p (opening p) cs) + times q (opened p s t) =
    ap (times q) whole ∙ times-append q (openings p (opening p) cs) (opened p s t) in
    absurd (omega (arith, few, count, some_counts q (openings p (opening p) cs) before, some_counts q (opened p s t) opens))

-- what is owed was opened
move_opens : (p : Program) (s : State) (t : ℕ) (q : ReqNo) → t < length p.tasks.items → IsOwed p (step p s t).state q → IsOwed p s q ⊎ IsOneOf q (opened p s t)
move_opens p s t q exists owed = move_owes p s t q (subst (λ (m : Moved). IsOwed p m.state q) (step-task p s t exists) owed)

step_poll : (p : Program) (s : State) (c : ℕ) (q : ReqNo) → length p.tasks.items ≤ c → IsOwed p (step p s c).state q → IsOwed p s q
unfolding step
step_poll p s c q above = rw (past c (length p.tasks.items) above) (poll_owes p s _ q)

step_opens : (p : Program) (w : ℕ) (s : State) (c : ℕ) (q : ReqNo) → MayStep p w s c → IsOwed p (step p s c).state q
    → IsOwed p s q ⊎ IsOneOf q (opened_by_step p s c [])
step_opens p w s c q may owed = elim may [
  | inl moves ↦
      subst (λ (new : List ReqNo). IsOwed p s q ⊎ IsOneOf q new) (sym (opened-task p s c (exists_of_move p s c moves)))
      (move_opens p s c q (exists_of_move p s c moves) owed)
  | inr polls ↦ inl (step_poll p s c q polls.poller owed)
]

run_opens : (p : Program) (w : ℕ) (s : State) (cs : List ℕ) (q : ReqNo) → IsDefined p w s cs → IsOwed p (state_after p s cs) q
    → IsOwed p s q ⊎ IsOneOf q (openings p s cs)
run_opens p w s [] q runs owed = inl owed
run_opens p w s (c ∷ cs) q runs owed =
    let new = opened_by_step p s c [] in
    let later = openings p (step p s c).state cs in
    elim (run_opens p w (step p s c).state cs q runs.1 owed) [
      | inl before ↦ elim (step_opens p w s c q runs.0 before) [ inl first ↦ inl first | inr opens ↦ inr (in_left q new later opens) ]
      | inr opens ↦ inr (in_right q new later opens)
    ]

-- at the opening nothing is owed
replicated : (n i : ℕ) (y : Task) → (slice_get (replicate n y) i ≡ None) ⊎ (slice_get (replicate n y) i ≡ Some y)
replicated zero i y = inl refl
replicated (suc n) zero y = inr refl
replicated (suc n) (suc i) y = replicated n i y

silent_by : (p : Program) (t : ℕ) (d : Option TaskDef) (o : Option Task) → slice_get p.tasks.items t ≡ d → (o ≡ None) ⊎ (o ≡ Some waiting_task)
    → listened p t (option_map (λ (z : Task). z.phase) o) (option_map (λ (z : Task). z.bound) o) ≡ []
silent_by p t None o is (inl none) = rw (none, is) refl
silent_by p t None o is (inr waits) = rw (waits, is) refl
silent_by p t (Some def) o is (inl none) = rw (none, is) refl
silent_by p t (Some def) o is (inr waits) = rw (waits, is) refl

none_expected : (p : Program) (q : ReqNo) → is_expected p (opening p).tasks q ≡ false
unfolding is_expected
none_expected p q =
    ap (list_any (same_request q))
    (silent_by p q.task.0 (slice_get p.tasks.items q.task.0) (slice_get (opening p).tasks q.task.0) refl
    (replicated (length p.tasks.items) q.task.0 waiting_task))

none_owed : (p : Program) (q : ReqNo) → IsOwed p (opening p) q → ⊥
none_owed p q (inl open_one) = both_ways (is_expected p (opening p).tasks q) (none_expected p q) open_one.1
none_owed p q (inr stands) = false≢true stands

pub owed_opened : OwedWereOpened
owed_opened p w cs runs q owed = elim (run_opens p w (opening p) cs q runs owed) [ inl first ↦ absurd (none_owed p q first) | inr opens ↦ opens ]
