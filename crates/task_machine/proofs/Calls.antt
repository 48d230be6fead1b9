-- The calls and leaves of one operation along a run.
use Rattle.std.proofs.Common.{◌≡◌, ◌≢◌, ℕ, ◌+◌, ◌<◌, ◌≤◌, Bool, true, false, ◌&&◌, cond, ◌⊎◌, List, [], ◌∷◌, length, drop, slice_get, slice_set}
use Rattle.std.proofs.Common.{Option, Some, None, refl, sym, ap, ◌∙◌, subst, inl, inr, arith}
use Rattle.std.specs.Prelude.{nat_eq, nat_lt, nat_le, count_by, not, ◌↔◌}
use Rattle.std.proofs.lemmas.Bool.{false≢true}
use Rattle.std.proofs.lemmas.Bool.Decides.{nat_tests}
use Rattle.std.proofs.lemmas.Option.{slice_get_within}
use Rattle.std.proofs.lemmas.List.Sums.{sum_by-cons}
use Rattle.rt_base.specs.declared.data.ReqNo.{ReqNo}
use Rattle.rt_base.specs.declared.data.Phase.{Phase}
use Rattle.rt_base.specs.declared.data.Phase.TheVariants as phase
use Rattle.rt_base.specs.declared.data.Op.{Op}
use Rattle.rt_base.specs.declared.data.Op.TheVariants as op
use Rattle.rt_base.specs.declared.data.Status.{Status}
use Rattle.rt_base.specs.declared.data.Entry.{Entry}
use Rattle.rt_base.specs.declared.data.TaskDef.{TaskDef}
use Rattle.rt_base.specs.declared.data.Program.{Program}
use Rattle.rt_base.specs.Operations.{blocks, awaited, request, nth_at}
use Rattle.rt_base.specs.Exchange.{Exchange}
use Rattle.rt_base.specs.Completion.{is_complete}
use Rattle.rt_base.specs.State.{State, Task, opening, waiting_task}
use Rattle.rt_base.specs.MayMove.{MayMove, MayMoveAt, AreComplete}
use Rattle.rt_base.proofs.Postings.{stays_complete}
use Rattle.task_local.specs.Local.{stop_at, stop}
use Rattle.task_local.specs.Packed.{packed}
use Rattle.task_machine.specs.Machine.{Moved, move, move_at, call_move, post_move, await_move, poll, polled, step, MayStep}
use Rattle.task_machine.specs.Legal.{IsDefined, state_after, entries_after, callers, final, IsLegal, IsQuiet}
use Rattle.task_machine.specs.Laws.{is_blocking_call, is_call_of, is_leave_of}
use Rattle.task_machine.proofs.Rows.{move-row}
use Rattle.task_machine.proofs.Lists.{slice_get-set_same, slice_get-set_other}
use Rattle.task_machine.proofs.Items.{either_place, at_replicate, same_some}
use Rattle.task_machine.proofs.Runs.{step-task, exists_of_move}

-- one more where the test holds
abbrev more : Bool → ℕ → ℕ
more true n = n + 1
more false n = n

-- a task that stands there has not come to operation k
abbrev is_before : ℕ → Phase → Bool
is_before k phase.Waiting = true
is_before k (phase.At j) = nat_le j k
is_before k (phase.In j) = nat_lt j k
is_before k phase.Ended = false
is_before k phase.Returned = false
is_before k phase.Released = false

-- a task that stands there is in operation k
abbrev is_within : ℕ → Phase → Bool
is_within k phase.Waiting = false
is_within k (phase.At j) = false
is_within k (phase.In j) = nat_eq j k
is_within k phase.Ended = false
is_within k phase.Returned = false
is_within k phase.Released = false

-- how often operation k of task t was called and left, where the task stands there
record Account (p : Program) (t k : ℕ) (def : TaskDef) (x : Exchange) (at : Phase) (calls leaves : ℕ) : Type 0 where
  before : is_before k at ≡ true → (calls ≡ 0) × (leaves ≡ 0)
  within : is_within k at ≡ true → leaves ≡ 0
  once : leaves ≤ 1
  blocks : is_within k at ≡ true → is_blocking_call (slice_get def.body.items k) ≡ true
  never : is_blocking_call (slice_get def.body.items k) ≡ false → leaves ≡ 0
  done : is_blocking_call (slice_get def.body.items k) ≡ true → 1 ≤ calls → is_within k at ≡ false → (leaves ≡ 1) × AreComplete p x (awaited t def k)

-- the same of a state
record Holds (p : Program) (t k : ℕ) (def : TaskDef) (s : State) (calls leaves : ℕ) : Type 0 where
  was : Task
  is_task : slice_get s.tasks t ≡ Some was
  account : Account p t k def s.exchange was.phase calls leaves

equal_of : (j k : ℕ) → nat_eq j k ≡ true → j ≡ k
equal_of j k e = grind (arith, nat_tests)

less_of : (j k : ℕ) → nat_lt j k ≡ true → j < k
less_of j k e = grind (arith, nat_tests)

most_of : (j k : ℕ) → nat_le j k ≡ true → j ≤ k
most_of j k e = grind (arith, nat_tests)

of_equal : (j k : ℕ) → j ≡ k → nat_eq j k ≡ true
of_equal j k e = grind (arith, nat_tests)

of_other : (j k : ℕ) → j ≢ k → nat_eq j k ≡ false
of_other j k e = grind (arith, nat_tests)

of_less : (j k : ℕ) → j < k → nat_lt j k ≡ true
of_less j k e = grind (arith, nat_tests)

of_past : (j k : ℕ) → k ≤ j → nat_lt j k ≡ false
of_past j k e = grind (arith, nat_tests)

of_most : (j k : ℕ) → j ≤ k → nat_le j k ≡ true
of_most j k e = grind (arith, nat_tests)

-- the entry is that of operation k of task t, or it is not
own_entry : (t j k : ℕ) → j ≡ k → (nat_eq t t && nat_eq j k) ≡ true
own_entry t j k e = rw (of_equal t t refl, of_equal j k e) refl

other_operation : (t j k : ℕ) → j ≢ k → (nat_eq t t && nat_eq j k) ≡ false
other_operation t j k e = rw (of_equal t t refl, of_other j k e) refl

other_task : (u t j k : ℕ) → u ≢ t → (nat_eq u t && nat_eq j k) ≡ false
other_task u t j k e = rw (of_other u t e) refl

-- nothing was called or left: so it is wherever the task stands
fresh : (p : Program) (t k : ℕ) (def : TaskDef) (x : Exchange) (at : Phase) (m n : ℕ) → m ≡ 0 → n ≡ 0 → is_within k at ≡ false
    → Account p t k def x at m n
fresh p t k def x at m n no_call no_leave outside = record {
  before = λ _. (no_call, no_leave);
  within = λ _. no_leave;
  once = omega arith;
  blocks = λ within. absurd (cc);
  never = λ _. no_leave;
  done = λ _ called _. absurd (omega arith);
}

-- a task that has run its local operations stands past the operation before them, and in no operation
stop_past : (k j : ℕ) (ops : List Op) → is_before k (stop_at j ops) ≡ true → j ≤ k
stop_past k j [] e = absurd (cc)
stop_past k j (op.Compute kind dst left right value step ∷ ops) e = let rest = stop_past k (j + 1) ops e in omega arith
stop_past k j (op.Post how span peer tag comm status ∷ ops) e = most_of j k e
stop_past k j (op.Await later handles status ∷ ops) e = most_of j k e

stop_outside : (k j : ℕ) (ops : List Op) → is_within k (stop_at j ops) ≡ false
stop_outside k j [] = refl
stop_outside k j (op.Compute kind dst left right value step ∷ ops) = stop_outside k (j + 1) ops
stop_outside k j (op.Post how span peer tag comm status ∷ ops) = refl
stop_outside k j (op.Await later handles status ∷ ops) = refl

stands_past : (def : TaskDef) (k j : ℕ) → is_before k (stop def j) ≡ true → j ≤ k
unfolding stop
stands_past def k j = stop_past k j (drop j def.body.items)

stands_outside : (def : TaskDef) (k j : ℕ) → is_within k (stop def j) ≡ false
unfolding stop
stands_outside def k j = stop_outside k j (drop j def.body.items)

-- requests that are complete stay complete
abbrev pub Stays : Program → Exchange → Exchange → Type 0
Stays p x y = (q : ReqNo) → is_complete p x q ≡ true → is_complete p y q ≡ true

pub all_stay : (p : Program) (x y : Exchange) (reqs : List ReqNo) → Stays p x y → AreComplete p x reqs → AreComplete p y reqs
all_stay p x y [] stays complete = tt
all_stay p x y (req ∷ reqs) stays complete = (stays req complete.0, all_stay p x y reqs stays complete.1)

carried : (p : Program) (t k : ℕ) (def : TaskDef) (x y : Exchange) (at : Phase) (m n : ℕ) → Stays p x y → Account p t k def x at m n
    → Account p t k def y at m n
carried p t k def x y at m n stays a = record {
  before = a.before;
  within = a.within;
  once = a.once;
  blocks = a.blocks;
  never = a.never;
  done = λ blocking called outside. let d = a.done blocking called outside in (d.0, all_stay p x y (awaited t def k) stays d.1);
}

-- where a call of operation j leads
record Leads (j : ℕ) (blocking : Bool) (at : Phase) : Type 0 where
  past : (k : ℕ) → is_before k at ≡ true → j < k
  inside : (k : ℕ) → is_within k at ≡ true → j ≡ k
  stays : blocking ≡ true → is_within j at ≡ true
  blocks : is_within j at ≡ true → blocking ≡ true

leads_in : (j : ℕ) → Leads j true (phase.In j)
leads_in j = record { past = λ k e. less_of j k e; inside = λ k e. equal_of j k e; stays = λ _. of_equal j j refl; blocks = λ _. refl }

leads_on : (def : TaskDef) (j : ℕ) → Leads j false (stop def (j + 1))
leads_on def j = record {
  past = λ k e. let past = stands_past def k (j + 1) e in omega arith;
  inside = λ k e. let outside = stands_outside def k (j + 1) in absurd (cc);
  stays = λ e. absurd (cc);
  blocks = λ e. let outside = stands_outside def j (j + 1) in absurd (cc);
}

-- after a call of operation j
flag_of : (t j k : ℕ) (m : ℕ) → j ≢ k → more (nat_eq t t && nat_eq j k) m ≡ m
flag_of t j k m e = ap (λ (b : Bool). more b m) (other_operation t j k e)

called : (p : Program) (t k : ℕ) (def : TaskDef) (x y : Exchange) (j : ℕ) (o : Option Op) (at : Phase) (m n : ℕ) → slice_get def.body.items j ≡ o → Stays p x y
    → Leads j (is_blocking_call o) at → Account p t k def x (phase.At j) m n → Account p t k def y at (more (nat_eq t t && nat_eq j k) m) n
called p t k def x y j o at m n here stays leads a = record {
  before = λ e.
      let past = leads.past k e in
      let none = a.before (of_most j k (omega arith)) in
      (flag_of t j k m (λ s. absurd (omega arith)) ∙ none.0, none.1);
  within = λ e. let same = leads.inside k e in (a.before (of_most j k (omega arith))).1;
  once = a.once;
  blocks = λ e.
      let same = leads.inside k e in
      ap is_blocking_call (ap (slice_get def.body.items) (sym same) ∙ here) ∙ leads.blocks (ap (λ i. is_within i at) same ∙ e);
  never = a.never;
  done = λ blocking calls outside. elim (either_place j k) [
    | inl same ↦
        let b : is_blocking_call o ≡ true = ap is_blocking_call (sym here ∙ ap (slice_get def.body.items) same) ∙ blocking in
        let inside : is_within k at ≡ true = ap (λ i. is_within i at) (sym same) ∙ leads.stays b in
        absurd (cc)
    | inr other ↦
        let d = a.done blocking (subst (λ c. 1 ≤ c) (flag_of t j k m other) calls) refl in
        (d.0, all_stay p x y (awaited t def k) stays d.1)
  ];
}

-- after the leave of operation j, all of whose requests are complete
left : (p : Program) (t k : ℕ) (def : TaskDef) (x : Exchange) (j m n : ℕ) → AreComplete p x (awaited t def j) → Account p t k def x (phase.In j) m n
    → Account p t k def x (stop def (j + 1)) m (more (nat_eq t t && nat_eq j k) n)
left p t k def x j m n complete a = record {
  before = λ e.
      let past = stands_past def k (j + 1) e in
      let none = a.before (of_less j k (omega arith)) in
      (none.0, flag_of t j k n (λ s. absurd (omega arith)) ∙ none.1);
  within = λ e. let outside = stands_outside def k (j + 1) in absurd (cc);
  once = elim (either_place j k) [
    | inl same ↦
        let none = a.within (of_equal j k same) in
        subst (λ c. c ≤ 1) (sym (ap (λ (b : Bool). more b n) (own_entry t j k same))) (omega arith)
    | inr other ↦ subst (λ c. c ≤ 1) (sym (flag_of t j k n other)) a.once
  ];
  blocks = λ e. let outside = stands_outside def k (j + 1) in absurd (cc);
  never = λ none. elim (either_place j k) [
    | inl same ↦ absurd (false≢true (sym none ∙ a.blocks (of_equal j k same)))
    | inr other ↦ flag_of t j k n other ∙ a.never none
  ];
  done = λ blocking calls outside. elim (either_place j k) [
    | inl same ↦
        let none = a.within (of_equal j k same) in
        (ap (λ (b : Bool). more b n) (own_entry t j k same) ∙ omega arith, subst (λ i. AreComplete p x (awaited t def i)) same complete)
    | inr other ↦
        let d = a.done blocking calls (of_other j k other) in
        (flag_of t j k n other ∙ d.0, d.1)
  ];
}

-- after the task's return or its release
gone : (p : Program) (t k : ℕ) (def : TaskDef) (x : Exchange) (old new : Phase) (m n : ℕ) → is_within k old ≡ false → is_before k new ≡ false
    → is_within k new ≡ false
    → Account p t k def x old m n → Account p t k def x new m n
gone p t k def x old new m n outside past within a = record {
  before = λ e. absurd (cc);
  within = λ e. absurd (cc);
  once = a.once;
  blocks = λ e. absurd (cc);
  never = a.never;
  done = λ blocking calls _. a.done blocking calls outside;
}

-- the account goes on over this move
abbrev GoesOn : Program → ℕ → ℕ → TaskDef → ℕ → ℕ → Moved → Type 0
GoesOn p t k def m n moved = Holds p t k def moved.state (more (is_call_of t k moved.entry) m) (more (is_leave_of t k moved.entry) n)

pub set_here : (tasks : List Task) (t : ℕ) (was now : Task) → slice_get tasks t ≡ Some was → slice_get (slice_set tasks t now) t ≡ Some now
set_here tasks t was now here = slice_get-set_same tasks t now (slice_get_within tasks t was here)

-- a call by the task
post_goes : (p : Program) (s : State) (t k : ℕ) (def : TaskDef) (was : Task) (j m n : ℕ) (o : Option Op) (blocking : Bool) → slice_get s.tasks t ≡ Some was
    → slice_get def.body.items j ≡ o → is_blocking_call o ≡ blocking → Account p t k def s.exchange (phase.At j) m n
    → GoesOn p t k def m n (post_move p s t def was j blocking)
post_goes p s t k def was j m n o false is_task here is_b a = record {
  was = _;
  is_task = set_here s.tasks t was _ is_task;
  account = called p t k def s.exchange _ j o _ m n here (λ q. stays_complete p s.exchange (request t (nth_at def j)) q (packed def j was.copy))
      (subst (λ b. Leads j b (stop def (j + 1))) (sym is_b) (leads_on def j)) a;
}
post_goes p s t k def was j m n o true is_task here is_b a = record {
  was = _;
  is_task = set_here s.tasks t was _ is_task;
  account = called p t k def s.exchange _ j o _ m n here (λ q. stays_complete p s.exchange (request t (nth_at def j)) q (packed def j was.copy))
      (subst (λ b. Leads j b (phase.In j)) (sym is_b) (leads_in j)) a;
}

await_goes : (p : Program) (s : State) (t k : ℕ) (def : TaskDef) (was : Task) (j m n : ℕ) (o : Option Op) (later : Bool) (handles : _)
    → slice_get s.tasks t ≡ Some was
    → slice_get def.body.items j ≡ o → is_blocking_call o ≡ not later → Account p t k def s.exchange (phase.At j) m n
    → GoesOn p t k def m n (await_move p s t def was j handles later)
await_goes p s t k def was j m n o false handles is_task here is_b a = record {
  was = _;
  is_task = set_here s.tasks t was _ is_task;
  account = called p t k def s.exchange s.exchange j o _ m n here (λ q e. e) (subst (λ b. Leads j b (phase.In j)) (sym is_b) (leads_in j)) a;
}
await_goes p s t k def was j m n o true handles is_task here is_b a = record {
  was = _;
  is_task = set_here s.tasks t was _ is_task;
  account = called p t k def s.exchange s.exchange j o _ m n here (λ q e. e) (subst (λ b. Leads j b (stop def (j + 1))) (sym is_b) (leads_on def j)) a;
}

call_goes : (p : Program) (s : State) (t k : ℕ) (def : TaskDef) (was : Task) (j m n : ℕ) (o : Option Op) → slice_get s.tasks t ≡ Some was
    → was.phase ≡ phase.At j
    → slice_get def.body.items j ≡ o → Account p t k def s.exchange was.phase m n → GoesOn p t k def m n (call_move p s t def was j o)
call_goes p s t k def was j m n None is_task at here a = record { was = was; is_task = is_task; account = a }
call_goes p s t k def was j m n (Some (op.Compute kind dst left right value step)) is_task at here a = record { was = was; is_task = is_task; account = a }
call_goes p s t k def was j m n (Some (op.Post how span peer tag comm status)) is_task at here a =
    post_goes p s t k def was j m n (Some (op.Post how span peer tag comm status)) (blocks how) is_task here refl
    (subst (λ (z : Phase). Account p t k def s.exchange z m n) at a)
call_goes p s t k def was j m n (Some (op.Await later handles status)) is_task at here a =
    await_goes p s t k def was j m n (Some (op.Await later handles status)) later handles.items is_task here refl
    (subst (λ (z : Phase). Account p t k def s.exchange z m n) at a)

-- a move of the task
own_goes : (p : Program) (s : State) (t k : ℕ) (def : TaskDef) (was : Task) (at : Phase) (m n : ℕ) → slice_get s.tasks t ≡ Some was → was.phase ≡ at
    → MayMoveAt p s.tasks s.exchange t def was at → Account p t k def s.exchange was.phase m n → GoesOn p t k def m n (move_at p s t def was at)
own_goes p s t k def was phase.Waiting m n is_task at may a =
    let none = a.before (ap (is_before k) at) in
    record { was = _; is_task = set_here s.tasks t was _ is_task; account = fresh p t k def s.exchange (stop def 0) m n none.0 none.1 (stands_outside def k 0) }
own_goes p s t k def was (phase.At j) m n is_task at may a = call_goes p s t k def was j m n (slice_get def.body.items j) is_task at refl a
own_goes p s t k def was (phase.In j) m n is_task at may a = record {
  was = _;
  is_task = set_here s.tasks t was _ is_task;
  account = left p t k def s.exchange j m n may (subst (λ (z : Phase). Account p t k def s.exchange z m n) at a);
}
own_goes p s t k def was phase.Ended m n is_task at may a = record {
  was = _;
  is_task = set_here s.tasks t was _ is_task;
  account = gone p t k def s.exchange was.phase phase.Returned m n (ap (is_within k) at) refl refl a;
}
own_goes p s t k def was phase.Returned m n is_task at may a = record {
  was = _;
  is_task = set_here s.tasks t was _ is_task;
  account = gone p t k def s.exchange was.phase phase.Released m n (ap (is_within k) at) refl refl a;
}
own_goes p s t k def was phase.Released m n is_task at may a = absurd may

-- what a move of another task leaves alone
pub record Aside (p : Program) (t k : ℕ) (s : State) (moved : Moved) : Type 0 where
  pub task : slice_get moved.state.tasks t ≡ slice_get s.tasks t
  pub stays : Stays p s.exchange moved.state.exchange
  pub no_call : is_call_of t k moved.entry ≡ false
  pub no_leave : is_leave_of t k moved.entry ≡ false

post_aside : (p : Program) (s : State) (u t k : ℕ) (def : TaskDef) (was : Task) (j : ℕ) (blocking : Bool) → u ≢ t
    → Aside p t k s (post_move p s u def was j blocking)
post_aside p s u t k def was j blocking other = record {
  task = slice_get-set_other s.tasks u t _ (λ e. other (sym e));
  stays = λ q. stays_complete p s.exchange (request u (nth_at def j)) q (packed def j was.copy);
  no_call = other_task u t j k other;
  no_leave = refl;
}

await_aside : (p : Program) (s : State) (u t k : ℕ) (def : TaskDef) (was : Task) (j : ℕ) (handles : _) (later : Bool) → u ≢ t
    → Aside p t k s (await_move p s u def was j handles later)
await_aside p s u t k def was j handles false other = record {
  task = slice_get-set_other s.tasks u t _ (λ e. other (sym e));
  stays = λ q e. e;
  no_call = other_task u t j k other;
  no_leave = refl;
}
await_aside p s u t k def was j handles true other = record {
  task = slice_get-set_other s.tasks u t _ (λ e. other (sym e));
  stays = λ q e. e;
  no_call = other_task u t j k other;
  no_leave = refl;
}

call_aside : (p : Program) (s : State) (u t k : ℕ) (def : TaskDef) (was : Task) (j : ℕ) (o : Option Op) → u ≢ t → Aside p t k s (call_move p s u def was j o)
call_aside p s u t k def was j None other = record { task = refl; stays = λ q e. e; no_call = refl; no_leave = refl }
call_aside p s u t k def was j (Some (op.Compute kind dst left right value step)) other =
    record { task = refl; stays = λ q e. e; no_call = refl; no_leave = refl }
call_aside p s u t k def was j (Some (op.Post how span peer tag comm status)) other = post_aside p s u t k def was j (blocks how) other
call_aside p s u t k def was j (Some (op.Await later handles status)) other = await_aside p s u t k def was j handles.items later other

pub move_aside : (p : Program) (s : State) (u t k : ℕ) (def : TaskDef) (was : Task) (at : Phase) → u ≢ t → Aside p t k s (move_at p s u def was at)
move_aside p s u t k def was phase.Waiting other = record {
  task = slice_get-set_other s.tasks u t _ (λ e. other (sym e));
  stays = λ q e. e;
  no_call =
      refl;
  no_leave = refl;
}
move_aside p s u t k def was (phase.At j) other = call_aside p s u t k def was j (slice_get def.body.items j) other
move_aside p s u t k def was (phase.In j) other = record {
  task = slice_get-set_other s.tasks u t _ (λ e. other (sym e));
  stays = λ q e. e;
  no_call = refl;
  no_leave = other_task u t j k other;
}
move_aside p s u t k def was phase.Ended other = record {
  task = slice_get-set_other s.tasks u t _ (λ e. other (sym e));
  stays = λ q e. e;
  no_call =
      refl;
  no_leave = refl;
}
move_aside p s u t k def was phase.Returned other = record {
  task = slice_get-set_other s.tasks u t _ (λ e. other (sym e));
  stays = λ q e. e;
  no_call =
      refl;
  no_leave = refl;
}
move_aside p s u t k def was phase.Released other = record { task = refl; stays = λ q e. e; no_call = refl; no_leave = refl }

aside_goes : (p : Program) (t k : ℕ) (def : TaskDef) (s : State) (moved : Moved) (m n : ℕ) → Aside p t k s moved → Holds p t k def s m n
    → GoesOn p t k def m n moved
aside_goes p t k def s moved m n aside holds = record {
  was = holds.was;
  is_task = aside.task ∙ holds.is_task;
  account = rw (aside.no_call, aside.no_leave) (carried p t k def s.exchange moved.state.exchange holds.was.phase m n aside.stays holds.account);
}

-- a poll takes a notice alone
polled_aside : (p : Program) (t k : ℕ) (s : State) (poller : ℕ) (notices : List ReqNo) → Aside p t k s (polled s poller notices)
polled_aside p t k s poller [] = record { task = refl; stays = λ q e. e; no_call = refl; no_leave = refl }
polled_aside p t k s poller (req ∷ notices) = record { task = refl; stays = λ q e. e; no_call = refl; no_leave = refl }

poll_aside : (p : Program) (t k : ℕ) (s : State) (poller : ℕ) → Aside p t k s (poll s poller)
unfolding poll
poll_aside p t k s poller = polled_aside p t k s poller s.notices

pub step_aside : (p : Program) (t k : ℕ) (s : State) (c : ℕ) → length p.tasks.items ≤ c → Aside p t k s (step p s c)
unfolding step
step_aside p t k s c past = rw (of_past c (length p.tasks.items) past) (poll_aside p t k s _)

-- a step of the machine
own_step : (p : Program) (s : State) (t k : ℕ) (def : TaskDef) (m n : ℕ) → slice_get p.tasks.items t ≡ Some def → MayMove p s t → Holds p t k def s m n
    → GoesOn p t k def m n (move p s t)
own_step p s t k def m n is_def may holds =
    let same_def : may.def ≡ def = same_some (sym may.is_def ∙ is_def) in
    let same_task : may.task ≡ holds.was = same_some (sym may.is_task ∙ holds.is_task) in
    let enabled : MayMoveAt p s.tasks s.exchange t def holds.was holds.was.phase =
    subst (λ (d : TaskDef). MayMoveAt p s.tasks s.exchange t d holds.was holds.was.phase) same_def
    (subst (λ (z : Task). MayMoveAt p s.tasks s.exchange t may.def z z.phase) same_task may.enabled) in
    subst (GoesOn p t k def m n) (sym (move-row p s t def holds.was holds.was.phase is_def holds.is_task refl))
    (own_goes p s t k def holds.was holds.was.phase m n holds.is_task refl enabled holds.account)

move_step : (p : Program) (s : State) (u t k : ℕ) (def : TaskDef) (m n : ℕ) → slice_get p.tasks.items t ≡ Some def → MayMove p s u → Holds p t k def s m n
    → GoesOn p t k def m n (move p s u)
move_step p s u t k def m n is_def may holds = elim (either_place u t) [
  | inl same ↦ subst (λ i. GoesOn p t k def m n (move p s i)) (sym same) (own_step p s t k def m n is_def (subst (MayMove p s) same may) holds)
  | inr other ↦
      subst (GoesOn p t k def m n) (sym (move-row p s u may.def may.task may.task.phase may.is_def may.is_task refl))
      (aside_goes p t k def s _ m n (move_aside p s u t k may.def may.task may.task.phase other) holds)
]

one_step : (p : Program) (w : ℕ) (s : State) (c t k : ℕ) (def : TaskDef) (m n : ℕ) → slice_get p.tasks.items t ≡ Some def → MayStep p w s c
    → Holds p t k def s m n → GoesOn p t k def m n (step p s c)
one_step p w s c t k def m n is_def may holds = elim may [
  | inl moves ↦ subst (GoesOn p t k def m n) (sym (step-task p s c (exists_of_move p s c moves))) (move_step p s c t k def m n is_def moves holds)
  | inr polls ↦ aside_goes p t k def s _ m n (step_aside p t k s c polls.poller) holds
]

-- one entry more in front
one_more : (b : Bool) (m n : ℕ) → more b m + n ≡ m + (cond b 1 0 + n)
one_more true m n = omega arith
one_more false m n = omega arith

count_front : (f : Entry → Bool) (e : Entry) (es : List Entry) (m : ℕ) → more (f e) m + count_by f es ≡ m + count_by f (e ∷ es)
count_front f e es m = one_more (f e) m (count_by f es) ∙ ap (λ n. m + n) (sym (sum_by-cons (λ x. cond (f x) 1 0) e es))

from_zero : (n : ℕ) → 0 + n ≡ n
from_zero n = omega arith

-- the account after a run
along : (p : Program) (w : ℕ) (s : State) (cs : List ℕ) (t k : ℕ) (def : TaskDef) (m n : ℕ) → slice_get p.tasks.items t ≡ Some def → IsDefined p w s cs
    → Holds p t k def s m n
    → Holds p t k def (state_after p s cs) (m + count_by (is_call_of t k) (entries_after p s cs)) (n + count_by (is_leave_of t k) (entries_after p s cs))
along p w s [] t k def m n is_def runs holds =
    subst (λ i. Holds p t k def s i (n + 0)) (sym (omega arith)) (subst (Holds p t k def s m) (sym (omega arith)) holds)
along p w s (c ∷ cs) t k def m n is_def runs holds =
    let e = (step p s c).entry in
    let es = entries_after p (step p s c).state cs in
    let rest = along p w (step p s c).state cs t k def (more (is_call_of t k e) m) (more (is_leave_of t k e) n) is_def runs.1
    (one_step p w s c t k def m n is_def runs.0 holds) in
    subst (λ i. Holds p t k def (state_after p (step p s c).state cs) i (n + count_by (is_leave_of t k) (e ∷ es))) (count_front (is_call_of t k) e es m)
    (subst (Holds p t k def (state_after p (step p s c).state cs) (more (is_call_of t k e) m + count_by (is_call_of t k) es))
    (count_front (is_leave_of t k) e es n) rest)

at_opening : (p : Program) (t k : ℕ) (def : TaskDef) → slice_get p.tasks.items t ≡ Some def → Holds p t k def (opening p) 0 0
at_opening p t k def is_def = record {
  was = waiting_task;
  is_task = at_replicate (length p.tasks.items) waiting_task t (slice_get_within p.tasks.items t def is_def);
  account = fresh p t k def (opening p).exchange phase.Waiting 0 0 refl refl refl;
}

-- the account of a legal history
of_history : (p : Program) (w : ℕ) (entries : List Entry) (statuses : List Status) → IsLegal p w entries statuses → (t k : ℕ) (def : TaskDef)
    → slice_get p.tasks.items t ≡ Some def
    → Holds p t k def (final p entries) (count_by (is_call_of t k) entries) (count_by (is_leave_of t k) entries)
of_history p w entries statuses legal t k def is_def =
    let es = entries_after p (opening p) (callers p entries) in
    let whole = along p w (opening p) (callers p entries) t k def 0 0 is_def legal.runs (at_opening p t k def is_def) in
    subst (λ (xs : List Entry). Holds p t k def (final p entries) (count_by (is_call_of t k) xs) (count_by (is_leave_of t k) xs)) (sym legal.replies)
    (subst (Holds p t k def (final p entries) (count_by (is_call_of t k) es)) (from_zero (count_by (is_leave_of t k) es))
    (subst (λ i. Holds p t k def (final p entries) i (0 + count_by (is_leave_of t k) es)) (from_zero (count_by (is_call_of t k) es)) whole))

pub left_once : (p : Program) (w : ℕ) (entries : List Entry) (statuses : List Status) → IsLegal p w entries statuses → (t k : ℕ) (def : TaskDef)
    → slice_get p.tasks.items t ≡ Some def
    → count_by (is_leave_of t k) entries ≤ 1
left_once p w entries statuses legal t k def is_def = (of_history p w entries statuses legal t k def is_def).account.once

pub others_not_left : (p : Program) (w : ℕ) (entries : List Entry) (statuses : List Status) → IsLegal p w entries statuses → (t k : ℕ) (def : TaskDef)
    → slice_get p.tasks.items t ≡ Some def → is_blocking_call (slice_get def.body.items k) ≡ false → count_by (is_leave_of t k) entries ≡ 0
others_not_left p w entries statuses legal t k def is_def none = (of_history p w entries statuses legal t k def is_def).account.never none

-- a task that stands in an operation at a quiet end awaits a request that is incomplete
within_in : (k : ℕ) (at : Phase) → is_within k at ≡ true → at ≡ phase.In k
within_in k phase.Waiting e = absurd (cc)
within_in k (phase.At j) e = absurd (cc)
within_in k (phase.In j) e = ap phase.In (equal_of j k e)
within_in k phase.Ended e = absurd (cc)
within_in k phase.Returned e = absurd (cc)
within_in k phase.Released e = absurd (cc)

waits : (p : Program) (s : State) (t k : ℕ) (def : TaskDef) (m n : ℕ) → slice_get p.tasks.items t ≡ Some def → IsQuiet p s
    → (h : Holds p t k def s m n) → is_within k h.was.phase ≡ true → AreComplete p s.exchange (awaited t def k) → ⊥
waits p s t k def m n is_def quiet h within complete = quiet t (record {
  def = def;
  task = h.was;
  is_def = is_def;
  is_task = h.is_task;
  enabled = subst (MayMoveAt p s.tasks s.exchange t def h.was) (sym (within_in k h.was.phase within)) complete;
})

either_bool : (b : Bool) → (b ≡ true) ⊎ (b ≡ false)
either_bool true = inl refl
either_bool false = inr refl

pub complete_left : (p : Program) (w : ℕ) (entries : List Entry) (statuses : List Status) → IsLegal p w entries statuses → IsQuiet p (final p entries)
    → (t k : ℕ) (def : TaskDef) → slice_get p.tasks.items t ≡ Some def → is_blocking_call (slice_get def.body.items k) ≡ true
    → 1 ≤ count_by (is_call_of t k) entries
    → (count_by (is_leave_of t k) entries ≡ 1) ↔ AreComplete p (final p entries).exchange (awaited t def k)
complete_left p w entries statuses legal quiet t k def is_def blocking calls =
    let h = of_history p w entries statuses legal t k def is_def in
    elim (either_bool (is_within k h.was.phase)) [
      | inl within ↦ (
        λ once. let none = h.account.within within in absurd (omega arith),
        λ complete. absurd (waits p (final p entries) t k def _ _ is_def quiet h within complete),
      )
      | inr outside ↦ let d = h.account.done blocking calls outside in (λ _. d.1, λ _. d.0)
    ]
