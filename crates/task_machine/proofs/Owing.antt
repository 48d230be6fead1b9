-- Nothing is owed after a step but what was owed before it or what the move opened; and what a call tells of it.
use Rattle.std.proofs.Common.{◌≡◌, ◌≢◌, ℕ, ◌+◌, Bool, true, false, ◌&&◌, ◌||◌, cond, ◌⊎◌, List, [], ◌∷◌, ◌++◌, length, drop, slice_get, slice_set}
use Rattle.std.proofs.Common.{Option, Some, None}
use Rattle.std.proofs.Common.{refl, sym, ap, ◌∙◌, subst, inl, inr, arith}
use Rattle.std.specs.Prelude.{not, option_map, nat_lt}
use Rattle.std.specs.List.{list_any}
use Rattle.std.proofs.lemmas.Bool.{or_cases, or_left, or_right, false≢true, both_ways, false_from_ne_true}
use Rattle.std.proofs.lemmas.List.Folds.{list_any-append}
use Rattle.std.proofs.lemmas.List.Sums.{sum_by-cons}
use Rattle.rt_base.specs.declared.data.ReqNo.{ReqNo}
use Rattle.rt_base.specs.declared.data.Phase.{Phase}
use Rattle.rt_base.specs.declared.data.Phase.TheVariants as phase
use Rattle.rt_base.specs.declared.data.Handle.{Handle}
use Rattle.rt_base.specs.declared.data.Op.{Op}
use Rattle.rt_base.specs.declared.data.Op.TheVariants as op
use Rattle.rt_base.specs.declared.data.Entry.TheVariants as entry
use Rattle.rt_base.specs.declared.data.TaskDef.{TaskDef}
use Rattle.rt_base.specs.declared.data.Program.{Program}
use Rattle.rt_base.specs.Operations.{task_no, request, blocks, nth_at, named_requests, awaited, awaited_by, by_parts_of}
use Rattle.rt_base.specs.Matching.{same_request}
use Rattle.rt_base.specs.Exchange.{Exchange, post, partner}
use Rattle.rt_base.specs.Completion.{is_complete}
use Rattle.rt_base.specs.State.{State, Task}
use Rattle.rt_base.proofs.SameRequest.{one_request}
use Rattle.rt_base.proofs.Postings.{stays_complete}
use Rattle.task_local.specs.Local.{stop_at, stop}
use Rattle.task_local.specs.Packed.{packed}
use Rattle.task_machine.specs.Machine.{Moved, move, move_of, move_at, call_move, post_move, await_move, poll, polled, awaited_at, listened, phase_at, bound_at}
use Rattle.task_machine.specs.Machine.{is_expected, noticed, open_count, open_ones}
use Rattle.task_machine.specs.Owed.{opened, opened_of, opened_at, opened_by, opened_by_posting, IsOneOf, IsOwed}
use Rattle.task_machine.specs.Laws.{is_call_that_opens}
use Rattle.task_machine.proofs.Calls.{Stays}
use Rattle.task_machine.proofs.Lists.{slice_get-set_same, slice_get-set_other}
use Rattle.task_machine.proofs.Items.{either_place}
use Rattle.std.proofs.lemmas.Option.{slice_get_within}

-- a request that is in one of two lists
in_either : (q : ReqNo) (xs ys : List ReqNo) → IsOneOf q (xs ++ ys) → IsOneOf q xs ⊎ IsOneOf q ys
in_either q xs ys has = or_cases (list_any (same_request q) xs) (list_any (same_request q) ys) (sym (list_any-append (same_request q) xs ys) ∙ has)

in_first : (q : ReqNo) (xs ys : List ReqNo) → ys ≡ [] → IsOneOf q (xs ++ ys) → IsOneOf q xs
in_first q xs ys none has = elim (in_either q xs ys has) [
  | inl first ↦ first
  | inr second ↦ absurd (false≢true (ap (list_any (same_request q)) (sym none) ∙ second))
]

-- an incomplete request of a list is among its incomplete ones
kept : (q r : ReqNo) (left : List ReqNo) (b : Bool) → IsOneOf q left → IsOneOf q (cond b left (r ∷ left))
kept q r left true has = has
kept q r left false has = or_right (same_request q r) (list_any (same_request q) left) has

open_has : (p : Program) (x : Exchange) (reqs : List ReqNo) (q : ReqNo) → is_complete p x q ≡ false → IsOneOf q reqs → IsOneOf q (open_ones p x reqs)
open_has p x [] q undone has = has
open_has p x (r ∷ reqs) q undone has = elim (or_cases (same_request q r) (list_any (same_request q) reqs) has) [
  | inl same ↦
      let e : is_complete p x r ≡ false = ap (is_complete p x) (sym (one_request q r same)) ∙ undone in
      ap (λ (b : Bool). list_any (same_request q) (cond b (open_ones p x reqs) (r ∷ open_ones p x reqs))) e
      ∙ or_left (same_request q r) (list_any (same_request q) (open_ones p x reqs)) same
  | inr later ↦ kept q r (open_ones p x reqs) (is_complete p x r) (open_has p x reqs q undone later)
]

-- a task that has run its local operations awaits nothing
stop_silent : (t : ℕ) (def : TaskDef) (j : ℕ) (ops : List Op) → awaited_at t (Some def) (Some (stop_at j ops)) ≡ []
stop_silent t def j [] = refl
stop_silent t def j (op.Compute kind dst left right value step ∷ ops) = stop_silent t def (j + 1) ops
stop_silent t def j (op.Post how span peer tag comm status ∷ ops) = refl
stop_silent t def j (op.Await later handles status ∷ ops) = refl

pub stands_silent : (t : ℕ) (def : TaskDef) (k : ℕ) → awaited_at t (Some def) (Some (stop def k)) ≡ []
unfolding stop
stands_silent t def k = stop_silent t def k (drop k def.body.items)

-- what the task of a request is told of
listened_at : (p : Program) (t : ℕ) (def : TaskDef) (tasks : List Task) (task : Task) → slice_get p.tasks.items t ≡ Some def → slice_get tasks t ≡ Some task
    → listened p t (phase_at tasks t) (bound_at tasks t) ≡ task.bound ++ awaited_at t (Some def) (Some task.phase)
listened_at p t def tasks task is_def is_task =
    ap (λ (o : Option Task). listened p t (option_map (λ (z : Task). z.phase) o) (option_map (λ (z : Task). z.bound) o)) is_task
    ∙ ap (λ (d : Option TaskDef). task.bound ++ awaited_at t d (Some task.phase)) is_def

pub expected_here : (p : Program) (tasks : List Task) (t : ℕ) (def : TaskDef) (task : Task) (q : ReqNo) → slice_get p.tasks.items t ≡ Some def
    → slice_get tasks t ≡ Some task → q.task.0 ≡ t
    → is_expected p tasks q ≡ list_any (same_request q) (task.bound ++ awaited_at t (Some def) (Some task.phase))
unfolding is_expected
expected_here p tasks t def task q is_def is_task same =
    ap (λ (u : ℕ). list_any (same_request q) (listened p u (phase_at tasks u) (bound_at tasks u))) same
    ∙ ap (list_any (same_request q)) (listened_at p t def tasks task is_def is_task)

pub expected_aside : (p : Program) (tasks : List Task) (t : ℕ) (now : Task) (q : ReqNo) → q.task.0 ≢ t
    → is_expected p (slice_set tasks t now) q ≡ is_expected p tasks q
unfolding is_expected
expected_aside p tasks t now q other =
    ap (λ (o : Option Task). list_any (same_request q) (listened p q.task.0 (option_map (λ (z : Task). z.phase) o) (option_map (λ (z : Task). z.bound) o)))
    (slice_get-set_other tasks t q.task.0 now other)

-- what a move does to what is owed: of what its task is told after it and is incomplete, it was told before, or the move opened it
record Turns (p : Program) (s : State) (t : ℕ) (def : TaskDef) (was : Task) (after : State) (new : List ReqNo) : Type 0 where
  now : Task
  tasks : after.tasks ≡ slice_set s.tasks t now
  stays : Stays p s.exchange after.exchange
  told : (q : ReqNo) → is_complete p after.exchange q ≡ false → IsOneOf q (now.bound ++ awaited_at t (Some def) (Some now.phase))
      → IsOneOf q was.bound ⊎ IsOneOf q new
  noted : (q : ReqNo) → IsOneOf q after.notices → IsOwed p s q

-- nothing is owed after it but what was owed or is new
abbrev Owes : Program → State → State → List ReqNo → Type 0
Owes p s after new = (q : ReqNo) → IsOwed p after q → IsOwed p s q ⊎ IsOneOf q new

own_owed : (p : Program) (s : State) (t : ℕ) (def : TaskDef) (was : Task) (after : State) (new : List ReqNo) (q : ReqNo)
    → slice_get p.tasks.items t ≡ Some def
    → slice_get s.tasks t ≡ Some was → Turns p s t def was after new → q.task.0 ≡ t → is_complete p s.exchange q ≡ false
    → is_complete p after.exchange q ≡ false → is_expected p after.tasks q ≡ true → IsOwed p s q ⊎ IsOneOf q new
own_owed p s t def was after new q is_def is_task turns same undone still_open expected =
    let set = slice_get-set_same s.tasks t turns.now (slice_get_within s.tasks t was is_task) in
    let here = expected_here p after.tasks t def turns.now q is_def (ap (λ (ts : List Task). slice_get ts t) turns.tasks ∙ set) same in
    elim (turns.told q still_open (sym here ∙ expected)) [
      | inl bound ↦
          let rest = awaited_at t (Some def) (Some was.phase) in
          let told = or_left (list_any (same_request q) was.bound) (list_any (same_request q) rest) bound in
          inl (inl (undone, expected_here p s.tasks t def was q is_def is_task same ∙ list_any-append (same_request q) was.bound rest ∙ told))
      | inr opens ↦ inr opens
    ]

open_before : (p : Program) (x y : Exchange) (q : ReqNo) → Stays p x y → is_complete p y q ≡ false → is_complete p x q ≡ false
open_before p x y q stays undone = false_from_ne_true (is_complete p x q) (λ complete. both_ways (is_complete p y q) undone (stays q complete))

owes : (p : Program) (s : State) (t : ℕ) (def : TaskDef) (was : Task) (after : State) (new : List ReqNo) → slice_get p.tasks.items t ≡ Some def
    → slice_get s.tasks t ≡ Some was → Turns p s t def was after new → Owes p s after new
owes p s t def was after new is_def is_task turns q (inr stands) = inl (turns.noted q stands)
owes p s t def was after new is_def is_task turns q (inl owed) =
    let undone = open_before p s.exchange after.exchange q turns.stays owed.0 in
    elim (either_place q.task.0 t) [
      | inl same ↦ own_owed p s t def was after new q is_def is_task turns same undone owed.0 owed.1
      | inr other ↦
          inl (inl (undone, sym (expected_aside p s.tasks t turns.now q other) ∙ ap (λ (ts : List Task). is_expected p ts q) (sym turns.tasks) ∙ owed.1))
    ]

-- a move that leaves the exchange and the notices, and after which its task awaits nothing
turns_silent : (p : Program) (s : State) (t : ℕ) (def : TaskDef) (was now : Task) (after : State) (new : List ReqNo)
    → after.tasks ≡ slice_set s.tasks t now → after.exchange ≡ s.exchange → after.notices ≡ s.notices → now.bound ≡ was.bound
    → awaited_at t (Some def) (Some now.phase) ≡ [] → Turns p s t def was after new
turns_silent p s t def was now after new tasks exchange notices bound silent = record {
  now = now;
  tasks = tasks;
  stays = λ q complete. ap (λ (x : Exchange). is_complete p x q) exchange ∙ complete;
  told = λ q undone has. inl (subst (IsOneOf q) bound (in_first q now.bound _ silent has));
  noted = λ q has. inr (subst (IsOneOf q) notices has);
}

-- a notice that a posting adds was owed: its request was incomplete, and a task was to be told of it
noted_by : (p : Program) (s : State) (r q : ReqNo) (complete expected : Bool) → is_complete p s.exchange r ≡ complete → is_expected p s.tasks r ≡ expected
    → IsOneOf q (cond (not complete && expected) (r ∷ []) []) → IsOwed p s q
noted_by p s r q true expected was asked has = absurd (false≢true has)
noted_by p s r q false false was asked has = absurd (false≢true has)
noted_by p s r q false true was asked has = elim (or_cases (same_request q r) false has) [
  | inl same ↦ inl (ap (is_complete p s.exchange) (one_request q r same) ∙ was, ap (is_expected p s.tasks) (one_request q r same) ∙ asked)
  | inr none ↦ absurd (false≢true none)
]

noted_of : (p : Program) (s : State) (o : Option ReqNo) (q : ReqNo) → IsOneOf q (noticed p s.tasks s.exchange o) → IsOwed p s q
noted_of p s None q has = absurd (false≢true has)
noted_of p s (Some r) q has = noted_by p s r q (is_complete p s.exchange r) (is_expected p s.tasks r) refl refl has

noted_after : (p : Program) (s : State) (o : Option ReqNo) (q : ReqNo) → IsOneOf q (s.notices ++ noticed p s.tasks s.exchange o) → IsOwed p s q
noted_after p s o q has = elim (in_either q s.notices (noticed p s.tasks s.exchange o) has) [ inl stood ↦ inr stood | inr added ↦ noted_of p s o q added ]

-- what a task awaits in an operation is what is opened of it
awaits : (p : Program) (x : Exchange) (t k : ℕ) (def : TaskDef) (reqs : List ReqNo) (q : ReqNo) (bound : List ReqNo) → awaited t def k ≡ reqs
    → is_complete p x q ≡ false → IsOneOf q (bound ++ awaited_at t (Some def) (Some (phase.In k))) → IsOneOf q bound ⊎ IsOneOf q (open_ones p x reqs)
awaits p x t k def reqs q bound is undone has = elim (in_either q bound (awaited t def k) has) [
  | inl before ↦ inl before
  | inr inside ↦ inr (open_has p x reqs q undone (subst (IsOneOf q) is inside))
]

awaited_is : (t k : ℕ) (def : TaskDef) (o : Option Op) → slice_get def.body.items k ≡ o → awaited t def k ≡ awaited_by t (nth_at def k) o
unfolding awaited
awaited_is t k def o here = ap (awaited_by t (nth_at def k)) here

post_turns : (p : Program) (s : State) (t : ℕ) (def : TaskDef) (was : Task) (k : ℕ) (blocking : Bool)
    → (blocking ≡ true → awaited t def k ≡ request t (nth_at def k) ∷ [])
    → Turns p s t def was (post_move p s t def was k blocking).state (opened_by_posting p s t def was k blocking)
post_turns p s t def was k false awaits_own = record {
  now = _;
  tasks = refl;
  stays = λ q. stays_complete p s.exchange (request t (nth_at def k)) q (packed def k was.copy);
  told = λ q undone has. inl (in_first q was.bound _ (stands_silent t def (k + 1)) has);
  noted = λ q. noted_after p s _ q;
}
post_turns p s t def was k true awaits_own = record {
  now = _;
  tasks = refl;
  stays = λ q. stays_complete p s.exchange (request t (nth_at def k)) q (packed def k was.copy);
  told = λ q undone has. awaits p _ t k def (request t (nth_at def k) ∷ []) q was.bound (awaits_own refl) undone has;
  noted = λ q. noted_after p s _ q;
}

await_turns : (p : Program) (s : State) (t : ℕ) (def : TaskDef) (was : Task) (k : ℕ) (handles : List Handle) (later : Bool)
    → awaited t def k ≡ named_requests t handles
    → Turns p s t def was (await_move p s t def was k handles later).state (open_ones p s.exchange (named_requests t handles))
await_turns p s t def was k handles false is = record {
  now = _;
  tasks = refl;
  stays = λ q complete. complete;
  told = λ q undone has. awaits p s.exchange t k def (named_requests t handles) q was.bound is undone has;
  noted = λ q has. inr has;
}
await_turns p s t def was k handles true is = record {
  now = _;
  tasks = refl;
  stays = λ q complete. complete;
  told = λ q undone has. in_either q was.bound (open_ones p s.exchange (named_requests t handles))
      (in_first q (was.bound ++ open_ones p s.exchange (named_requests t handles)) _ (stands_silent t def (k + 1)) has);
  noted = λ q has. inr has;
}

call_owes : (p : Program) (s : State) (t : ℕ) (def : TaskDef) (was : Task) (k : ℕ) (o : Option Op) → slice_get p.tasks.items t ≡ Some def
    → slice_get s.tasks t ≡ Some was → slice_get def.body.items k ≡ o
    → Owes p s (call_move p s t def was k o).state (opened_by p s t def was k o)
call_owes p s t def was k None is_def is_task here = λ q owed. inl owed
call_owes p s t def was k (Some (op.Compute kind dst left right value step)) is_def is_task here = λ q owed. inl owed
call_owes p s t def was k (Some (op.Post how span peer tag comm status)) is_def is_task here =
    owes p s t def was _ (opened_by p s t def was k (Some (op.Post how span peer tag comm status))) is_def is_task
    (post_turns p s t def was k (blocks how) (λ blocking. awaited_is t k def _ here
    ∙ ap (λ (b : Bool). cond b (request t (nth_at def k) ∷ []) []) blocking))
call_owes p s t def was k (Some (op.Await later handles status)) is_def is_task here =
    owes p s t def was _ (opened_by p s t def was k (Some (op.Await later handles status))) is_def is_task
    (await_turns p s t def was k handles.items later (awaited_is t k def _ here))

at_owes : (p : Program) (s : State) (t : ℕ) (def : TaskDef) (was : Task) (at : Phase) → slice_get p.tasks.items t ≡ Some def
    → slice_get s.tasks t ≡ Some was → Owes p s (move_at p s t def was at).state (opened_at p s t def was at)
at_owes p s t def was phase.Waiting is_def is_task =
    let moved = move_at p s t def was phase.Waiting in
    owes p s t def was moved.state [] is_def is_task (turns_silent p s t def was _ moved.state [] refl refl refl refl (stands_silent t def 0))
at_owes p s t def was (phase.At k) is_def is_task = call_owes p s t def was k (slice_get def.body.items k) is_def is_task refl
at_owes p s t def was (phase.In k) is_def is_task =
    let moved = move_at p s t def was (phase.In k) in
    owes p s t def was moved.state [] is_def is_task (turns_silent p s t def was _ moved.state [] refl refl refl refl (stands_silent t def (k + 1)))
at_owes p s t def was phase.Ended is_def is_task =
    let moved = move_at p s t def was phase.Ended in
    owes p s t def was moved.state [] is_def is_task (turns_silent p s t def was _ moved.state [] refl refl refl refl refl)
at_owes p s t def was phase.Returned is_def is_task =
    let moved = move_at p s t def was phase.Returned in
    owes p s t def was moved.state [] is_def is_task (turns_silent p s t def was _ moved.state [] refl refl refl refl refl)
at_owes p s t def was phase.Released is_def is_task = λ q owed. inl owed

of_owes : (p : Program) (s : State) (t : ℕ) (def : Option TaskDef) (was : Option Task) → slice_get p.tasks.items t ≡ def → slice_get s.tasks t ≡ was
    → Owes p s (move_of p s t def was).state (opened_of p s t def was)
of_owes p s t None was is_def is_task = λ q owed. inl owed
of_owes p s t (Some def) None is_def is_task = λ q owed. inl owed
of_owes p s t (Some def) (Some was) is_def is_task = at_owes p s t def was was.phase is_def is_task

pub move_owes : (p : Program) (s : State) (t : ℕ) (q : ReqNo) → IsOwed p (move p s t).state q → IsOwed p s q ⊎ IsOneOf q (opened p s t)
unfolding move opened
move_owes p s t q owed = of_owes p s t (slice_get p.tasks.items t) (slice_get s.tasks t) refl refl q owed

-- a poll takes a notice, and what is owed after it was owed before
polled_owes : (p : Program) (s : State) (poller : ℕ) (notices : List ReqNo) (q : ReqNo) → s.notices ≡ notices → IsOwed p (polled s poller notices).state q
    → IsOwed p s q
polled_owes p s poller [] q is owed = owed
polled_owes p s poller (r ∷ rest) q is (inl owed) = inl owed
polled_owes p s poller (r ∷ rest) q is (inr stands) =
    inr (ap (list_any (same_request q)) is ∙ or_right (same_request q r) (list_any (same_request q) rest) stands)

pub poll_owes : (p : Program) (s : State) (poller : ℕ) (q : ReqNo) → IsOwed p (poll s poller).state q → IsOwed p s q
unfolding poll
poll_owes p s poller q owed = polled_owes p s poller s.notices q refl owed

-- how many are incomplete is how many incomplete ones there are
one_count : (b : Bool) (r : ReqNo) (left : List ReqNo) (n : ℕ) → n ≡ length left → cond (not b) 1 0 + n ≡ length (cond b left (r ∷ left))
one_count true r left n e = omega (arith, e)
one_count false r left n e = omega (arith, e)

pub count_open : (p : Program) (x : Exchange) (reqs : List ReqNo) → open_count p x reqs ≡ length (open_ones p x reqs)
unfolding open_count
count_open p x [] = refl
count_open p x (r ∷ reqs) =
    sum_by-cons (λ (q : ReqNo). cond (not (is_complete p x q)) 1 0) r reqs
    ∙ one_count (is_complete p x r) r (open_ones p x reqs) _ (count_open p x reqs)

-- the entry of a call
post_tells : (p : Program) (s : State) (t : ℕ) (def : TaskDef) (was : Task) (k : ℕ) (blocking : Bool) → blocking ≡ true
    → (post_move p s t def was k blocking).entry ≡ entry.Call (task_no t) k (length (opened_by_posting p s t def was k blocking))
post_tells p s t def was k false blocking = absurd (false≢true blocking)
post_tells p s t def was k true blocking = ap (entry.Call (task_no t) k) (count_open p _ (request t (nth_at def k) ∷ []))

await_tells : (p : Program) (s : State) (t : ℕ) (def : TaskDef) (was : Task) (k : ℕ) (handles : List Handle) (later : Bool)
    → (await_move p s t def was k handles later).entry ≡ entry.Call (task_no t) k (length (open_ones p s.exchange (named_requests t handles)))
await_tells p s t def was k handles false = ap (entry.Call (task_no t) k) (count_open p s.exchange (named_requests t handles))
await_tells p s t def was k handles true = ap (entry.Call (task_no t) k) (count_open p s.exchange (named_requests t handles))

call_tells : (p : Program) (s : State) (t : ℕ) (def : TaskDef) (was : Task) (k : ℕ) (o : Option Op) → is_call_that_opens o ≡ true
    → (call_move p s t def was k o).entry ≡ entry.Call (task_no t) k (length (opened_by p s t def was k o))
call_tells p s t def was k None opens = absurd (false≢true opens)
call_tells p s t def was k (Some (op.Compute kind dst left right value step)) opens = absurd (false≢true opens)
call_tells p s t def was k (Some (op.Post how span peer tag comm status)) opens = post_tells p s t def was k (blocks how) opens
call_tells p s t def was k (Some (op.Await later handles status)) opens = await_tells p s t def was k handles.items later

at_tells : (p : Program) (s : State) (t : ℕ) (def : TaskDef) (was : Task) (at : Phase) (k : ℕ) → at ≡ phase.At k
    → is_call_that_opens (slice_get def.body.items k) ≡ true
    → (move_at p s t def was at).entry ≡ entry.Call (task_no t) k (length (opened_at p s t def was at))
at_tells p s t def was at k is opens =
    subst (λ (a : Phase). (move_at p s t def was a).entry ≡ entry.Call (task_no t) k (length (opened_at p s t def was a))) (sym is)
    (call_tells p s t def was k (slice_get def.body.items k) opens)

pub calls_tell : (p : Program) (s : State) (t k : ℕ) (def : TaskDef) (was : Task) → slice_get p.tasks.items t ≡ Some def → slice_get s.tasks t ≡ Some was
    → was.phase ≡ phase.At k → is_call_that_opens (slice_get def.body.items k) ≡ true
    → (move p s t).entry ≡ entry.Call (task_no t) k (length (opened p s t))
unfolding move opened
calls_tell p s t k def was is_def is_task at opens =
    rw (is_def, is_task) (at_tells p s t def was was.phase k at opens)
