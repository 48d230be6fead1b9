-- What a move makes of what it opens, and what it leaves expected.
use Rattle.std.proofs.Common.{◌≡◌, ℕ, ◌+◌, Bool, true, false, cond, ◌⊎◌, List, [], ◌∷◌, ◌++◌, drop, slice_get}
use Rattle.std.proofs.Common.{◌<◌, arith, length, replicate, append_assoc, Option, Some, None, refl, sym, ap, ◌∙◌, subst, inl, inr}
use Rattle.std.specs.Prelude.{option_map}
use Rattle.std.specs.List.{list_any}
use Rattle.std.proofs.lemmas.Bool.{or_cases, false≢true, both_ways}
use Rattle.std.proofs.lemmas.List.{append-nil, length-replicate}
use Rattle.std.proofs.lemmas.Option.{slice_get_within}
use Rattle.rt_base.specs.declared.data.ReqNo.{ReqNo}
use Rattle.rt_base.specs.declared.data.Phase.{Phase}
use Rattle.rt_base.specs.declared.data.Phase.TheVariants as phase
use Rattle.rt_base.specs.declared.data.Handle.{Handle}
use Rattle.rt_base.specs.declared.data.Op.{Op}
use Rattle.rt_base.specs.declared.data.Op.TheVariants as op
use Rattle.rt_base.specs.declared.data.TaskDef.{TaskDef}
use Rattle.rt_base.specs.declared.data.Program.{Program}
use Rattle.rt_base.specs.Operations.{request, blocks, nth_at, named_requests, awaited_by, awaited}
use Rattle.rt_base.specs.Matching.{same_request}
use Rattle.rt_base.specs.Exchange.{Exchange}
use Rattle.rt_base.specs.Completion.{is_complete}
use Rattle.rt_base.specs.State.{State, Task, opening, waiting_task}
use Rattle.rt_base.specs.MayMove.{MayMove, MayMoveAt, AreComplete}
use Rattle.rt_base.proofs.SameRequest.{one_request}
use Rattle.task_local.specs.Local.{stop_at, stop}
use Rattle.task_machine.specs.Machine.{Moved, move, move_at, call_move, post_move, await_move, step, MayStep, awaited_at, listened}
use Rattle.task_machine.specs.Machine.{is_expected, open_ones}
use Rattle.task_machine.specs.Owed.{opened, opened_at, opened_by, opened_by_posting, opened_by_step, IsOneOf}
use Rattle.task_machine.specs.Legal.{IsDefined, state_after}
use Rattle.task_machine.proofs.Rows.{move-row}
use Rattle.task_machine.proofs.Items.{same_some, either_place, at_replicate}
use Rattle.task_machine.proofs.Runs.{step-task, exists_of_move}
use Rattle.task_machine.proofs.Calls.{set_here, step_aside}
use Rattle.task_machine.proofs.Owing.{expected_here}
use Rattle.task_machine.proofs.Others.{leaves_others}
use Rattle.tidy_runs.specs.Openings.{openings, BoundWereOpened, MovesOpen, OpenedAreOwed, ExpectedStays}
use Rattle.tidy_runs.proofs.Bodies.{in_either, in_left, in_right, own_in, open_among}
use Rattle.tidy_runs.proofs.OpenedOnce.{opened-row, opened_own, opened-task}

-- the incomplete ones of a list are incomplete, and where there are none all are complete
undone_by : (p : Program) (x : Exchange) (r q : ReqNo) (left : List ReqNo) (b : Bool) → is_complete p x r ≡ b
    → (IsOneOf q left → is_complete p x q ≡ false) → IsOneOf q (cond b left (r ∷ left)) → is_complete p x q ≡ false
undone_by p x r q left true is rest has = rest has
undone_by p x r q left false is rest has = elim (or_cases (same_request q r) (list_any (same_request q) left) has) [
  | inl same ↦ ap (is_complete p x) (one_request q r same) ∙ is
  | inr later ↦ rest later
]

open_undone : (p : Program) (x : Exchange) (reqs : List ReqNo) (q : ReqNo) → IsOneOf q (open_ones p x reqs) → is_complete p x q ≡ false
open_undone p x [] q has = absurd (false≢true has)
open_undone p x (r ∷ reqs) q has = undone_by p x r q (open_ones p x reqs) (is_complete p x r) refl (open_undone p x reqs q) has

done_by : (r : ReqNo) (left : List ReqNo) (b : Bool) → cond b left (r ∷ left) ≡ [] → (b ≡ true) × (left ≡ [])
done_by r left true none = (refl, none)
done_by r left false none = absurd (cc)

none_undone : (p : Program) (x : Exchange) (reqs : List ReqNo) → open_ones p x reqs ≡ [] → AreComplete p x reqs
none_undone p x [] none = tt
none_undone p x (r ∷ reqs) none =
    let both = done_by r (open_ones p x reqs) (is_complete p x r) none in
    (both.0, none_undone p x reqs both.1)

complete_in : (p : Program) (x : Exchange) (reqs : List ReqNo) (q : ReqNo) → AreComplete p x reqs → IsOneOf q reqs → is_complete p x q ≡ true
complete_in p x [] q complete has = absurd (false≢true has)
complete_in p x (r ∷ reqs) q complete has = elim (or_cases (same_request q r) (list_any (same_request q) reqs) has) [
  | inl same ↦ ap (is_complete p x) (one_request q r same) ∙ complete.0
  | inr later ↦ complete_in p x reqs q complete.1 later
]

-- what a move makes of what it opens
record Row (p : Program) (t : ℕ) (def : TaskDef) (was : Task) (after : State) (new : List ReqNo) : Type 0 where
  task : Task
  now : slice_get after.tasks t ≡ Some task
  came : (k : ℕ) → task.phase ≡ phase.In k → was.phase ≡ phase.At k
  stays : (k : ℕ) → task.phase ≡ phase.In k → task.bound ≡ was.bound
  waits : (k : ℕ) → task.phase ≡ phase.In k → new ≡ open_ones p after.exchange (awaited t def k)
  goes : ((k : ℕ) → task.phase ≡ phase.In k → ⊥) → task.bound ≡ was.bound ++ new
  incomplete : (q : ReqNo) → IsOneOf q new → is_complete p after.exchange q ≡ false

-- the task is in no operation after it
row_on : (p : Program) (t : ℕ) (def : TaskDef) (was now : Task) (after : State) (new : List ReqNo) → slice_get after.tasks t ≡ Some now
    → ((k : ℕ) → now.phase ≡ phase.In k → ⊥) → now.bound ≡ was.bound ++ new → ((q : ReqNo) → IsOneOf q new → is_complete p after.exchange q ≡ false)
    → Row p t def was after new
row_on p t def was now after new here outside bound undone = record {
  task = now;
  now = here;
  came = λ k is. absurd (outside k is);
  stays = λ k is. absurd (outside k is);
  waits = λ k is. absurd (outside k is);
  goes = λ _. bound;
  incomplete = undone;
}

-- it opens nothing
row_silent : (p : Program) (t : ℕ) (def : TaskDef) (was now : Task) (after : State) → slice_get after.tasks t ≡ Some now
    → ((k : ℕ) → now.phase ≡ phase.In k → ⊥) → now.bound ≡ was.bound → Row p t def was after []
row_silent p t def was now after here outside bound =
    row_on p t def was now after [] here outside (bound ∙ sym (append-nil was.bound)) (λ q has. absurd (false≢true has))

-- the task is in operation k after it
same_place : (k j : ℕ) → phase.In k ≡ phase.In j → k ≡ j
same_place k j is = cc

row_into : (p : Program) (t : ℕ) (def : TaskDef) (was now : Task) (after : State) (k : ℕ) (named : List ReqNo) → slice_get after.tasks t ≡ Some now
    → now.phase ≡ phase.In k → was.phase ≡ phase.At k → now.bound ≡ was.bound → awaited t def k ≡ named
    → Row p t def was after (open_ones p after.exchange named)
row_into p t def was now after k named here inside at bound awaits = record {
  task = now;
  now = here;
  came = λ j is. at ∙ ap phase.At (same_place k j (sym inside ∙ is));
  stays = λ j is. bound;
  waits = λ j is. ap (open_ones p after.exchange) (sym awaits ∙ ap (awaited t def) (same_place k j (sym inside ∙ is)));
  goes = λ outside. absurd (outside k inside);
  incomplete = λ q has. open_undone p after.exchange named q has;
}

-- after its local operations a task is in none
stop_at_outside : (j : ℕ) (ops : List Op) (k : ℕ) → stop_at j ops ≡ phase.In k → ⊥
stop_at_outside j [] k is = absurd (cc)
stop_at_outside j (op.Compute kind dst left right value step ∷ ops) k is = stop_at_outside (j + 1) ops k is
stop_at_outside j (op.Post how span peer tag comm status ∷ ops) k is = absurd (cc)
stop_at_outside j (op.Await later handles status ∷ ops) k is = absurd (cc)

stop_outside : (def : TaskDef) (j k : ℕ) → stop def j ≡ phase.In k → ⊥
unfolding stop
stop_outside def j k is = stop_at_outside j (drop j def.body.items) k is

awaited_is : (t k : ℕ) (def : TaskDef) (o : Option Op) → slice_get def.body.items k ≡ o → awaited t def k ≡ awaited_by t (nth_at def k) o
unfolding awaited
awaited_is t k def o here = ap (awaited_by t (nth_at def k)) here

at_outside : (was : Task) (j k : ℕ) → was.phase ≡ phase.At j → was.phase ≡ phase.In k → ⊥
at_outside was j k at is = let same : phase.At j ≡ phase.In k = sym at ∙ is in absurd (cc)

post_row : (p : Program) (s : State) (t : ℕ) (def : TaskDef) (was : Task) (k : ℕ) (blocking : Bool) → slice_get s.tasks t ≡ Some was
    → was.phase ≡ phase.At k → (blocking ≡ true → awaited t def k ≡ request t (nth_at def k) ∷ [])
    → Row p t def was (post_move p s t def was k blocking).state (opened_by_posting p s t def was k blocking)
post_row p s t def was k false is_task at awaits =
    row_silent p t def was _ (post_move p s t def was k false).state (set_here s.tasks t was _ is_task) (stop_outside def (k + 1)) refl
post_row p s t def was k true is_task at awaits =
    row_into p t def was _ (post_move p s t def was k true).state k (request t (nth_at def k) ∷ []) (set_here s.tasks t was _ is_task) refl at refl
    (awaits refl)

await_row : (p : Program) (s : State) (t : ℕ) (def : TaskDef) (was : Task) (k : ℕ) (handles : List Handle) (later : Bool) → slice_get s.tasks t ≡ Some was
    → was.phase ≡ phase.At k → awaited t def k ≡ named_requests t handles
    → Row p t def was (await_move p s t def was k handles later).state (open_ones p s.exchange (named_requests t handles))
await_row p s t def was k handles false is_task at awaits =
    row_into p t def was _ (await_move p s t def was k handles false).state k (named_requests t handles) (set_here s.tasks t was _ is_task) refl at refl awaits
await_row p s t def was k handles true is_task at awaits =
    row_on p t def was _ (await_move p s t def was k handles true).state (open_ones p s.exchange (named_requests t handles))
    (set_here s.tasks t was _ is_task) (stop_outside def (k + 1)) refl (open_undone p s.exchange (named_requests t handles))

call_row : (p : Program) (s : State) (t : ℕ) (def : TaskDef) (was : Task) (k : ℕ) (o : Option Op) → slice_get s.tasks t ≡ Some was → was.phase ≡ phase.At k
    → slice_get def.body.items k ≡ o → Row p t def was (call_move p s t def was k o).state (opened_by p s t def was k o)
call_row p s t def was k None is_task at here = row_silent p t def was was s is_task (λ j. at_outside was k j at) refl
call_row p s t def was k (Some (op.Compute kind dst left right value step)) is_task at here =
    row_silent p t def was was s is_task (λ j. at_outside was k j at) refl
call_row p s t def was k (Some (op.Post how span peer tag comm status)) is_task at here =
    post_row p s t def was k (blocks how) is_task at
    (λ blocking. awaited_is t k def _ here ∙ ap (λ (b : Bool). cond b (request t (nth_at def k) ∷ []) []) blocking)
call_row p s t def was k (Some (op.Await later handles status)) is_task at here =
    await_row p s t def was k handles.items later is_task at (awaited_is t k def _ here)

at_row : (p : Program) (s : State) (t : ℕ) (def : TaskDef) (was : Task) (at : Phase) → slice_get s.tasks t ≡ Some was → was.phase ≡ at
    → MayMoveAt p s.tasks s.exchange t def was at → Row p t def was (move_at p s t def was at).state (opened_at p s t def was at)
at_row p s t def was phase.Waiting is_task at may =
    row_silent p t def was _ (move_at p s t def was phase.Waiting).state (set_here s.tasks t was _ is_task) (stop_outside def 0) refl
at_row p s t def was (phase.At k) is_task at may = call_row p s t def was k (slice_get def.body.items k) is_task at refl
at_row p s t def was (phase.In k) is_task at may =
    row_silent p t def was _ (move_at p s t def was (phase.In k)).state (set_here s.tasks t was _ is_task) (stop_outside def (k + 1)) refl
at_row p s t def was phase.Ended is_task at may =
    row_silent p t def was _ (move_at p s t def was phase.Ended).state (set_here s.tasks t was _ is_task) (λ j is. absurd (cc)) refl
at_row p s t def was phase.Returned is_task at may =
    row_silent p t def was _ (move_at p s t def was phase.Returned).state (set_here s.tasks t was _ is_task) (λ j is. absurd (cc)) refl
at_row p s t def was phase.Released is_task at may = absurd may

-- where it opened nothing the task may go on
may_go_on : (p : Program) (s : State) (t k : ℕ) (def : TaskDef) (task : Task) → slice_get p.tasks.items t ≡ Some def → slice_get s.tasks t ≡ Some task
    → task.phase ≡ phase.In k → open_ones p s.exchange (awaited t def k) ≡ [] → MayMove p s t
may_go_on p s t k def task is_def is_task inside none = record {
  def = def;
  task = task;
  is_def = is_def;
  is_task = is_task;
  enabled = subst (MayMoveAt p s.tasks s.exchange t def task) (sym inside) (none_undone p s.exchange (awaited t def k) none);
}

move_row : (p : Program) (s : State) (t : ℕ) (may : MayMove p s t) → Row p t may.def may.task (move p s t).state (opened p s t)
move_row p s t may =
    subst (λ (m : Moved). Row p t may.def may.task m.state (opened p s t))
    (sym (move-row p s t may.def may.task may.task.phase may.is_def may.is_task refl))
    (subst (Row p t may.def may.task (move_at p s t may.def may.task may.task.phase).state) (sym (opened-row p s t may.def may.task may.is_def may.is_task))
    (at_row p s t may.def may.task may.task.phase may.is_task refl may.enabled))

pub moves_open : MovesOpen
moves_open p s t may =
    let row = move_row p s t may in
    record {
      def = may.def;
      before = may.task;
      after = row.task;
      is_def = may.is_def;
      was = may.is_task;
      now = row.now;
      came = row.came;
      stays = row.stays;
      waits = row.waits;
      goes = row.goes;
      incomplete = row.incomplete;
      none_open = λ k inside none.
          may_go_on p (move p s t).state t k may.def row.task may.is_def row.now inside (sym (row.waits k inside) ∙ none);
    }

-- a task is in an operation, or it is not
in_or_not : (at : Phase) → ((k : ℕ) × (at ≡ phase.In k)) ⊎ ((k : ℕ) → at ≡ phase.In k → ⊥)
in_or_not phase.Waiting = inr (λ k is. absurd (cc))
in_or_not (phase.At j) = inr (λ k is. absurd (cc))
in_or_not (phase.In j) = inl (j, refl)
in_or_not phase.Ended = inr (λ k is. absurd (cc))
in_or_not phase.Returned = inr (λ k is. absurd (cc))
in_or_not phase.Released = inr (λ k is. absurd (cc))

-- what a move opens is bound or awaited after it
told_of : (p : Program) (t : ℕ) (def : TaskDef) (was : Task) (after : State) (new : List ReqNo) (q : ReqNo) → (row : Row p t def was after new)
    → IsOneOf q new → IsOneOf q (row.task.bound ++ awaited_at t (Some def) (Some row.task.phase))
told_of p t def was after new q row has =
    let waits = awaited_at t (Some def) (Some row.task.phase) in
    elim (in_or_not row.task.phase) [
      | inl inside ↦
          let among : IsOneOf q (awaited t def inside.0) =
          open_among p after.exchange q (awaited t def inside.0) (subst (IsOneOf q) (row.waits inside.0 inside.1) has) in
          in_right q row.task.bound waits (subst (λ (at : Phase). IsOneOf q (awaited_at t (Some def) (Some at))) (sym inside.1) among)
      | inr outside ↦ in_left q row.task.bound waits (subst (IsOneOf q) (sym (row.goes outside)) (in_right q was.bound new has))
    ]

pub opened_owed : OpenedAreOwed
opened_owed p s t may q has =
    let row = move_row p s t may in
    let own = own_in t (opened p s t) q (opened_own p s t) has in
    inl (
      row.incomplete q has,
      expected_here p (move p s t).state.tasks t may.def row.task q may.is_def row.now own
          ∙ told_of p t may.def may.task (move p s t).state (opened p s t) q row has,
    )

-- an incomplete request that is expected stays so
still_bound : (p : Program) (t : ℕ) (def : TaskDef) (was : Task) (after : State) (new : List ReqNo) (q : ReqNo) → (row : Row p t def was after new)
    → IsOneOf q was.bound → IsOneOf q row.task.bound
still_bound p t def was after new q row has = elim (in_or_not row.task.phase) [
  | inl inside ↦ subst (IsOneOf q) (sym (row.stays inside.0 inside.1)) has
  | inr outside ↦ subst (IsOneOf q) (sym (row.goes outside)) (in_left q was.bound new has)
]

awaits_none : (p : Program) (tasks : List Task) (x : Exchange) (t : ℕ) (def : TaskDef) (was : Task) (at : Phase) (q : ReqNo)
    → MayMoveAt p tasks x t def was at → is_complete p x q ≡ false → IsOneOf q (awaited_at t (Some def) (Some at)) → ⊥
awaits_none p tasks x t def was phase.Waiting q may undone has = false≢true has
awaits_none p tasks x t def was (phase.At k) q may undone has = false≢true has
awaits_none p tasks x t def was (phase.In k) q may undone has = both_ways (is_complete p x q) undone (complete_in p x (awaited t def k) q may has)
awaits_none p tasks x t def was phase.Ended q may undone has = false≢true has
awaits_none p tasks x t def was phase.Returned q may undone has = false≢true has
awaits_none p tasks x t def was phase.Released q may undone has = false≢true has

expected_same : (p : Program) (old new : List Task) (q : ReqNo) → slice_get new q.task.0 ≡ slice_get old q.task.0
    → is_expected p new q ≡ is_expected p old q
unfolding is_expected
expected_same p old new q same =
    ap (λ (o : Option Task). list_any (same_request q) (listened p q.task.0 (option_map (λ (z : Task). z.phase) o) (option_map (λ (z : Task). z.bound) o))) same

own_expected : (p : Program) (s : State) (t : ℕ) (may : MayMove p s t) (q : ReqNo) → q.task.0 ≡ t → is_complete p s.exchange q ≡ false
    → is_expected p s.tasks q ≡ true → is_expected p (move p s t).state.tasks q ≡ true
own_expected p s t may q same undone expected =
    let row = move_row p s t may in
    let before = expected_here p s.tasks t may.def may.task q may.is_def may.is_task same in
    let after = expected_here p (move p s t).state.tasks t may.def row.task q may.is_def row.now same in
    elim (in_either q may.task.bound (awaited_at t (Some may.def) (Some may.task.phase)) (sym before ∙ expected)) [
      | inl bound ↦
          after ∙ in_left q row.task.bound (awaited_at t (Some may.def) (Some row.task.phase))
          (still_bound p t may.def may.task (move p s t).state (opened p s t) q row bound)
      | inr waits ↦ absurd (awaits_none p s.tasks s.exchange t may.def may.task may.task.phase q may.enabled undone waits)
    ]

pub expected_stays : ExpectedStays
expected_stays p s t may q undone expected = elim (either_place q.task.0 t) [
  | inl same ↦ own_expected p s t may q same undone expected
  | inr other ↦
      expected_same p s.tasks (move p s t).state.tasks q
      (ap (λ (m : Moved). slice_get m.state.tasks q.task.0) (sym (step-task p s t (exists_of_move p s t may))) ∙ leaves_others p 0 s t (inl may) q.task.0 other)
      ∙ expected
]

-- all that is bound is among these requests
abbrev BoundIn : State → List ReqNo → Type 0
BoundIn s reqs = (t : ℕ) (task : Task) → slice_get s.tasks t ≡ Some task → (q : ReqNo) → IsOneOf q task.bound → IsOneOf q reqs

bound_before : (p : Program) (t : ℕ) (def : TaskDef) (was : Task) (after : State) (new : List ReqNo) (q : ReqNo) → (row : Row p t def was after new)
    → IsOneOf q row.task.bound → IsOneOf q was.bound ⊎ IsOneOf q new
bound_before p t def was after new q row has = elim (in_or_not row.task.phase) [
  | inl inside ↦ inl (subst (IsOneOf q) (row.stays inside.0 inside.1) has)
  | inr outside ↦ in_either q was.bound new (subst (IsOneOf q) (row.goes outside) has)
]

own_bound : (p : Program) (s : State) (t : ℕ) (may : MayMove p s t) (task : Task) (q : ReqNo) → slice_get (step p s t).state.tasks t ≡ Some task
    → IsOneOf q task.bound → IsOneOf q may.task.bound ⊎ IsOneOf q (opened_by_step p s t [])
own_bound p s t may task q at has =
    let row = move_row p s t may in
    let exists = exists_of_move p s t may in
    let same : row.task ≡ task = same_some (sym row.now ∙ ap (λ (m : Moved). slice_get m.state.tasks t) (sym (step-task p s t exists)) ∙ at) in
    elim (bound_before p t may.def may.task (move p s t).state (opened p s t) q row (subst (λ (z : Task). IsOneOf q z.bound) (sym same) has)) [
      | inl before ↦ inl before
      | inr opens ↦ inr (subst (IsOneOf q) (sym (opened-task p s t exists)) opens)
    ]

step_bound : (p : Program) (w : ℕ) (s : State) (c : ℕ) (reqs : List ReqNo) → MayStep p w s c → BoundIn s reqs
    → BoundIn (step p s c).state (reqs ++ opened_by_step p s c [])
step_bound p w s c reqs may bound t task at q has = elim (either_place t c) [
  | inl same ↦ elim may [
    | inl moves ↦
        let here : slice_get (step p s c).state.tasks c ≡ Some task = ap (slice_get (step p s c).state.tasks) (sym same) ∙ at in
        elim (own_bound p s c moves task q here has) [
          | inl before ↦ in_left q reqs (opened_by_step p s c []) (bound c moves.task moves.is_task q before)
          | inr opens ↦ in_right q reqs (opened_by_step p s c []) opens
        ]
    | inr polls ↦ in_left q reqs (opened_by_step p s c []) (bound t task (sym (step_aside p t 0 s c polls.poller).task ∙ at) q has)
  ]
  | inr other ↦ in_left q reqs (opened_by_step p s c []) (bound t task (sym (leaves_others p w s c may t other) ∙ at) q has)
]

run_bound : (p : Program) (w : ℕ) (s : State) (cs : List ℕ) (reqs : List ReqNo) → IsDefined p w s cs → BoundIn s reqs
    → BoundIn (state_after p s cs) (reqs ++ openings p s cs)
run_bound p w s [] reqs runs bound = λ t task at q has. in_left q reqs [] (bound t task at q has)
run_bound p w s (c ∷ cs) reqs runs bound =
    let new = opened_by_step p s c [] in
    subst (BoundIn (state_after p (step p s c).state cs)) (append_assoc reqs new (openings p (step p s c).state cs))
    (run_bound p w (step p s c).state cs (reqs ++ new) runs.1 (step_bound p w s c reqs runs.0 bound))

none_bound : (p : Program) → BoundIn (opening p) []
none_bound p t task at q has =
    let tasks = length p.tasks.items in
    let within : t < tasks = omega (arith, slice_get_within (replicate tasks waiting_task) t task at, length-replicate tasks waiting_task) in
    let same : task ≡ waiting_task = same_some (sym at ∙ at_replicate tasks waiting_task t within) in
    subst (λ (z : Task). IsOneOf q z.bound) same has

pub bound_opened : BoundWereOpened
bound_opened p w cs runs = run_bound p w (opening p) cs [] runs (none_bound p)
