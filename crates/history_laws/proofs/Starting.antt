-- Where a task starts, each task that precedes it is released.
use Rattle.std.proofs.Common.{◌≡◌, ◌≢◌, ℕ, ◌+◌, ◌<◌, ◌≤◌, Bool, true, false, ◌⊎◌, List, [], ◌∷◌, ◌++◌, length, take, drop, slice_get, slice_set, option_map}
use Rattle.std.proofs.Common.{Option, Some, None, refl, sym, ap, ◌∙◌, subst, inl, inr, arith, append_assoc, length-append}
use Rattle.std.specs.Prelude.{nat_lt}
use Rattle.std.proofs.Math.Seq.{take-append_seam}
use Rattle.std.proofs.lemmas.Bool.Decides.{nat_tests}
use Rattle.std.proofs.lemmas.Option.{slice_get_within}
use Rattle.rt_base.specs.declared.data.ReqNo.{ReqNo}
use Rattle.rt_base.specs.declared.data.TaskNo.{TaskNo}
use Rattle.rt_base.specs.declared.data.Phase.{Phase}
use Rattle.rt_base.specs.declared.data.Phase.TheVariants as phase
use Rattle.rt_base.specs.declared.data.Op.{Op}
use Rattle.rt_base.specs.declared.data.Op.TheVariants as op
use Rattle.rt_base.specs.declared.data.Status.{Status}
use Rattle.rt_base.specs.declared.data.Entry.{Entry}
use Rattle.rt_base.specs.declared.data.Entry.TheVariants as entry
use Rattle.rt_base.specs.declared.data.TaskDef.{TaskDef}
use Rattle.rt_base.specs.declared.data.Program.{Program}
use Rattle.rt_base.specs.Operations.{blocks, task_no}
use Rattle.rt_base.specs.Precedes.{Precedes, MayStart}
use Rattle.rt_base.specs.State.{State, Task, opening, waiting_task, is_released, let_go, phase_of}
use Rattle.rt_base.specs.MayMove.{AreComplete, MayMoveAt, MayMove}
use Rattle.task_local.specs.Local.{stop_at, stop}
use Rattle.task_machine.specs.Machine.{Moved, move_at, call_move, await_move, post_move, poll, polled, step, MayStep}
use Rattle.task_machine.specs.Legal.{IsDefined, state_after, entries_after, caller, callers, final, IsLegal}
use Rattle.task_machine.proofs.Rows.{move-row}
use Rattle.task_machine.proofs.Lists.{slice_get-set_same, slice_get-set_other, slice_get-map}
use Rattle.task_machine.proofs.Items.{either_place, at_replicate, same_some}
use Rattle.task_machine.proofs.Runs.{step-task, exists_of_move, callers-push, state_after-push}
use Rattle.history_laws.specs.Starts.{IsReleasedBefore}

-- what a move of task u changes, as far as starts and releases go
record Row (s : State) (u : ℕ) (at : Phase) (moved : Moved) : Type 0 where
  now : Task
  here : slice_get moved.state.tasks u ≡ Some now
  others : (t : ℕ) → t ≢ u → slice_get moved.state.tasks t ≡ slice_get s.tasks t
  returned : now.phase ≡ phase.Returned → moved.entry ≡ entry.Return (task_no u)
  released : now.phase ≡ phase.Released → (at ≡ phase.Returned) × (from : ℕ) × (count : ℕ) × (moved.entry ≡ entry.Release (task_no u) from count)
  starts : (t : ℕ) → moved.entry ≡ entry.Start (task_no t) → (at ≡ phase.Waiting) × (t ≡ u)

set_here : (tasks : List Task) (t : ℕ) (was now : Task) → slice_get tasks t ≡ Some was → slice_get (slice_set tasks t now) t ≡ Some now
set_here tasks t was now here = slice_get-set_same tasks t now (slice_get_within tasks t was here)

-- a task that goes on in its body has neither returned nor is it released
not_returned : (k : ℕ) (ops : List Op) → stop_at k ops ≢ phase.Returned
not_returned k [] = λ e. cc
not_returned k (op.Compute kind dst left right value step ∷ ops) = not_returned (k + 1) ops
not_returned k (op.Post how span peer tag comm status ∷ ops) = λ e. cc
not_returned k (op.Await later handles status ∷ ops) = λ e. cc

not_released : (k : ℕ) (ops : List Op) → stop_at k ops ≢ phase.Released
not_released k [] = λ e. cc
not_released k (op.Compute kind dst left right value step ∷ ops) = not_released (k + 1) ops
not_released k (op.Post how span peer tag comm status ∷ ops) = λ e. cc
not_released k (op.Await later handles status ∷ ops) = λ e. cc

stop_not_returned : (def : TaskDef) (k : ℕ) → stop def k ≢ phase.Returned
unfolding stop
stop_not_returned def k = not_returned k (drop k def.body.items)

stop_not_released : (def : TaskDef) (k : ℕ) → stop def k ≢ phase.Released
unfolding stop
stop_not_released def k = not_released k (drop k def.body.items)

same_number : (t u : ℕ) → entry.Start (task_no u) ≡ entry.Start (task_no t) → t ≡ u
same_number t u same = let numbers : task_no u ≡ task_no t = cc in ap (λ (n : TaskNo). n.0) (sym numbers)

-- a task that stays inside its body, by a call or a leave
inside_row : (s : State) (u : ℕ) (at : Phase) (was now : Task) (moved : Moved) → slice_get s.tasks u ≡ Some was → moved.state.tasks ≡ slice_set s.tasks u now
    → now.phase ≢ phase.Returned → now.phase ≢ phase.Released → ((t : ℕ) → moved.entry ≢ entry.Start (task_no t)) → Row s u at moved
inside_row s u at was now moved is_task tasks returned released starts = record {
  now = now;
  here = ap (λ (zs : List Task). slice_get zs u) tasks ∙ set_here s.tasks u was now is_task;
  others = λ t other. ap (λ (zs : List Task). slice_get zs t) tasks ∙ slice_get-set_other s.tasks u t now other;
  returned = λ e. absurd (returned e);
  released = λ e. absurd (released e);
  starts = λ t e. absurd (starts t e);
}

-- a call that can't be made leaves the state
stays_row : (s : State) (u k : ℕ) (was : Task) (moved : Moved) → slice_get s.tasks u ≡ Some was → was.phase ≡ phase.At k → moved.state ≡ s
    → ((t : ℕ) → moved.entry ≢ entry.Start (task_no t)) → Row s u (phase.At k) moved
stays_row s u k was moved is_task at same starts = record {
  now = was;
  here = ap (λ (z : State). slice_get z.tasks u) same ∙ is_task;
  others = λ t other. ap (λ (z : State). slice_get z.tasks t) same;
  returned = λ e. absurd (let both = sym at ∙ e in cc);
  released = λ e. absurd (let both = sym at ∙ e in cc);
  starts = λ t e. absurd (starts t e);
}

post_row : (p : Program) (s : State) (u k : ℕ) (def : TaskDef) (was : Task) (blocking : Bool) → slice_get s.tasks u ≡ Some was
    → Row s u (phase.At k) (post_move p s u def was k blocking)
post_row p s u k def was true is_task = inside_row s u (phase.At k) was _ _ is_task refl (λ e. cc) (λ e. cc) (λ t e. cc)
post_row p s u k def was false is_task =
    inside_row s u (phase.At k) was _ _ is_task refl (stop_not_returned def (k + 1)) (stop_not_released def (k + 1)) (λ t e. cc)

await_row : (p : Program) (s : State) (u k : ℕ) (def : TaskDef) (was : Task) (handles : _) (later : Bool) → slice_get s.tasks u ≡ Some was
    → Row s u (phase.At k) (await_move p s u def was k handles later)
await_row p s u k def was handles false is_task = inside_row s u (phase.At k) was _ _ is_task refl (λ e. cc) (λ e. cc) (λ t e. cc)
await_row p s u k def was handles true is_task =
    inside_row s u (phase.At k) was _ _ is_task refl (stop_not_returned def (k + 1)) (stop_not_released def (k + 1)) (λ t e. cc)

call_row : (p : Program) (s : State) (u k : ℕ) (def : TaskDef) (was : Task) (o : Option Op) → slice_get s.tasks u ≡ Some was → was.phase ≡ phase.At k
    → Row s u (phase.At k) (call_move p s u def was k o)
call_row p s u k def was None is_task at = stays_row s u k was _ is_task at refl (λ t e. cc)
call_row p s u k def was (Some (op.Compute kind dst left right value step)) is_task at = stays_row s u k was _ is_task at refl (λ t e. cc)
call_row p s u k def was (Some (op.Post how span peer tag comm status)) is_task at = post_row p s u k def was (blocks how) is_task
call_row p s u k def was (Some (op.Await later handles status)) is_task at = await_row p s u k def was handles.items later is_task

start_row : (s : State) (u : ℕ) (def : TaskDef) (was now : Task) (moved : Moved) → slice_get s.tasks u ≡ Some was → moved.state.tasks ≡ slice_set s.tasks u now
    → now.phase ≡ stop def 0 → moved.entry ≡ entry.Start (task_no u) → Row s u phase.Waiting moved
start_row s u def was now moved is_task tasks stands started = record {
  now = now;
  here = ap (λ (zs : List Task). slice_get zs u) tasks ∙ set_here s.tasks u was now is_task;
  others = λ t other. ap (λ (zs : List Task). slice_get zs t) tasks ∙ slice_get-set_other s.tasks u t now other;
  returned = λ e. absurd (stop_not_returned def 0 (sym stands ∙ e));
  released = λ e. absurd (stop_not_released def 0 (sym stands ∙ e));
  starts = λ t e. (refl, same_number t u (sym started ∙ e));
}

return_row : (s : State) (u : ℕ) (was now : Task) (moved : Moved) → slice_get s.tasks u ≡ Some was → moved.state.tasks ≡ slice_set s.tasks u now
    → now.phase ≡ phase.Returned → moved.entry ≡ entry.Return (task_no u) → Row s u phase.Ended moved
return_row s u was now moved is_task tasks stands returns = record {
  now = now;
  here = ap (λ (zs : List Task). slice_get zs u) tasks ∙ set_here s.tasks u was now is_task;
  others = λ t other. ap (λ (zs : List Task). slice_get zs t) tasks ∙ slice_get-set_other s.tasks u t now other;
  returned = λ e. returns;
  released = λ e. absurd (let both = sym stands ∙ e in cc);
  starts = λ t e. absurd (let both = sym returns ∙ e in cc);
}

release_row : (s : State) (u from count : ℕ) (was now : Task) (moved : Moved) → slice_get s.tasks u ≡ Some was → moved.state.tasks ≡ slice_set s.tasks u now
    → now.phase ≡ phase.Released → moved.entry ≡ entry.Release (task_no u) from count → Row s u phase.Returned moved
release_row s u from count was now moved is_task tasks stands releases = record {
  now = now;
  here = ap (λ (zs : List Task). slice_get zs u) tasks ∙ set_here s.tasks u was now is_task;
  others = λ t other. ap (λ (zs : List Task). slice_get zs t) tasks ∙ slice_get-set_other s.tasks u t now other;
  returned = λ e. absurd (let both = sym stands ∙ e in cc);
  released = λ e. (refl, from, count, releases);
  starts = λ t e. absurd (let both = sym releases ∙ e in cc);
}

-- the row of a task that may move
move_row : (p : Program) (s : State) (u : ℕ) (def : TaskDef) (was : Task) (at : Phase) → slice_get s.tasks u ≡ Some was → was.phase ≡ at
    → MayMoveAt p s.tasks s.exchange u def was at → Row s u at (move_at p s u def was at)
move_row p s u def was phase.Waiting is_task at may = start_row s u def was _ _ is_task refl refl refl
move_row p s u def was (phase.At k) is_task at may = call_row p s u k def was (slice_get def.body.items k) is_task at
move_row p s u def was (phase.In k) is_task at may =
    inside_row s u (phase.In k) was _ _ is_task refl (stop_not_returned def (k + 1)) (stop_not_released def (k + 1)) (λ t e. cc)
move_row p s u def was phase.Ended is_task at may = return_row s u was _ _ is_task refl refl refl
move_row p s u def was phase.Returned is_task at may = release_row s u _ _ was _ _ is_task refl refl refl
move_row p s u def was phase.Released is_task at may = absurd may

-- a poll starts nothing, and leaves the tasks
record Aside (s : State) (moved : Moved) : Type 0 where
  same : moved.state.tasks ≡ s.tasks
  starts : (t : ℕ) → moved.entry ≢ entry.Start (task_no t)

polled_aside : (s : State) (poller : ℕ) (notices : List ReqNo) → Aside s (polled s poller notices)
polled_aside s poller [] = record { same = refl; starts = λ t e. cc }
polled_aside s poller (req ∷ notices) = record { same = refl; starts = λ t e. cc }

poll_aside : (s : State) (poller : ℕ) → Aside s (poll s poller)
unfolding poll
poll_aside s poller = polled_aside s poller s.notices

past : (c n : ℕ) → n ≤ c → nat_lt c n ≡ false
past c n above = grind (arith, nat_tests)

step_aside : (p : Program) (s : State) (c : ℕ) → length p.tasks.items ≤ c → Aside s (step p s c)
unfolding step
step_aside p s c above = rw (past c (length p.tasks.items) above) (poll_aside s _)

-- a step of the machine is the move of a task that may make it, or a poll
record Moves (p : Program) (s : State) (c : ℕ) : Type 0 where
  may : MayMove p s c
  row : Row s c may.task.phase (step p s c)

moves_of : (p : Program) (s : State) (c : ℕ) → MayMove p s c → Moves p s c
moves_of p s c may = record {
  may = may;
  row = subst (Row s c may.task.phase) (sym (move-row p s c may.def may.task may.task.phase may.is_def may.is_task refl)
      ∙ sym (step-task p s c (exists_of_move p s c may)))
      (move_row p s c may.def may.task may.task.phase may.is_task refl may.enabled);
}

step_of : (p : Program) (w : ℕ) (s : State) (c : ℕ) → MayStep p w s c → Moves p s c ⊎ Aside s (step p s c)
step_of p w s c may = elim may [
  | inl moves ↦ inl (moves_of p s c moves)
  | inr polls ↦ inr (step_aside p s c polls.poller)
]

-- after this front of the history, where task u has returned its return stands there, and where it is released so does its release
record Past (p : Program) (all : List Entry) (u : ℕ) (front : List Entry) : Type 0 where
  returned : phase_of (final p front) u ≡ Some phase.Returned → (place : ℕ) × (place < length front) × (slice_get all place ≡ Some (entry.Return (task_no u)))
  released : phase_of (final p front) u ≡ Some phase.Released → IsReleasedBefore p all u (length front)

later : (p : Program) (all : List Entry) (u place more : ℕ) → place ≤ more → IsReleasedBefore p all u place → IsReleasedBefore p all u more
later p all u place more le before = record {
  return_place = before.return_place;
  release_place = before.release_place;
  from = before.from;
  count = before.count;
  returns = before.returns;
  releases = before.releases;
  in_order = before.in_order;
  earlier = (let lt = before.earlier in omega (arith, lt, le));
  task = before.task;
  is_task = before.is_task;
  complete = before.complete;
}

longer : (front : List Entry) (e : Entry) → length (front ++ e ∷ []) ≡ length front + 1
longer front e = length-append front (e ∷ [])

-- where the task stands as before
past_kept : (p : Program) (all : List Entry) (u : ℕ) (front : List Entry) (e : Entry) → phase_of (final p (front ++ e ∷ [])) u ≡ phase_of (final p front) u
    → Past p all u front → Past p all u (front ++ e ∷ [])
past_kept p all u front e same old = record {
  returned = λ stands. let before = old.returned (sym same ∙ stands) in (
    before.0,
    (let lt = before.1 in let len = longer front e in omega (arith, lt, len)),
    before.2,
  );
  released = λ stands. later p all u (length front) (length (front ++ e ∷ [])) (let len = longer front e in
      omega (arith, len)) (old.released (sym same ∙ stands));
}

-- the entry at the seam, and the front before it
at_seam : (all front back : List Entry) (e : Entry) → all ≡ front ++ e ∷ back → slice_get all (length front) ≡ Some e
at_seam all front back e whole = ap (λ (es : List Entry). slice_get es (length front)) whole ∙ seam front
  where
    seam : (front : List Entry) → slice_get (front ++ e ∷ back) (length front) ≡ Some e
    seam [] = refl
    seam (d ∷ front) = seam front

front_of : (all front back : List Entry) → all ≡ front ++ back → take (length front) all ≡ front
front_of all front back whole = ap (take (length front)) whole ∙ take-append_seam front back

phase_is : (s : State) (u : ℕ) (task : Task) (at : Phase) → slice_get s.tasks u ≡ Some task → phase_of s u ≡ Some at → task.phase ≡ at
phase_is s u task at is_task stands = same_some (sym (ap (option_map (λ (task : Task). task.phase)) is_task) ∙ stands)

phase_there : (s : State) (u : ℕ) (task : Task) (at : Phase) → slice_get s.tasks u ≡ Some task → task.phase ≡ at → phase_of s u ≡ Some at
phase_there s u task at is_task stands = ap (option_map (λ (task : Task). task.phase)) is_task ∙ ap (λ (at : Phase). Some at) stands

-- a task that is released by this entry
released_here : (p : Program) (all : List Entry) (u from count : ℕ) (front back : List Entry) (e : Entry) (task : Task) → all ≡ front ++ e ∷ back
    → e ≡ entry.Release (task_no u) from count → slice_get (final p front).tasks u ≡ Some task → AreComplete p (final p front).exchange task.bound
    → (place : ℕ) → place < length front → slice_get all place ≡ Some (entry.Return (task_no u)) → IsReleasedBefore p all u (length (front ++ e ∷ []))
released_here p all u from count front back e task whole is is_task complete place before returns =
    let same : front ≡ take (length front) all = sym (front_of all front (e ∷ back) whole) in
    record {
      return_place = place;
      release_place = length front;
      from = from;
      count = count;
      returns = returns;
      releases = at_seam all front back e whole ∙ ap (λ (e : Entry). Some e) is;
      in_order = before;
      earlier = (let len = longer front e in omega (arith, len));
      task = task;
      is_task = subst (λ (es : List Entry). slice_get (final p es).tasks u ≡ Some task) same is_task;
      complete = subst (λ (es : List Entry). AreComplete p (final p es).exchange task.bound) same complete;
    }

-- where all that is bound to a returned task is complete
bound_complete : (p : Program) (s : State) (c : ℕ) (def : TaskDef) (task : Task) (at : Phase) → MayMoveAt p s.tasks s.exchange c def task at
    → at ≡ phase.Returned
    → AreComplete p s.exchange task.bound
bound_complete p s c def task at may is = subst (λ (at : Phase). MayMoveAt p s.tasks s.exchange c def task at) is may

-- the task that moved
past_moved : (p : Program) (all : List Entry) (c : ℕ) (front back : List Entry) (e : Entry) → all ≡ front ++ e ∷ back → e ≡ (step p (final p front) c).entry
    → (step p (final p front) c).state ≡ final p (front ++ e ∷ []) → Moves p (final p front) c → Past p all c front → Past p all c (front ++ e ∷ [])
past_moved p all c front back e whole is next moves old = record {
  returned = λ stands.
      let now = phase_is (step p (final p front) c).state c moves.row.now phase.Returned moves.row.here (ap (λ (s : State). phase_of s c) next ∙ stands) in (
        length front,
        (let len = longer front e in omega (arith, len)),
        at_seam all front back e whole
            ∙ ap (λ (e : Entry). Some e) (is ∙ moves.row.returned now),
      );
  released = λ stands.
      let now = phase_is (step p (final p front) c).state c moves.row.now phase.Released moves.row.here (ap (λ (s : State). phase_of s c) next ∙ stands) in
      let releases = moves.row.released now in
      let before = old.returned (phase_there (final p front) c moves.may.task phase.Returned moves.may.is_task releases.0) in
      released_here p all c releases.1 releases.2 front back e moves.may.task whole (is ∙ releases.3) moves.may.is_task
      (bound_complete p (final p front) c moves.may.def moves.may.task moves.may.task.phase moves.may.enabled releases.0)
      before.0 before.1 before.2;
}

phase_same : (s new : State) (u : ℕ) → slice_get new.tasks u ≡ slice_get s.tasks u → phase_of new u ≡ phase_of s u
phase_same s new u same = ap (option_map (λ (task : Task). task.phase)) same

-- one entry more
past_next : (p : Program) (w : ℕ) (all : List Entry) (u c : ℕ) (front back : List Entry) (e : Entry) → all ≡ front ++ e ∷ back
    → e ≡ (step p (final p front) c).entry
    → (step p (final p front) c).state ≡ final p (front ++ e ∷ []) → MayStep p w (final p front) c → Past p all u front → Past p all u (front ++ e ∷ [])
past_next p w all u c front back e whole is next may old = elim (step_of p w (final p front) c may) [
  | inl moves ↦ elim (either_place u c) [
    | inl same ↦ subst (λ i. Past p all i (front ++ e ∷ [])) (sym same)
        (past_moved p all c front back e whole is next moves (subst (λ i. Past p all i front) same old))
    | inr other ↦ past_kept p all u front e
        (sym (ap (λ (s : State). phase_of s u) next) ∙ phase_same (final p front) (step p (final p front) c).state u (moves.row.others u other)) old
  ]
  | inr aside ↦ past_kept p all u front e
      (sym (ap (λ (s : State). phase_of s u) next)
      ∙ phase_same (final p front) (step p (final p front) c).state u (ap (λ (tasks : List Task). slice_get tasks u) aside.same)) old
]

-- a task whose accesses are let go stands at its end
released_phase : (at : Option Phase) → option_map is_released at ≡ Some true → at ≡ Some phase.Released
released_phase None h = cc
released_phase (Some phase.Waiting) h = absurd (cc)
released_phase (Some (phase.At k)) h = absurd (cc)
released_phase (Some (phase.In k)) h = absurd (cc)
released_phase (Some phase.Ended) h = absurd (cc)
released_phase (Some phase.Returned) h = absurd (cc)
released_phase (Some phase.Released) h = refl

released_task : (o : Option Task) → option_map (λ (task : Task). is_released task.phase) o ≡ Some true
    → option_map (λ (task : Task). task.phase) o ≡ Some phase.Released
released_task None h = cc
released_task (Some task) h = released_phase (Some task.phase) h

-- what is let go of is released
gone_released : (s : State) (u : ℕ) → slice_get (let_go s.tasks).released u ≡ Some true → phase_of s u ≡ Some phase.Released
gone_released s u gone = released_task (slice_get s.tasks u) (sym (slice_get-map (λ (task : Task). is_released task.phase) s.tasks u) ∙ gone)

may_start : (p : Program) (s : State) (c : ℕ) (def : TaskDef) (task : Task) (at : Phase) → MayMoveAt p s.tasks s.exchange c def task at → at ≡ phase.Waiting
    → MayStart p (let_go s.tasks) c
may_start p s c def task at may is = subst (λ (at : Phase). MayMoveAt p s.tasks s.exchange c def task at) is may

-- a start, where the task that precedes stands as the past says
start_after : (p : Program) (w : ℕ) (all : List Entry) (t u c : ℕ) (front : List Entry) → (step p (final p front) c).entry ≡ entry.Start (task_no t)
    → MayStep p w (final p front) c → Precedes p u t → Past p all u front → IsReleasedBefore p all u (length front)
start_after p w all t u c front starts may precedes old = elim (step_of p w (final p front) c may) [
  | inl moves ↦
      let first = moves.row.starts t starts in
      let ready = may_start p (final p front) c moves.may.def moves.may.task moves.may.task.phase moves.may.enabled first.0 in
      old.released (gone_released (final p front) u (ready.freed u (subst (Precedes p u) first.1 precedes)))
  | inr aside ↦ absurd (aside.starts t starts)
]

-- the state after one entry more
next_state : (p : Program) (front : List Entry) (e : Entry) → (step p (final p front) (caller (length p.tasks.items) e)).state ≡ final p (front ++ e ∷ [])
next_state p front e =
    sym (ap (state_after p (opening p)) (callers-push p front e) ∙ state_after-push p (opening p) (callers p front) (caller (length p.tasks.items) e))

heads : (e d : Entry) (es ds : List Entry) → e ∷ es ≡ d ∷ ds → e ≡ d
heads e d es ds h = cc

tails : (e d : Entry) (es ds : List Entry) → e ∷ es ≡ d ∷ ds → es ≡ ds
tails e d es ds h = cc

-- along the history
walk : (p : Program) (w : ℕ) (all : List Entry) (t u place : ℕ) → Precedes p u t → slice_get all place ≡ Some (entry.Start (task_no t))
    → (back front : List Entry)
    → all ≡ front ++ back → IsDefined p w (final p front) (callers p back) → back ≡ entries_after p (final p front) (callers p back) → Past p all u front
    → length front ≤ place → IsReleasedBefore p all u place
walk p w all t u place precedes starts [] front whole runs replies old above =
    absurd (let within = slice_get_within all place _ starts in let len = ap length whole in let parts = length-append front [] in
    omega (arith, within, len, parts, above))
walk p w all t u place precedes starts (e ∷ back) front whole runs replies old above =
    let c = caller (length p.tasks.items) e in
    let is : e ≡ (step p (final p front) c).entry = heads e _ back _ replies in
    let next = next_state p front e in
    elim (either_place place (length front)) [
      | inl same ↦
          let here : e ≡ entry.Start (task_no t) = same_some (sym (at_seam all front back e whole) ∙ ap (slice_get all) (sym same) ∙ starts) in
          subst (IsReleasedBefore p all u) (sym same) (start_after p w all t u c front (sym is ∙ here) runs.0 precedes old)
      | inr other ↦
          walk p w all t u place precedes starts back (front ++ e ∷ []) (whole ∙ sym (append_assoc front (e ∷ []) back))
          (subst (λ (s : State). IsDefined p w s (callers p back)) next runs.1)
          (tails e _ back _ replies ∙ ap (λ (s : State). entries_after p s (callers p back)) next)
          (past_next p w all u c front back e whole is next runs.0 old)
          (let len = longer front e in omega (arith, len, above, other))
    ]

-- at first no task has returned
past_opening : (p : Program) (all : List Entry) (u t : ℕ) → Precedes p u t → Past p all u []
past_opening p all u t precedes =
    let waits : phase_of (opening p) u ≡ Some phase.Waiting =
    ap (option_map (λ (task : Task). task.phase))
    (at_replicate (length p.tasks.items) waiting_task u (slice_get_within p.tasks.items u precedes.earlier precedes.is_earlier)) in
    record {
      returned = λ stands. absurd (let both = sym waits ∙ stands in cc);
      released = λ stands. absurd (let both = sym waits ∙ stands in cc);
    }

pub start_in_order : (p : Program) (w : ℕ) (entries : List Entry) (statuses : List Status) → IsLegal p w entries statuses
    → (place t u : ℕ) → slice_get entries place ≡ Some (entry.Start (task_no t)) → Precedes p u t → IsReleasedBefore p entries u place
start_in_order p w entries statuses legal place t u starts precedes =
    walk p w entries t u place precedes starts entries [] refl legal.runs legal.replies (past_opening p entries u t precedes) (omega arith)
