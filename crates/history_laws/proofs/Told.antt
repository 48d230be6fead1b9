-- A move turns the completion of an expected request into its notice, and what was opened is told exactly once.
use Rattle.std.proofs.Common.{◌≡◌, ℕ, ◌+◌, ◌-◌, ◌≤◌, Bool, true, false, cond, ◌⊎◌, List, [], ◌∷◌, ◌++◌, length, slice_get, Option, Some, None}
use Rattle.std.proofs.Common.{refl, sym, ap, ◌∙◌, subst, inl, inr, arith}
use Rattle.std.specs.List.{list_any}
use Rattle.std.proofs.lemmas.Bool.{cases_Bool, both_ways, false_from_ne_true}
use Rattle.std.proofs.lemmas.List.Sums.{sum_by-cons, count_by-le-length}
use Rattle.rt_base.specs.declared.data.ReqNo.{ReqNo}
use Rattle.rt_base.specs.declared.data.Phase.{Phase}
use Rattle.rt_base.specs.declared.data.Phase.TheVariants as phase
use Rattle.rt_base.specs.declared.data.Op.{Op}
use Rattle.rt_base.specs.declared.data.Op.TheVariants as op
use Rattle.rt_base.specs.declared.data.Entry.{Entry}
use Rattle.rt_base.specs.declared.data.TaskDef.{TaskDef}
use Rattle.rt_base.specs.declared.data.Program.{Program}
use Rattle.rt_base.specs.Operations.{blocks}
use Rattle.rt_base.specs.Matching.{same_request}
use Rattle.rt_base.specs.Completion.{is_complete}
use Rattle.rt_base.specs.State.{State, Task, opening}
use Rattle.rt_base.specs.MayMove.{MayMove}
use Rattle.match_engine.specs.Laws.{Posted}
use Rattle.task_machine.specs.Machine.{Moved, move, move_at, call_move, post_move, await_move, poll, polled, step, MayStep, is_expected}
use Rattle.task_machine.specs.Legal.{IsDefined, state_after, entries_after, state_of}
use Rattle.task_machine.specs.Owed.{opened_by_step, IsOneOf, IsOwed}
use Rattle.task_machine.proofs.Rows.{move-row}
use Rattle.task_machine.proofs.Runs.{step-task, exists_of_move}
use Rattle.task_machine.proofs.Calls.{Stays}
use Rattle.task_machine.proofs.Others.{complete_stays}
use Rattle.tidy_runs.specs.Openings.{openings}
use Rattle.tidy_runs.proofs.Bodies.{times, times-cons, times-append, none_counts, in_either}
use Rattle.tidy_runs.proofs.OpenedOnce.{some_counts, opened-task, opened-poller}
use Rattle.tidy_runs.proofs.Telling.{opened_owed, expected_stays}
use Rattle.history_laws.specs.Postings.{postings_by_entry}
use Rattle.history_laws.specs.Notices.{WaitsNamePosted, IsExpectedBy, BecameComplete, AreNoticed, standing}
use Rattle.history_laws.specs.Telling.{TellsOnce, MovesTellOnce, is_poll_of, polls_of, RequestsAreToldAtMostOnce, OpenedAreToldOnce, OwedUntilTold}
use Rattle.history_laws.proofs.Tracing.{Traced, step_adds, at_opening, past}
use Rattle.history_laws.proofs.Noticing.{found_in, finds, BoundArePosted, step_bound, none_bound}
use Rattle.history_laws.proofs.Notified.{noticed_at, expected_own, is_expected_by, who_expects}

-- what a run knows: its exchange is that of its postings, and what is bound was posted
record Fit (p : Program) (s : State) : Type 0 where
  calls : List Posted
  traced : Traced p s calls
  own : BoundArePosted p s

fit_opening : (p : Program) → Fit p (opening p)
fit_opening p = record { calls = []; traced = at_opening p; own = none_bound p }

fit_step : (p : Program) (w : ℕ) (s : State) (c : ℕ) → WaitsNamePosted p → MayStep p w s c → Fit p s → Fit p (step p s c).state
fit_step p w s c waits may fit = record {
  calls = fit.calls ++ postings_by_entry p s (step p s c).entry;
  traced = (step_adds p w s c fit.calls may fit.traced).traced;
  own = step_bound p w s c waits may fit.own;
}

fit_run : (p : Program) (w : ℕ) (s : State) (cs : List ℕ) → WaitsNamePosted p → IsDefined p w s cs → Fit p s → Fit p (state_after p s cs)
fit_run p w s [] waits runs fit = fit
fit_run p w s (c ∷ cs) waits runs fit = fit_run p w (step p s c).state cs waits runs.1 (fit_step p w s c waits runs.0 fit)

-- the notices of a request after a move: one more where it became complete and a task was to be told of it
added_none : (p : Program) (s after : State) (q : ReqNo) → AreNoticed p s after → (BecameComplete p s after q → ⊥) → times q after.notices ≡ times q s.notices
added_none p s after q a never =
    let whole = ap (times q) a.notices ∙ times-append q s.notices a.added in
    let none = none_counts q a.added (false_from_ne_true (list_any (same_request q) a.added)
    (λ has. absurd (never ((a.exactly q).0 (found_in q a.added has))))) in
    omega (arith, whole, none)

added_one : (p : Program) (s after : State) (q : ReqNo) → AreNoticed p s after → BecameComplete p s after q → times q after.notices ≡ times q s.notices + 1
added_one p s after q a became =
    let whole = ap (times q) a.notices ∙ times-append q s.notices a.added in
    let some = some_counts q a.added (finds q a.added ((a.exactly q).1 became)) in
    omega (arith, whole, some, a.few, count_by-le-length (same_request q) a.added)

standing_at : (p : Program) (s : State) (q : ReqNo) (c : Bool) → is_complete p s.exchange q ≡ c → standing p s q ≡ times q s.notices + cond c 0 1
standing_at p s q c is = ap (λ (b : Bool). times q s.notices + cond b 0 1) is

done_before : (p : Program) (s after : State) (q : ReqNo) → AreNoticed p s after → is_complete p s.exchange q ≡ true
    → times q after.notices ≡ times q s.notices
done_before p s after q a was = added_none p s after q a (λ became. both_ways (is_complete p s.exchange q) became.incomplete was)

expected_kept : (p : Program) (s after : State) (q : ReqNo) (before now : Bool) → AreNoticed p s after → Stays p s.exchange after.exchange
    → is_expected p s.tasks q ≡ true → is_complete p s.exchange q ≡ before → is_complete p after.exchange q ≡ now → standing p after q ≡ standing p s q
expected_kept p s after q true true a stays asked was is =
    omega (arith, standing_at p after q true is, standing_at p s q true was, done_before p s after q a was)
expected_kept p s after q true false a stays asked was is = absurd (both_ways (is_complete p after.exchange q) is (stays q was))
expected_kept p s after q false true a stays asked was is =
    let became : BecameComplete p s after q = record { incomplete = was; complete = is; t = q.task.0; expected = who_expects p s q asked } in
    omega (arith, standing_at p after q true is, standing_at p s q false was, added_one p s after q a became)
expected_kept p s after q false false a stays asked was is =
    let same = added_none p s after q a (λ became. both_ways (is_complete p after.exchange q) is became.complete) in
    omega (arith, standing_at p after q false is, standing_at p s q false was, same)

complete_move : (p : Program) (s : State) (t : ℕ) → MayMove p s t → Stays p s.exchange (move p s t).state.exchange
complete_move p s t may =
    subst (λ (m : Moved). Stays p s.exchange m.state.exchange) (step-task p s t (exists_of_move p s t may)) (complete_stays p 0 s t (inl may))

tells : (p : Program) (s : State) (t : ℕ) → WaitsNamePosted p → Fit p s → MayMove p s t → (q : ReqNo) → TellsOnce p s (move p s t).state q
tells p s t waits fit may q =
    let after = (move p s t).state in
    let a = noticed_at p s t fit.calls waits fit.own fit.traced may in
    record {
      expected = λ asked. expected_kept p s after q (is_complete p s.exchange q) (is_complete p after.exchange q) a (complete_move p s t may) asked refl refl;
      unexpected = λ asked. added_none p s after q a (λ became.
          let mine = expected_own p s became.t q waits fit.own became.expected in
          let here : IsExpectedBy p s q.task.0 q = subst (λ (u : ℕ). IsExpectedBy p s u q) (sym mine.0) became.expected in
          both_ways (is_expected p s.tasks q) asked (is_expected_by p s q here));
      complete = λ was. done_before p s after q a was;
    }

pub moves_tell : MovesTellOnce
moves_tell p w cs runs waits t may q = tells p (state_of p cs) t waits (fit_run p w (opening p) cs waits runs (fit_opening p)) may q

-- the entry of a move is no poll
post_no_poll : (p : Program) (s : State) (t : ℕ) (def : TaskDef) (was : Task) (k : ℕ) (blocking : Bool) (q : ReqNo)
    → is_poll_of q (post_move p s t def was k blocking).entry ≡ false
post_no_poll p s t def was k blocking q = refl

await_no_poll : (p : Program) (s : State) (t : ℕ) (def : TaskDef) (was : Task) (k : ℕ) (handles : _) (later : Bool) (q : ReqNo)
    → is_poll_of q (await_move p s t def was k handles later).entry ≡ false
await_no_poll p s t def was k handles false q = refl
await_no_poll p s t def was k handles true q = refl

call_no_poll : (p : Program) (s : State) (t : ℕ) (def : TaskDef) (was : Task) (k : ℕ) (o : Option Op) (q : ReqNo)
    → is_poll_of q (call_move p s t def was k o).entry ≡ false
call_no_poll p s t def was k None q = refl
call_no_poll p s t def was k (Some (op.Compute kind dst left right value step)) q = refl
call_no_poll p s t def was k (Some (op.Post how span peer tag comm status)) q = post_no_poll p s t def was k (blocks how) q
call_no_poll p s t def was k (Some (op.Await later handles status)) q = await_no_poll p s t def was k handles.items later q

at_no_poll : (p : Program) (s : State) (t : ℕ) (def : TaskDef) (was : Task) (at : Phase) (q : ReqNo) → is_poll_of q (move_at p s t def was at).entry ≡ false
at_no_poll p s t def was phase.Waiting q = refl
at_no_poll p s t def was (phase.At k) q = call_no_poll p s t def was k (slice_get def.body.items k) q
at_no_poll p s t def was (phase.In k) q = refl
at_no_poll p s t def was phase.Ended q = refl
at_no_poll p s t def was phase.Returned q = refl
at_no_poll p s t def was phase.Released q = refl

move_no_poll : (p : Program) (s : State) (t : ℕ) → MayMove p s t → (q : ReqNo) → is_poll_of q (move p s t).entry ≡ false
move_no_poll p s t may q =
    ap (λ (m : Moved). is_poll_of q m.entry) (move-row p s t may.def may.task may.task.phase may.is_def may.is_task refl)
    ∙ at_no_poll p s t may.def may.task may.task.phase q

-- while it is incomplete the request is expected
abbrev Awaits : Program → State → ReqNo → Type 0
Awaits p s q = is_complete p s.exchange q ≡ false → is_expected p s.tasks q ≡ true

-- a step tells of a request no more often than it stood, and of one that is awaited exactly as often
record StepTells (p : Program) (s : State) (q : ReqNo) (moved : Moved) : Type 0 where
  fewer : cond (is_poll_of q moved.entry) 1 0 + standing p moved.state q ≤ standing p s q
  exact : Awaits p s q → cond (is_poll_of q moved.entry) 1 0 + standing p moved.state q ≡ standing p s q
  awaits : Awaits p s q → Awaits p moved.state q

fewer_by : (before now : Bool) (n : ℕ) → (before ≡ true → now ≡ true) → n + cond now 0 1 ≤ n + cond before 0 1
fewer_by true true n stays = omega arith
fewer_by true false n stays = let e = stays refl in absurd (cc)
fewer_by false true n stays = omega arith
fewer_by false false n stays = omega arith

no_entry : (b : Bool) (n : ℕ) → b ≡ false → cond b 1 0 + n ≡ n
no_entry true n is = absurd (cc)
no_entry false n is = omega arith

not_expected : (p : Program) (s after : State) (q : ReqNo) → Stays p s.exchange after.exchange → times q after.notices ≡ times q s.notices
    → standing p after q ≤ standing p s q
not_expected p s after q stays same =
    let less = fewer_by (is_complete p s.exchange q) (is_complete p after.exchange q) (times q s.notices) (stays q) in
    let now : standing p after q ≡ times q s.notices + cond (is_complete p after.exchange q) 0 1 =
    ap (λ (n : ℕ). n + cond (is_complete p after.exchange q) 0 1) same in
    omega (arith, less, now)

still_done : (p : Program) (s after : State) (q : ReqNo) → Stays p s.exchange after.exchange → times q after.notices ≡ times q s.notices
    → is_complete p s.exchange q ≡ true → standing p after q ≡ standing p s q
still_done p s after q stays same was = omega (arith, standing_at p after q true (stays q was), standing_at p s q true was, same)

move_tells : (p : Program) (s : State) (t : ℕ) → WaitsNamePosted p → Fit p s → MayMove p s t → (q : ReqNo) → StepTells p s q (move p s t)
move_tells p s t waits fit may q =
    let after = (move p s t).state in
    let told = tells p s t waits fit may q in
    let stays = complete_move p s t may in
    let none = no_entry (is_poll_of q (move p s t).entry) (standing p after q) (move_no_poll p s t may q) in
    record {
      fewer = elim (cases_Bool (is_expected p s.tasks q)) [
        | inl asked ↦ omega (arith, none, told.expected asked)
        | inr unasked ↦ omega (arith, none, not_expected p s after q stays (told.unexpected unasked))
      ];
      exact = λ awaits. elim (cases_Bool (is_complete p s.exchange q)) [
        | inl was ↦ omega (arith, none, still_done p s after q stays (told.complete was) was)
        | inr was ↦ omega (arith, none, told.expected (awaits was))
      ];
      awaits = λ awaits undone. elim (cases_Bool (is_complete p s.exchange q)) [
        | inl was ↦ absurd (both_ways (is_complete p after.exchange q) undone (stays q was))
        | inr was ↦ expected_stays p s t may q was (awaits was)
      ];
    }

-- a poll
polled_tells : (p : Program) (s : State) (poller : ℕ) (notices : List ReqNo) (q : ReqNo) → s.notices ≡ notices → StepTells p s q (polled s poller notices)
polled_tells p s poller [] q is = record { fewer = omega arith; exact = λ awaits. omega arith; awaits = λ awaits. awaits }
polled_tells p s poller (r ∷ rest) q is =
    let count = ap (times q) is ∙ times-cons q r rest in
    record { fewer = omega (arith, count); exact = λ awaits. omega (arith, count); awaits = λ awaits. awaits }

poll_tells : (p : Program) (s : State) (poller : ℕ) (q : ReqNo) → StepTells p s q (poll s poller)
unfolding poll
poll_tells p s poller q = polled_tells p s poller s.notices q refl

step_poll_tells : (p : Program) (s : State) (c : ℕ) (q : ReqNo) → length p.tasks.items ≤ c → StepTells p s q (step p s c)
unfolding step
step_poll_tells p s c q above = rw (past c (length p.tasks.items) above) (poll_tells p s (c - length p.tasks.items) q)

step_tells : (p : Program) (w : ℕ) (s : State) (c : ℕ) → WaitsNamePosted p → Fit p s → MayStep p w s c → (q : ReqNo) → StepTells p s q (step p s c)
step_tells p w s c waits fit may q = elim may [
  | inl moves ↦ subst (StepTells p s q) (sym (step-task p s c (exists_of_move p s c moves))) (move_tells p s c waits fit moves q)
  | inr polls ↦ step_poll_tells p s c q polls.poller
]

-- a run
polls-cons : (q : ReqNo) (e : Entry) (es : List Entry) → polls_of q (e ∷ es) ≡ cond (is_poll_of q e) 1 0 + polls_of q es
polls-cons q e es = sum_by-cons (λ (x : Entry). cond (is_poll_of q x) 1 0) e es

run_fewer : (p : Program) (w : ℕ) (s : State) (cs : List ℕ) (q : ReqNo) → WaitsNamePosted p → IsDefined p w s cs → Fit p s
    → polls_of q (entries_after p s cs) + standing p (state_after p s cs) q ≤ standing p s q
run_fewer p w s [] q waits runs fit = omega arith
run_fewer p w s (c ∷ cs) q waits runs fit =
    let one = step_tells p w s c waits fit runs.0 q in
    let rest = run_fewer p w (step p s c).state cs q waits runs.1 (fit_step p w s c waits runs.0 fit) in
    omega (arith, one.fewer, rest, polls-cons q (step p s c).entry (entries_after p (step p s c).state cs))

-- all that stood of an awaited request was told, or stands
record Exact (p : Program) (s : State) (q : ReqNo) (entries : List Entry) (end : State) : Type 0 where
  total : polls_of q entries + standing p end q ≡ standing p s q
  awaits : Awaits p end q

run_exact : (p : Program) (w : ℕ) (s : State) (cs : List ℕ) (q : ReqNo) → WaitsNamePosted p → IsDefined p w s cs → Fit p s → Awaits p s q
    → Exact p s q (entries_after p s cs) (state_after p s cs)
run_exact p w s [] q waits runs fit awaits = record { total = omega arith; awaits = awaits }
run_exact p w s (c ∷ cs) q waits runs fit awaits =
    let one = step_tells p w s c waits fit runs.0 q in
    let rest = run_exact p w (step p s c).state cs q waits runs.1 (fit_step p w s c waits runs.0 fit) (one.awaits awaits) in
    record {
      total = omega (arith, one.exact awaits, rest.total, polls-cons q (step p s c).entry (entries_after p (step p s c).state cs));
      awaits = rest.awaits;
    }

at_most_one : (b : Bool) → cond b 0 1 ≤ 1
at_most_one true = omega arith
at_most_one false = omega arith

one_at_opening : (p : Program) (q : ReqNo) → standing p (opening p) q ≤ 1
one_at_opening p q =
    let none : times q [] ≡ 0 = refl in
    omega (arith, none, at_most_one (is_complete p (opening p).exchange q))

pub told_at_most_once : RequestsAreToldAtMostOnce
told_at_most_once p w cs runs waits q =
    omega (arith, run_fewer p w (opening p) cs q waits runs (fit_opening p), one_at_opening p q)

-- what is owed stands once, and is expected while it is incomplete
owed_some : (p : Program) (s : State) (q : ReqNo) → IsOwed p s q → 1 ≤ standing p s q
owed_some p s q (inl undone) = omega (arith, standing_at p s q false undone.0)
owed_some p s q (inr stands) = omega (arith, some_counts q s.notices stands)

owed_awaits : (p : Program) (s : State) (q : ReqNo) → standing p s q ≤ 1 → IsOwed p s q → Awaits p s q
owed_awaits p s q few (inl undone) = λ _. undone.1
owed_awaits p s q few (inr stands) = λ undone. absurd (omega (arith, few, standing_at p s q false undone, some_counts q s.notices stands))

stands_in : (q : ReqNo) (notices : List ReqNo) → times q notices ≡ 1 → (list_any (same_request q) notices ≡ true) ⊎ (list_any (same_request q) notices ≡ false)
    → IsOneOf q notices
stands_in q notices one (inl has) = has
stands_in q notices one (inr none) = absurd (omega (arith, one, none_counts q notices none))

owed_from : (p : Program) (s : State) (q : ReqNo) → standing p s q ≡ 1 → Awaits p s q → IsOwed p s q
owed_from p s q one awaits = elim (cases_Bool (is_complete p s.exchange q)) [
  | inl done ↦
      let stands : times q s.notices ≡ 1 = omega (arith, one, standing_at p s q true done) in
      inr (stands_in q s.notices stands (cases_Bool (list_any (same_request q) s.notices)))
  | inr undone ↦ inl (undone, awaits undone)
]

-- a request that a step of the run opens is owed after it, so that it is told exactly once from then on
step_owed : (p : Program) (w : ℕ) (s : State) (c : ℕ) (q : ReqNo) → MayStep p w s c → IsOneOf q (opened_by_step p s c []) → IsOwed p (step p s c).state q
step_owed p w s c q may opens = elim may [
  | inl moves ↦
      let exists = exists_of_move p s c moves in
      subst (λ (m : Moved). IsOwed p m.state q) (sym (step-task p s c exists))
      (opened_owed p s c moves q (subst (IsOneOf q) (opened-task p s c exists) opens))
  | inr polls ↦
      let none : list_any (same_request q) [] ≡ true = ap (list_any (same_request q)) (sym (opened-poller p s c polls.poller)) ∙ opens in
      absurd (cc none)
]

run_told : (p : Program) (w : ℕ) (s : State) (cs : List ℕ) (q : ReqNo) (n : ℕ) → WaitsNamePosted p → IsDefined p w s cs → Fit p s
    → n + standing p s q ≤ 1 → IsOneOf q (openings p s cs) → (n + polls_of q (entries_after p s cs)) + standing p (state_after p s cs) q ≡ 1
run_told p w s [] q n waits runs fit few opens = absurd (cc opens)
run_told p w s (c ∷ cs) q n waits runs fit few opens =
    let after = (step p s c).state in
    let one = step_tells p w s c waits fit runs.0 q in
    let count = polls-cons q (step p s c).entry (entries_after p after cs) in
    let fit_after = fit_step p w s c waits runs.0 fit in
    elim (in_either q (opened_by_step p s c []) (openings p after cs) opens) [
      | inl here ↦
          let owed = step_owed p w s c q runs.0 here in
          let single : standing p after q ≤ 1 = omega (arith, few, one.fewer) in
          let rest = run_exact p w after cs q waits runs.1 fit_after (owed_awaits p after q single owed) in
          omega (arith, few, one.fewer, owed_some p after q owed, rest.total, count)
      | inr later ↦
          let less : (n + cond (is_poll_of q (step p s c).entry) 1 0) + standing p after q ≤ 1 = omega (arith, few, one.fewer) in
          let rest = run_told p w after cs q (n + cond (is_poll_of q (step p s c).entry) 1 0) waits runs.1 fit_after less later in
          omega (arith, rest, count)
    ]

pub opened_told_once : OpenedAreToldOnce
opened_told_once p w cs runs waits q opens =
    let whole = run_told p w (opening p) cs q 0 waits runs (fit_opening p) (omega (arith, one_at_opening p q)) opens in
    omega (arith, whole)

pub until_told : OwedUntilTold
until_told p w cs later runs waits more q owed =
    let s = state_of p cs in
    let fit = fit_run p w (opening p) cs waits runs (fit_opening p) in
    let single : standing p s q ≤ 1 = omega (arith, told_at_most_once p w cs runs waits q) in
    let exact = run_exact p w s later q waits more fit (owed_awaits p s q single owed) in
    let one : polls_of q (entries_after p s later) + standing p (state_after p s later) q ≡ 1 =
    omega (arith, exact.total, single, owed_some p s q owed) in (
      λ still. omega (arith, one, owed_some p (state_after p s later) q still),
      λ none. owed_from p (state_after p s later) q (omega (arith, one, none)) exact.awaits,
    )
