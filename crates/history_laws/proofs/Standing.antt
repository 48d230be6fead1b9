-- Each notice that stands is of a complete request, and stands once.
use Rattle.std.proofs.Common.{◌≡◌, ℕ, ◌+◌, ◌-◌, ◌≤◌, Bool, true, false, not, ◌&&◌, cond, ◌⊎◌, List, [], ◌∷◌, ◌++◌, length, Option, Some, None}
use Rattle.std.proofs.Common.{refl, sym, ap, ◌∙◌, subst, inl, inr, arith}
use Rattle.std.specs.Prelude.{count_by}
use Rattle.std.proofs.lemmas.Bool.{both_ways, false≢true, false_from_ne_true}
use Rattle.std.proofs.lemmas.List.Sums.{sum_by-cons, sum_by-append}
use Rattle.rt_base.specs.declared.data.ReqNo.{ReqNo}
use Rattle.rt_base.specs.declared.data.Program.{Program}
use Rattle.rt_base.specs.Operations.{request}
use Rattle.rt_base.specs.Matching.{same_request}
use Rattle.rt_base.specs.Exchange.{Exchange, partner}
use Rattle.rt_base.specs.Completion.{is_complete}
use Rattle.rt_base.specs.State.{State, opening}
use Rattle.rt_base.proofs.SameRequest.{one_request}
use Rattle.rt_base.proofs.Postings.{stays_complete}
use Rattle.match_engine.specs.Laws.{Posted}
use Rattle.task_machine.specs.Machine.{Moved, poll, polled, step, MayStep, is_expected, noticed}
use Rattle.task_machine.specs.Legal.{IsDefined, state_after, state_of}
use Rattle.task_machine.proofs.Rows.{move-row}
use Rattle.task_machine.proofs.Runs.{step-task, exists_of_move}
use Rattle.history_laws.specs.Postings.{postings_by_entry}
use Rattle.history_laws.specs.Notices.{standing}
use Rattle.history_laws.proofs.Tracing.{Traced, step_adds, at_opening, past}
use Rattle.history_laws.proofs.Notified.{Quiet, Notes, move_notes, completed}

-- how often a request stands in a list of notices
abbrev times : ReqNo → List ReqNo → ℕ
times q reqs = count_by (same_request q) reqs

-- no notice of an incomplete request, and at most one of another
record Once (p : Program) (x : Exchange) (notices : List ReqNo) (q : ReqNo) : Type 0 where
  none : is_complete p x q ≡ false → times q notices ≡ 0
  few : times q notices ≤ 1

-- the same of each request
abbrev AllOnce : Program → State → Type 0
AllOnce p s = (q : ReqNo) → Once p s.exchange s.notices q

times_append : (q : ReqNo) (xs ys : List ReqNo) → times q (xs ++ ys) ≡ times q xs + times q ys
times_append q xs ys = sum_by-append (λ (r : ReqNo). cond (same_request q r) 1 0) xs ys

times_one : (q r : ReqNo) → times q (r ∷ []) ≡ cond (same_request q r) 1 0
times_one q r = let e = sum_by-cons (λ (z : ReqNo). cond (same_request q z) 1 0) r [] in omega (arith, e)

one_at_most : (b : Bool) (n m : ℕ) → m ≡ n + cond b 1 0 → n ≤ 1 → (b ≡ true → n ≡ 0) → m ≤ 1
one_at_most true n m is few new = let e = new refl in omega (arith, is, e)
one_at_most false n m is few new = omega (arith, is, few)

zero_more : (b : Bool) (n m : ℕ) → m ≡ n + cond b 1 0 → n ≡ 0 → b ≡ false → m ≡ 0
zero_more true n m is none other = absurd (false≢true (sym other))
zero_more false n m is none other = omega (arith, is, none)

-- one notice more, of a request that was incomplete and is complete
one_more : (p : Program) (x y : Exchange) (notices : List ReqNo) (r q : ReqNo) → ((z : ReqNo) → is_complete p x z ≡ true → is_complete p y z ≡ true)
    → is_complete p x r ≡ false → is_complete p y r ≡ true → Once p x notices q → Once p y (notices ++ r ∷ []) q
one_more p x y notices r q stays was done o =
    let count : times q (notices ++ r ∷ []) ≡ times q notices + cond (same_request q r) 1 0 =
    times_append q notices (r ∷ []) ∙ ap (λ (n : ℕ). times q notices + n) (times_one q r) in
    record {
      none = λ undone.
          zero_more (same_request q r) (times q notices) _ count
          (o.none (false_from_ne_true (is_complete p x q) (λ c. both_ways (is_complete p y q) undone (stays q c))))
          (false_from_ne_true (same_request q r) (λ same. both_ways (is_complete p y q) undone (ap (is_complete p y) (one_request q r same) ∙ done)));
      few = one_at_most (same_request q r) (times q notices) _ count o.few (λ same. o.none (ap (is_complete p x) (one_request q r same) ∙ was));
    }

no_more : (p : Program) (x y : Exchange) (notices : List ReqNo) (q : ReqNo) → ((z : ReqNo) → is_complete p x z ≡ true → is_complete p y z ≡ true)
    → Once p x notices q → Once p y (notices ++ []) q
no_more p x y notices q stays o =
    let count : times q (notices ++ []) ≡ times q notices + times q [] = times_append q notices [] in
    record {
      none = λ undone.
          let e = o.none (false_from_ne_true (is_complete p x q) (λ c. both_ways (is_complete p y q) undone (stays q c))) in omega (arith, count, e);
      few = let e = o.few in omega (arith, count, e);
    }

-- the notices after a posting
noted_once : (p : Program) (x y : Exchange) (notices : List ReqNo) (r q : ReqNo) (complete expected : Bool)
    → ((z : ReqNo) → is_complete p x z ≡ true → is_complete p y z ≡ true) → is_complete p x r ≡ complete → is_complete p y r ≡ true
    → Once p x notices q → Once p y (notices ++ cond (not complete && expected) (r ∷ []) []) q
noted_once p x y notices r q true expected stays was done o = no_more p x y notices q stays o
noted_once p x y notices r q false false stays was done o = no_more p x y notices q stays o
noted_once p x y notices r q false true stays was done o = one_more p x y notices r q stays was done o

posting_once : (p : Program) (s : State) (y : Exchange) (o : Option ReqNo) (q : ReqNo)
    → ((z : ReqNo) → is_complete p s.exchange z ≡ true → is_complete p y z ≡ true)
    → ((other : ReqNo) → o ≡ Some other → is_complete p y other ≡ true) → Once p s.exchange s.notices q
    → Once p y (s.notices ++ noticed p s.tasks s.exchange o) q
posting_once p s y None q stays done once = no_more p s.exchange y s.notices q stays once
posting_once p s y (Some r) q stays done once =
    noted_once p s.exchange y s.notices r q (is_complete p s.exchange r) (is_expected p s.tasks r) stays refl (done r refl) once

-- a move
move_once : (p : Program) (s : State) (t : ℕ) (calls : List Posted) (moved : Moved) (m : ℕ) → Quiet s moved ⊎ Notes p s t m moved → Traced p s calls
    → AllOnce p s → AllOnce p moved.state
move_once p s t calls moved m (inl quiet) traced once q =
    subst (λ (x : Exchange). Once p x moved.state.notices q) (sym quiet.same)
    (subst (λ (ns : List ReqNo). Once p s.exchange ns q) (sym quiet.none) (once q))
move_once p s t calls moved m (inr notes) traced once q =
    let o = partner p s.exchange (request t m) notes.cells in
    let stays : (z : ReqNo) → is_complete p s.exchange z ≡ true → is_complete p moved.state.exchange z ≡ true =
    λ z c. ap (λ (x : Exchange). is_complete p x z) notes.posts ∙ stays_complete p s.exchange (request t m) z notes.cells c in
    subst (λ (ns : List ReqNo). Once p moved.state.exchange ns q) (sym notes.notes)
    (posting_once p s moved.state.exchange o q stays (completed p s calls (request t m) notes.cells moved.state.exchange traced notes.posts o refl) (once q))

-- a poll
polled_once : (p : Program) (s : State) (poller : ℕ) (notices : List ReqNo) → s.notices ≡ notices → AllOnce p s → AllOnce p (polled s poller notices).state
polled_once p s poller [] is once = once
polled_once p s poller (r ∷ rest) is once = λ q.
    let count = ap (times q) is ∙ sum_by-cons (λ (z : ReqNo). cond (same_request q z) 1 0) r rest in
    let o = once q in
    record {
      none = λ undone. let e = o.none undone in omega (arith, count, e);
      few = let e = o.few in omega (arith, count, e);
    }

poll_once : (p : Program) (s : State) (poller : ℕ) → AllOnce p s → AllOnce p (poll s poller).state
unfolding poll
poll_once p s poller once = polled_once p s poller s.notices refl once

step_poll_once : (p : Program) (s : State) (c : ℕ) → length p.tasks.items ≤ c → AllOnce p s → AllOnce p (step p s c).state
unfolding step
step_poll_once p s c above once = rw (past c (length p.tasks.items) above) (poll_once p s (c - length p.tasks.items) once)

step_once : (p : Program) (w : ℕ) (s : State) (c : ℕ) (calls : List Posted) → MayStep p w s c → Traced p s calls → AllOnce p s → AllOnce p (step p s c).state
step_once p w s c calls may traced once = elim may [
  | inl moves ↦
      subst (λ (m : Moved). AllOnce p m.state) (sym (step-task p s c (exists_of_move p s c moves)
      ∙ move-row p s c moves.def moves.task moves.task.phase moves.is_def moves.is_task refl))
      (move_once p s c calls _ _ (move_notes p s c moves.def moves.task moves.task.phase) traced once)
  | inr polls ↦ step_poll_once p s c polls.poller once
]

run_once : (p : Program) (w : ℕ) (s : State) (cs : List ℕ) (calls : List Posted) → IsDefined p w s cs → Traced p s calls → AllOnce p s
    → AllOnce p (state_after p s cs)
run_once p w s [] calls runs traced once = once
run_once p w s (c ∷ cs) calls runs traced once =
    run_once p w (step p s c).state cs (calls ++ postings_by_entry p s (step p s c).entry) runs.1 (step_adds p w s c calls runs.0 traced).traced
    (step_once p w s c calls runs.0 traced once)

stands_by : (b : Bool) (n : ℕ) → (b ≡ false → n ≡ 0) → n ≤ 1 → n + cond b 0 1 ≤ 1
stands_by true n none few = omega (arith, few)
stands_by false n none few = let e = none refl in omega (arith, e)

pub stands_once : (p : Program) (w : ℕ) (cs : List ℕ) → IsDefined p w (opening p) cs → (q : ReqNo) → standing p (state_of p cs) q ≤ 1
stands_once p w cs runs q =
    let o = run_once p w (opening p) cs [] runs (at_opening p) (λ r. record { none = λ undone. refl; few = omega arith }) q in
    stands_by (is_complete p (state_of p cs).exchange q) (times q (state_of p cs).notices) o.none o.few
