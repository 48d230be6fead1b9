-- What each kind of move of a task changes, in the task and in the lists.
use Rattle.std.proofs.Common.{◌≡◌, ◌≢◌, ℕ, ◌+◌, ◌-◌, ◌*◌, ◌<◌, ◌≤◌, Bool, true, false, ◌&&◌, ◌||◌, not, ◌⊎◌, List, [], ◌∷◌, ◌++◌, length, drop, slice_get}
use Rattle.std.proofs.Common.{slice_set, Some, None, Option, refl, sym, ap, ◌∙◌, inl, inr, cond, subst, arith}
use Rattle.std.specs.Prelude.{ℤ, ◌==◌, sum_by}
use Rattle.std.specs.List.{list_any}
use Rattle.std.proofs.lemmas.List.{length-append, length-drop}
use Rattle.std.proofs.lemmas.List.Sums.{sum_by-cons, count_by_more_yes, count_by_more_no}
use Rattle.std.proofs.lemmas.List.Folds.{list_any-append}
use Rattle.std.proofs.lemmas.Bool.Decides.{nat_tests}
use Rattle.std.proofs.lemmas.Option.{slice_get_within, get_or_from_slice_get}
use Rattle.rt_base.specs.Listing.{Listing}
use Rattle.rt_base.specs.declared.data.ReqNo.{ReqNo}
use Rattle.rt_base.specs.declared.data.Span.{Span}
use Rattle.rt_base.specs.declared.data.How.{How}
use Rattle.rt_base.specs.declared.data.Peer.{Peer}
use Rattle.rt_base.specs.declared.data.TagSel.{TagSel}
use Rattle.rt_base.specs.declared.data.Handle.{Handle}
use Rattle.rt_base.specs.declared.data.Op.{Op}
use Rattle.rt_base.specs.declared.data.Op.TheVariants as op
use Rattle.rt_base.specs.declared.data.Phase.TheVariants as phase
use Rattle.rt_base.specs.declared.data.TaskDef.{TaskDef}
use Rattle.rt_base.specs.declared.data.Program.{Program}
use Rattle.rt_base.specs.Operations.{request, blocks, is_posting, named_requests, nth_at, postings}
use Rattle.rt_base.specs.Matching.{same_request}
use Rattle.rt_base.specs.Exchange.{Exchange, post, partner}
use Rattle.rt_base.specs.Completion.{is_posted, is_complete}
use Rattle.rt_base.specs.State.{State, Task}
use Rattle.task_local.specs.Local.{stop}
use Rattle.task_local.specs.Packed.{packed}
use Rattle.task_local.specs.Waits.{handles_of, status_span_of, statuses_of, told, told_by, taken_later, taken_by_handles, told_at_release}
use Rattle.task_machine.specs.Machine.{start_move, return_move, leave_move, post_move, wait_move, bind_move, release_move, posted_task, noticed, is_expected}
use Rattle.task_machine.specs.Course.{moves_left, posted_by_phase}
use Rattle.task_machine.specs.Laws.{is_blocking_call}
use Rattle.tidy_runs.specs.Tidy.{bindings}
use Rattle.task_machine.proofs.Stops.{posted_by-stop, left_at_stop, stop_started}
use Rattle.run_bounds.specs.Fits.{MayStand}
use Rattle.run_bounds.specs.Bounds.{tells_late}
use Rattle.run_bounds.proofs.Rooms.{postings_left}
use Rattle.run_bounds.proofs.Tells.{to_tell, at_drop, drop_next, tell_by_stop, tell_next, stop_is_placed, posted_within, blocking_there, told_few}
use Rattle.run_bounds.proofs.Tells.{statuses_each}

-- what a move of task t changes: the task alone of the tasks, and the lists by no more than the task can add less from then on
pub record Changes (s : State) (t : ℕ) (def : TaskDef) (was : Task) (new : State) : Type 0 where
  pub now : Task
  pub tasks : new.tasks ≡ slice_set s.tasks t now
  pub fewer : moves_left (length def.body.items) now.phase + 1 ≤ moves_left (length def.body.items) was.phase
  pub later : posted_by_phase def was.phase ≤ posted_by_phase def now.phase
  pub posted : (u n : ℕ) → is_posted new.exchange (request u n) ≡ true
      → (is_posted s.exchange (request u n) ≡ true) ⊎ ((u ≡ t) × (n < posted_by_phase def now.phase))
  pub placed : MayStand def now.phase
  pub told : length new.statuses + to_tell def now.phase ≤ length s.statuses + to_tell def was.phase
  pub noticed : length new.notices + postings_left def now.phase ≤ length s.notices + postings_left def was.phase

pub stop_is_started : (def : TaskDef) (k : ℕ) → stop def k ≢ phase.Waiting
unfolding stop
stop_is_started def k = stop_started k (drop k def.body.items)

rest_counted : (ops : List Op) (k : ℕ) → k ≤ length ops → k + length (drop k ops) ≡ length ops
rest_counted ops k within = omega (arith, length-drop k ops)

pub fewer_at_start : (n left : ℕ) → left ≤ 2 * (n - 0) + 2 → left + 1 ≤ 2 * n + 3
fewer_at_start n left few = omega arith

-- the moves left at a stop
pub left_by_stop : (def : TaskDef) (k : ℕ) → k ≤ length def.body.items → moves_left (length def.body.items) (stop def k) ≤ 2 * (length def.body.items - k) + 2
unfolding stop
left_by_stop def k within = left_at_stop (length def.body.items) k (drop k def.body.items) (rest_counted def.body.items k within)

-- a move that posts nothing leaves no more to post than before
pub none_noticed : (places notices was now : ℕ) → was ≤ now → notices + (places - now) ≤ notices + (places - was)
none_noticed places notices was now later = omega arith

-- a task starts
pub start_changes : (p : Program) (s : State) (t : ℕ) (def : TaskDef) (was : Task) → was.phase ≡ phase.Waiting
    → Changes s t def was (start_move p s t def was).state
start_changes p s t def was waiting = record {
  now = _;
  tasks = refl;
  fewer = rw waiting (fewer_at_start (length def.body.items) _ (left_by_stop def 0 (omega arith)));
  later = rw waiting (omega arith);
  posted = λ u n posted. inl posted;
  placed = stop_is_placed def 0;
  told = rw waiting (omega (arith, tell_by_stop def 0));
  noticed = rw waiting (none_noticed (postings def.body.items) (length s.notices) 0 (posted_by_phase def (stop def 0)) (omega arith));
}

-- a task returns
pub return_changes : (s : State) (t : ℕ) (def : TaskDef) (was : Task) → was.phase ≡ phase.Ended → Changes s t def was (return_move s t was).state
return_changes s t def was ended = record {
  now = _;
  tasks = refl;
  fewer = rw ended (omega arith);
  later = rw ended (omega arith);
  posted = λ u n posted. inl posted;
  placed = tt;
  told = rw ended (omega arith);
  noticed = rw ended (omega arith);
}

or_false : (b : Bool) → (b || false) ≡ b
or_false true = refl
or_false false = refl

one_or_none : {X : Type 0} (b : Bool) (x : X) → length (cond b (x ∷ []) []) ≤ 1
one_or_none true x = omega arith
one_or_none false x = omega arith

same_parts : (u t n m : ℕ) → ((u == t) && (n == m)) ≡ true → (u ≡ t) × (n ≡ m)
same_parts u t n m same = grind (arith, nat_tests)

below_count : (n m count : ℕ) → n ≡ m → count ≡ m + 1 → n < count
below_count n m count same counted = omega arith

pub fewer_after_leave : (n k left : ℕ) → k < n → left ≤ 2 * (n - (k + 1)) + 2 → left + 1 ≤ 2 * (n - k) + 1
fewer_after_leave n k left within few = omega arith

-- a posting more in the body
pub nth_at-suc : (def : TaskDef) (k : ℕ) (x : Op) → slice_get def.body.items k ≡ Some x → is_posting x ≡ true → nth_at def (k + 1) ≡ nth_at def k + 1
nth_at-suc def k x here posts =
    count_by_more_yes is_posting def.body.items k x (slice_get_within def.body.items k x here)
    (ap is_posting (get_or_from_slice_get def.body.items k x x here) ∙ posts)

pub nth_at-same : (def : TaskDef) (k : ℕ) (x : Op) → slice_get def.body.items k ≡ Some x → is_posting x ≡ false → nth_at def (k + 1) ≡ nth_at def k
nth_at-same def k x here other =
    count_by_more_no is_posting def.body.items k x (slice_get_within def.body.items k x here)
    (ap is_posting (get_or_from_slice_get def.body.items k x x here) ∙ other)

-- one request more is posted
posted_after_post : (p : Program) (e : Exchange) (req other : ReqNo) (cells : List ℤ)
    → is_posted (post p e req cells) other ≡ (is_posted e other || same_request other req)
unfolding post
posted_after_post p e req other cells = list_any-append (same_request other) e.posted (req ∷ [])
    ∙ ap (λ (b : Bool). list_any (same_request other) e.posted || b) (or_false (same_request other req))

-- where a posting leaves its task
record Posted (def : TaskDef) (k : ℕ) (now : Task) : Type 0 where
  fewer : moves_left (length def.body.items) now.phase + 1 ≤ 2 * (length def.body.items - k) + 2
  count : posted_by_phase def now.phase ≡ nth_at def k + 1
  placed : MayStand def now.phase
  tells : to_tell def now.phase ≤ to_tell def (phase.In k)

fewer_by_one : (n k left : ℕ) → k < n → left ≤ 2 * (n - (k + 1)) + 2 → left + 1 ≤ 2 * (n - k) + 2
fewer_by_one n k left within few = omega arith

posted_leaves : (def : TaskDef) (k : ℕ) (was : Task) (x : Op) (blocking : Bool) → slice_get def.body.items k ≡ Some x
    → is_blocking_call (slice_get def.body.items k) ≡ blocking → nth_at def (k + 1) ≡ nth_at def k + 1
    → Posted def k (posted_task def k blocking was)
posted_leaves def k was x true here blocks more =
    let within = slice_get_within def.body.items k x here in
    record { fewer = omega arith; count = more; placed = blocks; tells = omega arith }
posted_leaves def k was x false here blocks more =
    let within = slice_get_within def.body.items k x here in
    record {
      fewer = fewer_by_one (length def.body.items) k _ within (left_by_stop def (k + 1) (omega arith));
      count = posted_by-stop def (k + 1) (omega arith) ∙ more;
      placed = stop_is_placed def (k + 1);
      tells = omega (arith, tell_next def k x here);
    }

-- at most one notice, of a request that is posted now
one_notice : (p : Program) (tasks : List Task) (e : Exchange) (other : Option ReqNo) → length (noticed p tasks e other) ≤ 1
one_notice p tasks e None = omega arith
one_notice p tasks e (Some req) = one_or_none (not (is_complete p e req) && is_expected p tasks req) req

one_noticed : (old more : List ReqNo) (places n was now : ℕ) → length more ≤ 1 → was ≡ n → now ≡ n + 1 → now ≤ places
    → length (old ++ more) + (places - now) ≤ length old + (places - was)
one_noticed old more places n was now few before after within = omega (arith, length-append old more)

-- what the request of a posting tells of another that is posted now
by_this_posting : (t u n m : ℕ) (before : Bool) → (before || same_request (request u n) (request t m)) ≡ true → (before ≡ true) ⊎ ((u ≡ t) × (n ≡ m))
by_this_posting t u n m true posted = inl refl
by_this_posting t u n m false posted = inr (same_parts u t n m posted)

-- a task posts
pub post_changes : (p : Program) (s : State) (t : ℕ) (def : TaskDef) (was : Task) (k : ℕ) (how : How) (span : Span) (peer : Peer) (tag : TagSel) (comm : ℕ)
    (status : Option Span) → was.phase ≡ phase.At k → slice_get def.body.items k ≡ Some (op.Post how span peer tag comm status)
    → Changes s t def was (post_move p s t def was k (blocks how)).state
post_changes p s t def was k how span peer tag comm status at posts =
    let x : Op = op.Post how span peer tag comm status in
    let more = nth_at-suc def k x posts refl in
    let leaves = posted_leaves def k was x (blocks how) posts (ap is_blocking_call posts) more in
    let req : ReqNo = request t (nth_at def k) in
    let cells : List ℤ = packed def k was.copy in
    let before : posted_by_phase def was.phase ≡ nth_at def k = ap (posted_by_phase def) at in
    record {
      now = posted_task def k (blocks how) was;
      tasks = refl;
      fewer = let left : moves_left (length def.body.items) was.phase ≡ 2 * (length def.body.items - k) + 2 = ap
          (moves_left (length def.body.items)) at in omega (arith, leaves.fewer);
      later = omega (arith, leaves.count);
      posted = λ u n posted. elim (by_this_posting t u n (nth_at def k) (is_posted s.exchange (request u n))
          (sym (posted_after_post p s.exchange req (request u n) cells) ∙ posted)) [
            | inl before ↦ inl before
            | inr mine ↦ inr (mine.0, below_count n (nth_at def k) _ mine.1 leaves.count)
          ];
      placed = leaves.placed;
      told = let tells : to_tell def was.phase ≡ to_tell def (phase.In k) = ap (to_tell def) at in omega (arith, leaves.tells);
      noticed = one_noticed s.notices _ (postings def.body.items) (nth_at def k) (posted_by_phase def was.phase) _
          (one_notice p s.tasks s.exchange (partner p s.exchange req cells)) before leaves.count
          (let most = posted_within def (k + 1) in omega (arith, leaves.count));
    }

-- a task goes into a wait
pub wait_changes : (p : Program) (s : State) (t : ℕ) (def : TaskDef) (was : Task) (k : ℕ) (handles : Listing Handle) (status : Option Span)
    → was.phase ≡ phase.At k → slice_get def.body.items k ≡ Some (op.Await false handles status)
    → Changes s t def was (wait_move p s t was k (named_requests t handles.items)).state
wait_changes p s t def was k handles status at waits =
    let within = slice_get_within def.body.items k (op.Await false handles status) waits in
    let same : posted_by_phase def was.phase ≡ posted_by_phase def (phase.In k) = ap (posted_by_phase def) at
    ∙ sym (nth_at-same def k (op.Await false handles status) waits refl) in
    record {
      now = _;
      tasks = refl;
      fewer = rw at (omega arith);
      later = omega arith;
      posted = λ u n posted. inl posted;
      placed = ap is_blocking_call waits;
      told = rw at (omega arith);
      noticed = none_noticed (postings def.body.items) (length s.notices) (posted_by_phase def was.phase) (posted_by_phase def (phase.In k)) (omega arith);
    }

-- a task binds, and goes on
pub bind_changes : (p : Program) (s : State) (t : ℕ) (def : TaskDef) (was : Task) (k : ℕ) (handles : Listing Handle) (status : Option Span)
    → was.phase ≡ phase.At k → slice_get def.body.items k ≡ Some (op.Await true handles status)
    → Changes s t def was (bind_move p s t def was k (named_requests t handles.items)).state
bind_changes p s t def was k handles status at binds =
    let x : Op = op.Await true handles status in
    let within = slice_get_within def.body.items k x binds in
    let before : posted_by_phase def was.phase ≡ nth_at def k = ap (posted_by_phase def) at in
    let after : posted_by_phase def (stop def (k + 1)) ≡ nth_at def k = posted_by-stop def (k + 1) (omega arith) ∙ nth_at-same def k x binds refl in
    record {
      now = _;
      tasks = refl;
      fewer =
          let left : moves_left (length def.body.items) was.phase ≡ 2 * (length def.body.items - k) + 2 = ap (moves_left (length def.body.items)) at in
          omega (arith, fewer_by_one (length def.body.items) k _ within (left_by_stop def (k + 1) (omega arith)));
      later = omega arith;
      posted = λ u n posted. inl posted;
      placed = stop_is_placed def (k + 1);
      told =
          let tells : to_tell def was.phase ≡ to_tell def (phase.In k) = ap (to_tell def) at in
          omega (arith, tell_next def k x binds);
      noticed = none_noticed (postings def.body.items) (length s.notices) (posted_by_phase def was.phase) (posted_by_phase def (stop def (k + 1)))
          (omega arith);
    }

-- a task leaves the operation in which it is
pub leave_changes : (p : Program) (s : State) (t : ℕ) (def : TaskDef) (was : Task) (k : ℕ) → was.phase ≡ phase.In k
    → is_blocking_call (slice_get def.body.items k) ≡ true → Changes s t def was (leave_move p s t def was k).state
leave_changes p s t def was k in_k blocking =
    let there = blocking_there (slice_get def.body.items k) blocking in
    let within = slice_get_within def.body.items k there.0 there.1 in
    let few = told_few p s.exchange t k def there.0 there.1 blocking in
    let next = tell_next def k there.0 there.1 in
    let long = length-append s.statuses (told p s.exchange t def k) in
    record {
      now = _;
      tasks = refl;
      fewer = rw in_k (fewer_after_leave (length def.body.items) k _ within (left_by_stop def (k + 1) (omega arith)));
      later = rw (in_k, posted_by-stop def (k + 1) (omega arith)) (omega arith);
      posted = λ u n posted. inl posted;
      placed = stop_is_placed def (k + 1);
      told = rw in_k (omega arith);
      noticed = none_noticed (postings def.body.items) (length s.notices) (posted_by_phase def was.phase) (posted_by_phase def (stop def (k + 1)))
          (rw (in_k, posted_by-stop def (k + 1) (omega arith)) (omega arith));
    }

-- what an operation that binds tells, and what it stores, at the release
pub told_there : (p : Program) (e : Exchange) (t k : ℕ) (def : TaskDef) (handles : Listing Handle) (status : Option Span)
    → slice_get def.body.items k ≡ Some (op.Await true handles status) → told p e t def k ≡ statuses_of p e t handles.items
unfolding told
told_there p e t k def handles status here = ap (told_by p e t (nth_at def k)) here

pub taken_there : (p : Program) (e : Exchange) (t k : ℕ) (def : TaskDef) (handles : Listing Handle) (status : Option Span) (copy : List ℤ)
    → slice_get def.body.items k ≡ Some (op.Await true handles status) → taken_later p e t def k copy ≡ taken_by_handles p e t def status handles.items copy
unfolding taken_later
taken_there p e t k def handles status copy here =
    ap (λ (o : Option Op). taken_by_handles p e t def (status_span_of o) (handles_of (nth_at def k) o) copy) here

-- how many statuses these operations tell at the release, where the first is operation k
pub told_late : (p : Program) (e : Exchange) (t k : ℕ) (def : TaskDef) (ops : List Op) → drop k def.body.items ≡ ops
    → length (told_at_release p e t def (bindings k ops)) ≡ sum_by tells_late ops
told_late p e t k def [] here = refl
told_late p e t k def (op.Compute kind dst left right value step ∷ ops) here =
    let x : Op = op.Compute kind dst left right value step in
    let rest : length (told_at_release p e t def (bindings k (x ∷ ops))) ≡ sum_by tells_late ops =
    told_late p e t (k + 1) def ops (drop_next def.body.items k x ops here) in
    let whole : sum_by tells_late (x ∷ ops) ≡ 0 + sum_by tells_late ops = sum_by-cons tells_late x ops in
    omega arith
told_late p e t k def (op.Post how span peer tag comm status ∷ ops) here =
    let x : Op = op.Post how span peer tag comm status in
    let rest : length (told_at_release p e t def (bindings k (x ∷ ops))) ≡ sum_by tells_late ops =
    told_late p e t (k + 1) def ops (drop_next def.body.items k x ops here) in
    let whole : sum_by tells_late (x ∷ ops) ≡ 0 + sum_by tells_late ops = sum_by-cons tells_late x ops in
    omega arith
told_late p e t k def (op.Await false handles status ∷ ops) here =
    let x : Op = op.Await false handles status in
    let rest : length (told_at_release p e t def (bindings k (x ∷ ops))) ≡ sum_by tells_late ops =
    told_late p e t (k + 1) def ops (drop_next def.body.items k x ops here) in
    let whole : sum_by tells_late (x ∷ ops) ≡ 0 + sum_by tells_late ops = sum_by-cons tells_late x ops in
    omega arith
told_late p e t k def (op.Await true handles status ∷ ops) here =
    let x : Op = op.Await true handles status in
    let rest = told_late p e t (k + 1) def ops (drop_next def.body.items k x ops here) in
    let whole : sum_by tells_late (x ∷ ops) ≡ length handles.items + sum_by tells_late ops = sum_by-cons tells_late x ops in
    let own : length (told p e t def k) ≡ length handles.items =
    ap (λ (z : _). length z) (told_there p e t k def handles status (at_drop def.body.items k x ops here)) ∙ statuses_each p e t handles.items in
    let both : length (told_at_release p e t def (bindings k (x ∷ ops)))
    ≡ length (told p e t def k) + length (told_at_release p e t def (bindings (k + 1) ops)) =
    length-append (told p e t def k) (told_at_release p e t def (bindings (k + 1) ops)) in
    omega arith

-- a task lets go, once it has stored and told what it has bound
pub release_changes : (p : Program) (s : State) (t : ℕ) (def : TaskDef) (was : Task) → was.phase ≡ phase.Returned → was.named ≡ bindings 0 def.body.items
    → Changes s t def was (release_move p s t def was).state
release_changes p s t def was returned named =
    let tells : to_tell def was.phase ≡ sum_by tells_late def.body.items = ap (to_tell def) returned in
    let long = length-append s.statuses (told_at_release p s.exchange t def was.named) in
    let late : length (told_at_release p s.exchange t def was.named) ≡ sum_by tells_late def.body.items =
    ap (λ (ks : List ℕ). length (told_at_release p s.exchange t def ks)) named ∙ told_late p s.exchange t 0 def def.body.items refl in
    record {
      now = _;
      tasks = refl;
      fewer = rw returned (omega arith);
      later = rw returned (omega arith);
      posted = λ u n posted. inl posted;
      placed = tt;
      told = omega arith;
      noticed = rw returned (omega arith);
    }
