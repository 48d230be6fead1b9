-- The postings along a run.
use Rattle.std.proofs.Common.{◌≡◌, ◌≢◌, ℕ, ◌+◌, ◌<◌, ◌≤◌, Bool, true, false, ◌⊎◌, List, [], ◌∷◌, ◌++◌, map, length, slice_get, slice_set, Option, Some, None}
use Rattle.std.proofs.Common.{refl, sym, ap, ◌∙◌, subst, inl, inr, arith, append_assoc}
use Rattle.std.specs.Prelude.{Contains, ℤ, nat_lt}
use Rattle.std.proofs.lemmas.Bool.Decides.{nat_tests}
use Rattle.std.proofs.lemmas.List.{append-nil, map-append}
use Rattle.std.proofs.lemmas.List.Concat.{flat_map-cons}
use Rattle.std.proofs.lemmas.Option.{slice_get_within}
use Rattle.rt_base.specs.declared.data.ReqNo.{ReqNo}
use Rattle.rt_base.specs.declared.data.Phase.{Phase}
use Rattle.rt_base.specs.declared.data.Phase.TheVariants as phase
use Rattle.rt_base.specs.declared.data.Op.{Op}
use Rattle.rt_base.specs.declared.data.Op.TheVariants as op
use Rattle.rt_base.specs.declared.data.Status.{Status}
use Rattle.rt_base.specs.declared.data.Entry.{Entry}
use Rattle.rt_base.specs.declared.data.TaskDef.{TaskDef}
use Rattle.rt_base.specs.declared.data.Program.{Program}
use Rattle.rt_base.specs.Operations.{blocks, request, nth_at, is_posting}
use Rattle.rt_base.specs.Matching.{same_request}
use Rattle.rt_base.specs.Exchange.{Exchange, Posting, Sent, Asked, Nowhere, silent, mailbox_of, exchange_after, what_is_posted, post}
use Rattle.rt_base.specs.Completion.{is_posted}
use Rattle.rt_base.specs.State.{State, Task, opening, waiting_task}
use Rattle.match_engine.specs.Laws.{Posted, IsOwn, after, AreNew, NothingMatchesIsLeft}
use Rattle.rt_base.proofs.Postings.{IsOf, what_is_of, post_keeps}
use Rattle.rt_base.proofs.SameRequest.{one_request}
use Rattle.task_local.specs.Local.{stop}
use Rattle.task_local.specs.Packed.{packed}
use Rattle.task_machine.specs.Course.{posted_by_phase}
use Rattle.task_machine.specs.Machine.{Moved, move_at, call_move, post_move, await_move, poll, polled, step, MayStep}
use Rattle.task_machine.specs.Legal.{IsDefined, state_after, entries_after, caller, callers, final, IsLegal}
use Rattle.task_machine.proofs.Rows.{move-row}
use Rattle.task_machine.proofs.Lists.{slice_get-set_same, slice_get-set_other}
use Rattle.task_machine.proofs.Items.{either_place, at_replicate, same_some}
use Rattle.task_machine.proofs.Runs.{step-task, exists_of_move}
use Rattle.history_laws.specs.Postings.{posted_at, posted_in, posted_by_entry, all_posted, cells_at_call, cells_of_entry, postings_by_entry, postings_from}
use Rattle.history_laws.specs.Postings.{postings_of, HistoriesPostInOrder, NothingMatchesAtTheEnd}
use Rattle.history_laws.proofs.Counts.{nth_grows, nth_more, posted_at_stop}

-- a move that posts nothing
pub record Silent (p : Program) (s : State) (moved : Moved) : Type 0 where
  pub same : moved.state.exchange ≡ s.exchange
  pub none : posted_by_entry p moved.entry ≡ []

-- a move that posts the next request of its task
pub record Posts (p : Program) (s : State) (u : ℕ) (def : TaskDef) (was now : Phase) (moved : Moved) : Type 0 where
  pub cells : List ℤ
  pub posts : moved.state.exchange ≡ post p s.exchange (request u (posted_by_phase def was)) cells
  pub sends : cells_of_entry p s moved.entry ≡ cells
  pub one : posted_by_entry p moved.entry ≡ request u (posted_by_phase def was) ∷ []
  pub less : posted_by_phase def was + 1 ≤ posted_by_phase def now

-- what a move of task u changes
pub record Row (p : Program) (s : State) (u : ℕ) (def : TaskDef) (was : Phase) (moved : Moved) : Type 0 where
  pub now : Task
  pub here : slice_get moved.state.tasks u ≡ Some now
  pub others : (t : ℕ) → t ≢ u → slice_get moved.state.tasks t ≡ slice_get s.tasks t
  pub later : posted_by_phase def was ≤ posted_by_phase def now.phase
  pub kind : Silent p s moved ⊎ Posts p s u def was now.phase moved

pub set_here : (tasks : List Task) (t : ℕ) (was now : Task) → slice_get tasks t ≡ Some was → slice_get (slice_set tasks t now) t ≡ Some now
set_here tasks t was now here = slice_get-set_same tasks t now (slice_get_within tasks t was here)

-- what a call posts
call_posts : (p : Program) (u k n : ℕ) (def : TaskDef) (o : Option Op) → slice_get p.tasks.items u ≡ Some def → slice_get def.body.items k ≡ o
    → posted_in u k (slice_get p.tasks.items u) ≡ posted_at u k def o
call_posts p u k n def o is_def here = ap (posted_in u k) is_def ∙ ap (posted_at u k def) here

-- the cells that a call sends are those of the copy of its task
call_sends : (p : Program) (s : State) (u k : ℕ) (def : TaskDef) (was : Task) → slice_get p.tasks.items u ≡ Some def → slice_get s.tasks u ≡ Some was
    → cells_at_call k (slice_get p.tasks.items u) (slice_get s.tasks u) ≡ packed def k was.copy
call_sends p s u k def was is_def is_task =
    ap (λ (o : Option TaskDef). cells_at_call k o (slice_get s.tasks u)) is_def ∙ ap (cells_at_call k (Some def)) is_task

-- the row of a posting
post_row : (p : Program) (s : State) (u : ℕ) (def : TaskDef) (was : Task) (k : ℕ) (x : Op) (blocking : Bool) → slice_get p.tasks.items u ≡ Some def
    → slice_get s.tasks u ≡ Some was
    → slice_get def.body.items k ≡ Some x → is_posting x ≡ true → posted_at u k def (Some x) ≡ request u (nth_at def k) ∷ []
    → Row p s u def (phase.At k) (post_move p s u def was k blocking)
post_row p s u def was k x true is_def is_task here posting posts =
    let more = nth_more def k x here posting in
    record {
      now = record was { phase = phase.In k };
      here = set_here s.tasks u was _ is_task;
      others = λ t other. slice_get-set_other s.tasks u t _ other;
      later = omega (arith, more);
      kind = inr (record {
        cells = packed def k was.copy;
        posts = refl;
        sends = call_sends p s u k def was is_def is_task;
        one =
            call_posts p u k 0 def (Some x) is_def here ∙ posts;
        less = omega (arith, more);
      });
    }
post_row p s u def was k x false is_def is_task here posting posts =
    let more = nth_more def k x here posting in
    let at = posted_at_stop def (k + 1) in
    record {
      now = record was { phase = stop def (k + 1); copy = _ };
      here = set_here s.tasks u was _ is_task;
      others = λ t other. slice_get-set_other s.tasks u t _ other;
      later = omega (arith, more, at);
      kind = inr (record {
        cells = packed def k was.copy;
        posts = refl;
        sends = call_sends p s u k def was is_def is_task;
        one =
            call_posts p u k 0 def (Some x) is_def here ∙ posts;
        less = omega (arith, more, at);
      });
    }

await_row : (p : Program) (s : State) (u : ℕ) (def : TaskDef) (was : Task) (k : ℕ) (x : Op) (handles : _) (later : Bool)
    → slice_get p.tasks.items u ≡ Some def → slice_get s.tasks u ≡ Some was
    → slice_get def.body.items k ≡ Some x → posted_at u k def (Some x) ≡ [] → Row p s u def (phase.At k) (await_move p s u def was k handles later)
await_row p s u def was k x handles false is_def is_task here posts =
    let grows = nth_grows def k in
    record {
      now = record was { phase = phase.In k };
      here = set_here s.tasks u was _ is_task;
      others = λ t other. slice_get-set_other s.tasks u t _ other;
      later = grows;
      kind = inl (record { same = refl; none = call_posts p u k 0 def (Some x) is_def here ∙ posts });
    }
await_row p s u def was k x handles true is_def is_task here posts =
    let grows = nth_grows def k in
    let at = posted_at_stop def (k + 1) in
    record {
      now = _;
      here = set_here s.tasks u was _ is_task;
      others = λ t other. slice_get-set_other s.tasks u t _ other;
      later = omega (arith, grows, at);
      kind = inl (record { same = refl; none = call_posts p u k 0 def (Some x) is_def here ∙ posts });
    }

stays_row : (p : Program) (s : State) (u : ℕ) (def : TaskDef) (was : Task) (moved : Moved) → slice_get s.tasks u ≡ Some was → moved.state ≡ s
    → posted_by_entry p moved.entry ≡ [] → Row p s u def was.phase moved
stays_row p s u def was moved is_task same none = record {
  now = was;
  here = ap (λ (z : State). slice_get z.tasks u) same ∙ is_task;
  others = λ t other. ap (λ (z : State). slice_get z.tasks t) same;
  later = omega arith;
  kind = inl (record { same = ap (λ (z : State). z.exchange) same; none = none });
}

call_row : (p : Program) (s : State) (u : ℕ) (def : TaskDef) (was : Task) (k : ℕ) (o : Option Op) → slice_get p.tasks.items u ≡ Some def
    → slice_get s.tasks u ≡ Some was
    → was.phase ≡ phase.At k → slice_get def.body.items k ≡ o → Row p s u def was.phase (call_move p s u def was k o)
call_row p s u def was k None is_def is_task at here = stays_row p s u def was _ is_task refl refl
call_row p s u def was k (Some (op.Compute kind dst left right value step)) is_def is_task at here = stays_row p s u def was _ is_task refl refl
call_row p s u def was k (Some (op.Post how span peer tag comm status)) is_def is_task at here =
    subst (λ (z : Phase). Row p s u def z (post_move p s u def was k (blocks how))) (sym at)
    (post_row p s u def was k (op.Post how span peer tag comm status) (blocks how) is_def is_task here refl refl)
call_row p s u def was k (Some (op.Await later handles status)) is_def is_task at here =
    subst (λ (z : Phase). Row p s u def z (await_move p s u def was k handles.items later)) (sym at)
    (await_row p s u def was k (op.Await later handles status) handles.items later is_def is_task here refl)

-- a move that leads its task on, and posts nothing
on_row : (p : Program) (s : State) (u : ℕ) (def : TaskDef) (was now : Task) (moved : Moved) → slice_get s.tasks u ≡ Some was
    → moved.state.tasks ≡ slice_set s.tasks u now
    → posted_by_phase def was.phase ≤ posted_by_phase def now.phase → moved.state.exchange ≡ s.exchange → posted_by_entry p moved.entry ≡ []
    → Row p s u def was.phase moved
on_row p s u def was now moved is_task tasks later same none = record {
  now = now;
  here = ap (λ (zs : List Task). slice_get zs u) tasks ∙ set_here s.tasks u was now is_task;
  others = λ t other. ap (λ (zs : List Task). slice_get zs t) tasks ∙ slice_get-set_other s.tasks u t now other;
  later = later;
  kind = inl (record { same = same; none = none });
}

none_before : (def : TaskDef) (at : Phase) (m : ℕ) → at ≡ phase.Waiting → posted_by_phase def at ≤ m
none_before def at m waits = subst (λ n. n ≤ m) (sym (ap (posted_by_phase def) waits)) (omega arith)

as_before : (def : TaskDef) (old new : Phase) (m : ℕ) → posted_by_phase def old ≡ m → posted_by_phase def new ≡ m
    → posted_by_phase def old ≤ posted_by_phase def new
as_before def old new m before now = omega (arith, before, now)

pub move_row : (p : Program) (s : State) (u : ℕ) (def : TaskDef) (was : Task) (at : Phase) → slice_get p.tasks.items u ≡ Some def
    → slice_get s.tasks u ≡ Some was
    → was.phase ≡ at → Row p s u def was.phase (move_at p s u def was at)
move_row p s u def was phase.Waiting is_def is_task at = on_row p s u def was _ _ is_task refl (none_before def was.phase _ at) refl refl
move_row p s u def was (phase.At k) is_def is_task at = call_row p s u def was k (slice_get def.body.items k) is_def is_task at refl
move_row p s u def was (phase.In k) is_def is_task at =
    on_row p s u def was _ _ is_task refl (as_before def was.phase (stop def (k + 1)) (nth_at def (k + 1)) (ap (posted_by_phase def) at)
    (posted_at_stop def (k + 1))) refl refl
move_row p s u def was phase.Ended is_def is_task at =
    on_row p s u def was _ _ is_task refl (as_before def was.phase phase.Returned _ (ap (posted_by_phase def) at) refl) refl refl
move_row p s u def was phase.Returned is_def is_task at =
    on_row p s u def was _ _ is_task refl (as_before def was.phase phase.Released _ (ap (posted_by_phase def) at) refl) refl refl
move_row p s u def was phase.Released is_def is_task at = stays_row p s u def was _ is_task refl refl

-- a task has posted no request but those of the operations that it has passed
pub record Bound (p : Program) (t : ℕ) (def : TaskDef) (s : State) : Type 0 where
  pub was : Task
  pub is_task : slice_get s.tasks t ≡ Some was
  pub few : (n : ℕ) → is_posted s.exchange (request t n) ≡ true → n < posted_by_phase def was.phase

-- the state is the one after these postings
pub record Traced (p : Program) (s : State) (calls : List Posted) : Type 0 where
  pub exchange : s.exchange ≡ after (silent p.ranks) calls
  pub new : AreNew (silent p.ranks) calls
  pub bound : (t : ℕ) (def : TaskDef) → slice_get p.tasks.items t ≡ Some def → Bound p t def s

-- one posting more at the end
after_push : (x : Exchange) (calls : List Posted) (call : Posted) → after x (calls ++ call ∷ []) ≡ exchange_after (after x calls) call.request call.posting
after_push x [] call = refl
after_push x (first ∷ calls) call = after_push (exchange_after x first.request first.posting) calls call

new_push : (x : Exchange) (calls : List Posted) (call : Posted) → AreNew x calls → IsOwn call.request call.posting
    → is_posted (after x calls) call.request ≡ false → AreNew x (calls ++ call ∷ [])
new_push x [] call new own fresh = (own, fresh, tt)
new_push x (first ∷ calls) call new own fresh = (new.0, new.1, new_push (exchange_after x first.request first.posting) calls call new.2 own fresh)

own_of : (req : ReqNo) (posting : Posting) → IsOf req posting → IsOwn req posting
own_of req (Sent to message) own = own
own_of req (Asked at wish) own = own
own_of req Nowhere own = tt

post_is : (p : Program) (x : Exchange) (req : ReqNo) (cells : List ℤ) → post p x req cells ≡ exchange_after x req (what_is_posted p req cells)
unfolding post
post_is p x req cells = refl

-- a test that can't hold
pub never : (b : Bool) → (b ≡ true → ⊥) → b ≡ false
never true denied = absurd (denied refl)
never false denied = refl

apart : (u t m n : ℕ) → t ≢ u → same_request (request u m) (request t n) ≡ false
apart u t m n other = never _ (λ same. other (sym (ap (λ (r : ReqNo). r.task.0) (one_request (request u m) (request t n) same))))

apart_nth : (u m n : ℕ) → n ≢ m → same_request (request u m) (request u n) ≡ false
apart_nth u m n other = never _ (λ same. other (sym (ap (λ (r : ReqNo). r.nth) (one_request (request u m) (request u n) same))))

-- the state that the next move leads to is the one after its postings too
pub record Adds (p : Program) (s : State) (calls : List Posted) (moved : Moved) : Type 0 where
  pub traced : Traced p moved.state (calls ++ postings_by_entry p s moved.entry)

-- the posting of a request with these cells
abbrev pub posts_with : Program → List ℤ → ReqNo → Posted
posts_with p cells req = record { request = req; posting = what_is_posted p req cells }

-- the requests of another task are as before
posted_same : (p : Program) (s : State) (u : ℕ) (def : TaskDef) (was : Phase) (moved : Moved) (row : Row p s u def was moved) (t n : ℕ) → t ≢ u
    → is_posted moved.state.exchange (request t n) ≡ is_posted s.exchange (request t n)
posted_same p s u def was moved row t n other = elim row.kind [
  | inl silent ↦ ap (λ (x : Exchange). is_posted x (request t n)) silent.same
  | inr posts ↦
      ap (λ (x : Exchange). is_posted x (request t n)) posts.posts
      ∙ post_keeps p s.exchange (request u (posted_by_phase def was)) (request t n) posts.cells (apart u t (posted_by_phase def was) n other)
]

other_bound : (p : Program) (s : State) (u : ℕ) (d : TaskDef) (at : Phase) (moved : Moved) (row : Row p s u d at moved) (t : ℕ) (def : TaskDef) → t ≢ u
    → Bound p t def s → Bound p t def moved.state
other_bound p s u d at moved row t def other b = record {
  was = b.was;
  is_task = row.others t other ∙ b.is_task;
  few = λ n posted. b.few n (sym (posted_same p s u d at moved row t n other) ∙ posted);
}

-- the requests of the task itself
own_few : (p : Program) (s : State) (u : ℕ) (def : TaskDef) (was : Phase) (moved : Moved) (row : Row p s u def was moved)
    → ((n : ℕ) → is_posted s.exchange (request u n) ≡ true → n < posted_by_phase def was)
    → (n : ℕ) → is_posted moved.state.exchange (request u n) ≡ true → n < posted_by_phase def row.now.phase
own_few p s u def was moved row few n posted = elim row.kind [
  | inl silent ↦
      let old = few n (sym (ap (λ (x : Exchange). is_posted x (request u n)) silent.same) ∙ posted) in
      let later = row.later in
      omega (arith, old, later)
  | inr posts ↦ elim (either_place n (posted_by_phase def was)) [
    | inl same ↦ let less = posts.less in omega (arith, same, less)
    | inr other ↦
        let kept = post_keeps p s.exchange (request u (posted_by_phase def was)) (request u n) posts.cells (apart_nth u (posted_by_phase def was) n other) in
        let old = few n (sym kept ∙ sym (ap (λ (x : Exchange). is_posted x (request u n)) posts.posts) ∙ posted) in
        let later = row.later in
        omega (arith, old, later)
  ]
]

own_bound : (p : Program) (s : State) (u : ℕ) (d : TaskDef) (was : Task) (moved : Moved) (row : Row p s u d was.phase moved) → slice_get s.tasks u ≡ Some was
    → Bound p u d s → Bound p u d moved.state
own_bound p s u d was moved row is_task b =
    let same : b.was ≡ was = same_some (sym b.is_task ∙ is_task) in
    record {
      was = row.now;
      is_task = row.here;
      few = own_few p s u d was.phase moved row (λ n posted. subst (λ (z : Task). n < posted_by_phase d z.phase) same (b.few n posted));
    }

all_bound : (p : Program) (s : State) (u : ℕ) (d : TaskDef) (was : Task) (moved : Moved) (row : Row p s u d was.phase moved)
    → slice_get p.tasks.items u ≡ Some d → slice_get s.tasks u ≡ Some was
    → ((t : ℕ) (def : TaskDef) → slice_get p.tasks.items t ≡ Some def → Bound p t def s) → (t : ℕ) (def : TaskDef) → slice_get p.tasks.items t ≡ Some def
    → Bound p t def moved.state
all_bound p s u d was moved row is_d is_task bound t def is_def = elim (either_place t u) [
  | inl same ↦
      let same_def : d ≡ def = same_some (sym is_d ∙ ap (slice_get p.tasks.items) (sym same) ∙ is_def) in
      subst (λ i. Bound p i def moved.state) (sym same)
      (subst (λ (e : TaskDef). Bound p u e moved.state) same_def (own_bound p s u d was moved row is_task (bound u d is_d)))
  | inr other ↦ other_bound p s u d was.phase moved row t def other (bound t def is_def)
]

-- after a move that posts nothing, and after one that posts
silent_adds : (p : Program) (s : State) (moved : Moved) (calls : List Posted) → Silent p s moved → Traced p s calls
    → ((t : ℕ) (def : TaskDef) → slice_get p.tasks.items t ≡ Some def → Bound p t def moved.state) → Adds p s calls moved
silent_adds p s moved calls silent traced bound =
    let none : postings_by_entry p s moved.entry ≡ [] = ap (map (posts_with p (cells_of_entry p s moved.entry))) silent.none in
    record {
      traced = subst (Traced p moved.state) (sym (append-nil calls) ∙ ap (λ (more : List Posted). calls ++ more) (sym none))
          (record { exchange = silent.same ∙ traced.exchange; new = traced.new; bound = bound });
    }

not_posted : (p : Program) (s : State) (u : ℕ) (d : TaskDef) (was : Task) → slice_get s.tasks u ≡ Some was → Bound p u d s
    → is_posted s.exchange (request u (posted_by_phase d was.phase)) ≡ false
not_posted p s u d was is_task b = never _ (λ posted.
    let same : b.was ≡ was = same_some (sym b.is_task ∙ is_task) in
    let less : posted_by_phase d was.phase < posted_by_phase d was.phase =
    subst (λ (z : Task). posted_by_phase d was.phase < posted_by_phase d z.phase) same (b.few _ posted) in
    absurd (omega (arith, less)))

posts_adds : (p : Program) (s : State) (u : ℕ) (d : TaskDef) (was : Task) (now : Phase) (moved : Moved) (calls : List Posted) → slice_get s.tasks u ≡ Some was
    → Bound p u d s
    → Posts p s u d was.phase now moved → Traced p s calls
    → ((t : ℕ) (def : TaskDef) → slice_get p.tasks.items t ≡ Some def → Bound p t def moved.state) → Adds p s calls moved
posts_adds p s u d was now moved calls is_task b posts traced bound =
    let req = request u (posted_by_phase d was.phase) in
    let call : Posted = posts_with p posts.cells req in
    let one : postings_by_entry p s moved.entry ≡ call ∷ [] =
    ap (map (posts_with p (cells_of_entry p s moved.entry))) posts.one ∙ ap (λ (cells : List ℤ). posts_with p cells req ∷ []) posts.sends in
    record {
      traced = subst (λ (more : List Posted). Traced p moved.state (calls ++ more)) (sym one) (record {
        exchange =
            posts.posts ∙ post_is p s.exchange req posts.cells ∙ ap (λ (x : Exchange). exchange_after x req (what_is_posted p req posts.cells)) traced.exchange
            ∙ sym (after_push (silent p.ranks) calls call);
        new = new_push (silent p.ranks) calls call traced.new (own_of req _ (what_is_of p req posts.cells))
            (ap (λ (x : Exchange). is_posted x req) (sym traced.exchange) ∙ not_posted p s u d was is_task b);
        bound = bound;
      });
    }

row_adds : (p : Program) (s : State) (u : ℕ) (d : TaskDef) (was : Task) (moved : Moved) (row : Row p s u d was.phase moved) (calls : List Posted)
    → slice_get p.tasks.items u ≡ Some d
    → slice_get s.tasks u ≡ Some was → Traced p s calls → Adds p s calls moved
row_adds p s u d was moved row calls is_d is_task traced =
    let bound = all_bound p s u d was moved row is_d is_task traced.bound in
    elim row.kind [
      | inl silent ↦ silent_adds p s moved calls silent traced bound
      | inr posts ↦ posts_adds p s u d was row.now.phase moved calls is_task (traced.bound u d is_d) posts traced bound
    ]

-- a poll
poll_traced : (p : Program) (s : State) (poller : ℕ) (notices : List ReqNo) (calls : List Posted) → Traced p s calls → Adds p s calls (polled s poller notices)
poll_traced p s poller [] calls traced = silent_adds p s _ calls (record { same = refl; none = refl }) traced traced.bound
poll_traced p s poller (req ∷ notices) calls traced =
    silent_adds p s _ calls (record { same = refl; none = refl }) traced (λ t def is_def. let b = traced.bound t def is_def in
    record { was = b.was; is_task = b.is_task; few = b.few })

poll_adds : (p : Program) (s : State) (poller : ℕ) (calls : List Posted) → Traced p s calls → Adds p s calls (poll s poller)
unfolding poll
poll_adds p s poller calls traced = poll_traced p s poller s.notices calls traced

pub past : (c n : ℕ) → n ≤ c → nat_lt c n ≡ false
past c n above = grind (arith, nat_tests)

step_poll : (p : Program) (s : State) (c : ℕ) (calls : List Posted) → length p.tasks.items ≤ c → Traced p s calls → Adds p s calls (step p s c)
unfolding step
step_poll p s c calls above traced = rw (past c (length p.tasks.items) above) (poll_adds p s _ calls traced)

-- a step of the machine
pub step_adds : (p : Program) (w : ℕ) (s : State) (c : ℕ) (calls : List Posted) → MayStep p w s c → Traced p s calls → Adds p s calls (step p s c)
step_adds p w s c calls may traced = elim may [
  | inl moves ↦
      let row = move_row p s c moves.def moves.task moves.task.phase moves.is_def moves.is_task refl in
      subst (Adds p s calls) (sym (move-row p s c moves.def moves.task moves.task.phase moves.is_def moves.is_task refl)
      ∙ sym (step-task p s c (exists_of_move p s c moves)))
      (row_adds p s c moves.def moves.task _ row calls moves.is_def moves.is_task traced)
  | inr polls ↦ step_poll p s c calls polls.poller traced
]

-- the postings of a run, behind those before it
pub along : (p : Program) (w : ℕ) (s : State) (entries : List Entry) (calls : List Posted) → IsDefined p w s (callers p entries)
    → entries ≡ entries_after p s (callers p entries) → Traced p s calls → Traced p (state_after p s (callers p entries)) (calls ++ postings_from p s entries)
along p w s [] calls runs replies traced = subst (Traced p s) (sym (append-nil calls)) traced
along p w s (e ∷ entries) calls runs replies traced =
    let c = caller (length p.tasks.items) e in
    let next = (step p s c).state in
    let first : e ≡ (step p s c).entry = cc in
    let rest : entries ≡ entries_after p next (callers p entries) = cc in
    let one = step_adds p w s c calls runs.0 traced in
    let here : Traced p next (calls ++ postings_by_entry p s e) =
    subst (λ (x : Entry). Traced p next (calls ++ postings_by_entry p s x)) (sym first) one.traced in
    subst (Traced p (state_after p next (callers p entries))) (append_assoc calls (postings_by_entry p s e) (postings_from p next entries))
    (along p w next entries (calls ++ postings_by_entry p s e) runs.1 rest here)

-- the requests of the postings are those that the entries post
requests_by : (p : Program) (cells : List ℤ) (reqs : List ReqNo) → map (λ (call : Posted). call.request) (map (posts_with p cells) reqs) ≡ reqs
requests_by p cells [] = refl
requests_by p cells (req ∷ reqs) = ap (λ (rs : List ReqNo). req ∷ rs) (requests_by p cells reqs)

requests_from : (p : Program) (s : State) (entries : List Entry) → map (λ (call : Posted). call.request) (postings_from p s entries) ≡ all_posted p entries
requests_from p s [] = refl
requests_from p s (e ∷ entries) =
    map-append (λ (call : Posted). call.request) (postings_by_entry p s e) (postings_from p (step p s (caller (length p.tasks.items) e)).state entries)
    ∙ ap (λ (rs : List ReqNo). rs ++ map (λ (call : Posted). call.request) (postings_from p (step p s (caller (length p.tasks.items) e)).state entries))
    (requests_by p (cells_of_entry p s e) (posted_by_entry p e))
    ∙ ap (λ (rs : List ReqNo). posted_by_entry p e ++ rs) (requests_from p (step p s (caller (length p.tasks.items) e)).state entries)
    ∙ sym (flat_map-cons (posted_by_entry p) e entries)

pub at_opening : (p : Program) → Traced p (opening p) []
at_opening p = record {
  exchange = refl;
  new = tt;
  bound = λ t def is_def. record {
    was = waiting_task;
    is_task = at_replicate (length p.tasks.items) waiting_task t (slice_get_within p.tasks.items t def is_def);
    few = λ n posted. absurd (cc);
  };
}

-- the state after a legal history
pub traced_end : (p : Program) (w : ℕ) (entries : List Entry) (statuses : List Status) → IsLegal p w entries statuses
    → Traced p (final p entries) (postings_of p entries)
traced_end p w entries statuses legal = along p w (opening p) entries [] legal.runs legal.replies (at_opening p)

pub in_order : HistoriesPostInOrder
in_order p w entries statuses legal =
    let end = traced_end p w entries statuses legal in
    record { posts = refl; requests = requests_from p (opening p) entries; new = end.new; exchange = end.exchange }

pub none_left : NothingMatchesIsLeft → NothingMatchesAtTheEnd
none_left law p w entries statuses legal rank message wish waits asks =
    let there = (in_order p w entries statuses legal).exchange in
    law p.ranks rank (postings_of p entries) message wish
    (subst (λ (x : Exchange). Contains (mailbox_of x rank).messages message) there waits)
    (subst (λ (x : Exchange). Contains (mailbox_of x rank).receives wish) there asks)
