-- The notices of a move are the requests that it completes and that a task expects.
use Rattle.std.proofs.Common.{◌≡◌, ℕ, ◌+◌, ◌<◌, ◌≤◌, Bool, true, false, not, ◌&&◌, cond, ◌⊎◌, List, [], ◌∷◌, ◌++◌, length, slice_get, Contains, ℤ, Option}
use Rattle.std.proofs.Common.{Some, None, IfSome, refl, sym, ap, ◌∙◌, subst, inl, inr, arith}
use Rattle.std.specs.Prelude.{◌↔◌, option_map}
use Rattle.std.specs.List.{list_any}
use Rattle.std.proofs.lemmas.Bool.{or_cases, or_left, or_right, both_ways, false≢true, cases_Bool}
use Rattle.std.proofs.lemmas.List.{append-nil}
use Rattle.std.proofs.lemmas.List.Folds.{list_any-append}
use Rattle.rt_base.specs.declared.data.ReqNo.{ReqNo}
use Rattle.rt_base.specs.declared.data.Phase.{Phase}
use Rattle.rt_base.specs.declared.data.Phase.TheVariants as phase
use Rattle.rt_base.specs.declared.data.Op.{Op}
use Rattle.rt_base.specs.declared.data.Op.TheVariants as op
use Rattle.rt_base.specs.declared.data.TaskDef.{TaskDef}
use Rattle.rt_base.specs.declared.data.Program.{Program}
use Rattle.rt_base.specs.Operations.{blocks, request, nth_at, awaited_by, awaited}
use Rattle.rt_base.specs.Matching.{same_request}
use Rattle.rt_base.specs.Exchange.{Exchange, post, partner}
use Rattle.rt_base.specs.Completion.{is_complete}
use Rattle.rt_base.specs.State.{State, Task}
use Rattle.rt_base.specs.MayMove.{MayMove}
use Rattle.rt_base.proofs.SameRequest.{one_request}
use Rattle.rt_base.proofs.Postings.{only_partner}
use Rattle.match_engine.specs.Laws.{Posted}
use Rattle.match_engine.proofs.Partners.{partner_completes}
use Rattle.task_local.specs.Packed.{packed}
use Rattle.task_machine.specs.Course.{posted_by_phase}
use Rattle.task_machine.specs.Machine.{Moved, move, move_at, call_move, post_move, await_move, awaited_at, listened, phase_at, bound_at, is_expected, noticed}
use Rattle.task_machine.specs.Legal.{final}
use Rattle.task_machine.proofs.Rows.{move-row}
use Rattle.task_machine.proofs.Items.{same_some}
use Rattle.history_laws.specs.Postings.{postings_of}
use Rattle.history_laws.specs.Notices.{IsAwaited, IsExpectedBy, BecameComplete, AreNoticed, WaitsNamePosted, MovesNoticeCompletions}
use Rattle.history_laws.proofs.Counts.{nth_grows, nth_more}
use Rattle.history_laws.proofs.Tracing.{never, Traced, traced_end}
use Rattle.history_laws.proofs.Noticing.{contains_cases, nothing_in, found_in, finds, named_below, IsPostedBy, BoundArePosted, bound_end}

-- a move that posts nothing adds no notice
pub record Quiet (s : State) (moved : Moved) : Type 0 where
  pub same : moved.state.exchange ≡ s.exchange
  pub none : moved.state.notices ≡ s.notices

-- a move that posts request m of its task notes the partner, where that is incomplete and expected
pub record Notes (p : Program) (s : State) (u m : ℕ) (moved : Moved) : Type 0 where
  pub cells : List ℤ
  pub posts : moved.state.exchange ≡ post p s.exchange (request u m) cells
  pub notes : moved.state.notices ≡ s.notices ++ noticed p s.tasks s.exchange (partner p s.exchange (request u m) cells)

post_notes : (p : Program) (s : State) (u : ℕ) (def : TaskDef) (was : Task) (k : ℕ) (blocking : Bool)
    → Notes p s u (nth_at def k) (post_move p s u def was k blocking)
post_notes p s u def was k blocking = record { cells = packed def k was.copy; posts = refl; notes = refl }

await_quiet : (p : Program) (s : State) (u : ℕ) (def : TaskDef) (was : Task) (k : ℕ) (handles : _) (later : Bool)
    → Quiet s (await_move p s u def was k handles later)
await_quiet p s u def was k handles false = record { same = refl; none = refl }
await_quiet p s u def was k handles true = record { same = refl; none = refl }

call_notes : (p : Program) (s : State) (u : ℕ) (def : TaskDef) (was : Task) (k : ℕ) (o : Option Op)
    → Quiet s (call_move p s u def was k o) ⊎ Notes p s u (nth_at def k) (call_move p s u def was k o)
call_notes p s u def was k None = inl (record { same = refl; none = refl })
call_notes p s u def was k (Some (op.Compute kind dst left right value step)) = inl (record { same = refl; none = refl })
call_notes p s u def was k (Some (op.Post how span peer tag comm status)) = inr (post_notes p s u def was k (blocks how))
call_notes p s u def was k (Some (op.Await later handles status)) = inl (await_quiet p s u def was k handles.items later)

pub move_notes : (p : Program) (s : State) (u : ℕ) (def : TaskDef) (was : Task) (at : Phase)
    → Quiet s (move_at p s u def was at) ⊎ Notes p s u (posted_by_phase def at) (move_at p s u def was at)
move_notes p s u def was phase.Waiting = inl (record { same = refl; none = refl })
move_notes p s u def was (phase.At k) = call_notes p s u def was k (slice_get def.body.items k)
move_notes p s u def was (phase.In k) = inl (record { same = refl; none = refl })
move_notes p s u def was phase.Ended = inl (record { same = refl; none = refl })
move_notes p s u def was phase.Returned = inl (record { same = refl; none = refl })
move_notes p s u def was phase.Released = inl (record { same = refl; none = refl })

-- what a task awaits in an operation is its own and posted
own_if : (t n m : ℕ) (q : ReqNo) (b : Bool) → n < m → Contains (cond b (request t n ∷ []) []) q → (q.task.0 ≡ t) × (q.nth < m)
own_if t n m q true below has = elim (contains_cases (request t n) [] q has) [
  | inl same ↦ (ap (λ (r : ReqNo). r.task.0) (sym same), subst (λ (r : ReqNo). r.nth < m) same below)
  | inr more ↦ absurd (nothing_in q more)
]
own_if t n m q false below has = absurd (nothing_in q has)

awaited_op : (p : Program) (t k : ℕ) (def : TaskDef) (o : Option Op) (q : ReqNo) → WaitsNamePosted p → slice_get p.tasks.items t ≡ Some def
    → slice_get def.body.items k ≡ o
    → Contains (awaited_by t (nth_at def k) o) q → (q.task.0 ≡ t) × (q.nth < nth_at def (k + 1))
awaited_op p t k def None q waits is_def here has = absurd (nothing_in q has)
awaited_op p t k def (Some (op.Compute kind dst left right value step)) q waits is_def here has = absurd (nothing_in q has)
awaited_op p t k def (Some (op.Post how span peer tag comm status)) q waits is_def here has =
    own_if t (nth_at def k) (nth_at def (k + 1)) q (blocks how) (omega (arith, nth_more def k (op.Post how span peer tag comm status) here refl)) has
awaited_op p t k def (Some (op.Await later handles status)) q waits is_def here has =
    let own = named_below t (nth_at def k) handles.items q (λ n names. waits t k n def (op.Await later handles status) _ is_def here refl names) has in
    (own.0, omega (arith, own.1, nth_grows def k))

awaited_own : (p : Program) (t k : ℕ) (def : TaskDef) (q : ReqNo) → WaitsNamePosted p → slice_get p.tasks.items t ≡ Some def → Contains (awaited t def k) q
    → (q.task.0 ≡ t) × (q.nth < nth_at def (k + 1))
unfolding awaited
awaited_own p t k def q waits is_def has = awaited_op p t k def (slice_get def.body.items k) q waits is_def refl has

-- what is expected by a task is its own and posted
pub expected_own : (p : Program) (s : State) (t : ℕ) (q : ReqNo) → WaitsNamePosted p → BoundArePosted p s → (by : IsExpectedBy p s t q)
    → IsPostedBy p t by.task.phase q
expected_own p s t q waits own by = elim by.expects [
  | inl bound ↦ own t by.task by.is_task q bound
  | inr inside ↦
      let mine = awaited_own p t inside.k inside.def q waits inside.is_def inside.names in (
        mine.0,
        λ def is_def.
            let same : inside.def ≡ def = same_some (sym inside.is_def ∙ is_def) in
            subst (λ (e : TaskDef). q.nth < posted_by_phase e by.task.phase) same (omega (arith, mine.1, ap (posted_by_phase inside.def) inside.inside)),
      )
]

-- what a task is about to post, nobody expects yet
not_itself : (p : Program) (s : State) (u : ℕ) (d : TaskDef) (was : Task) (t : ℕ) (q : ReqNo) → WaitsNamePosted p → BoundArePosted p s
    → slice_get p.tasks.items u ≡ Some d
    → slice_get s.tasks u ≡ Some was → IsExpectedBy p s t q → same_request (request u (posted_by_phase d was.phase)) q ≡ false
not_itself p s u d was t q waits own is_d is_task by = never _ (λ same.
    let e : request u (posted_by_phase d was.phase) ≡ q = one_request (request u (posted_by_phase d was.phase)) q same in
    let mine = expected_own p s t q waits own by in
    let here : t ≡ u = sym mine.0 ∙ sym (ap (λ (r : ReqNo). r.task.0) e) in
    let task : by.task ≡ was = same_some (sym by.is_task ∙ ap (slice_get s.tasks) here ∙ is_task) in
    let less : q.nth < posted_by_phase d was.phase =
    subst (λ (z : Task). q.nth < posted_by_phase d z.phase) task (mine.1 d (ap (slice_get p.tasks.items) here ∙ is_d)) in
    absurd (omega (arith, less, ap (λ (r : ReqNo). r.nth) e)))

-- the test of the machine, and the tasks that expect a request
listened_by : (p : Program) (t : ℕ) (tasks : List Task) (task : Task) → slice_get tasks t ≡ Some task
    → listened p t (phase_at tasks t) (bound_at tasks t) ≡ task.bound ++ awaited_at t (slice_get p.tasks.items t) (Some task.phase)
listened_by p t tasks task is_task =
    ap (λ (o : Option Task). listened p t (option_map (λ (z : Task). z.phase) o) (option_map (λ (z : Task). z.bound) o)) is_task

awaited_inside : (p : Program) (t : ℕ) (at : Phase) (q : ReqNo) (inside : IsAwaited p t at q) → Contains (awaited_at t (slice_get p.tasks.items t) (Some at)) q
awaited_inside p t at q inside =
    subst (λ (reqs : List ReqNo). Contains reqs q)
    (ap (λ (o : Option Phase). awaited_at t (Some inside.def) o) (ap Some (sym inside.inside))
    ∙ ap (λ (o : Option TaskDef). awaited_at t o (Some at)) (sym inside.is_def)) inside.names

pub is_expected_by : (p : Program) (s : State) (q : ReqNo) → IsExpectedBy p s q.task.0 q → is_expected p s.tasks q ≡ true
unfolding is_expected
is_expected_by p s q by =
    let t = q.task.0 in
    let rest = awaited_at t (slice_get p.tasks.items t) (Some by.task.phase) in
    ap (list_any (same_request q)) (listened_by p t s.tasks by.task by.is_task) ∙ list_any-append (same_request q) by.task.bound rest
    ∙ elim by.expects [
      | inl bound ↦ or_left (list_any (same_request q) by.task.bound) (list_any (same_request q) rest) (finds q by.task.bound bound)
      | inr inside ↦ or_right (list_any (same_request q) by.task.bound) (list_any (same_request q) rest)
          (finds q rest (awaited_inside p t by.task.phase q inside))
    ]

inside_by : (p : Program) (t : ℕ) (o : Option TaskDef) (at : Phase) (q : ReqNo) → slice_get p.tasks.items t ≡ o → Contains (awaited_at t o (Some at)) q
    → IsAwaited p t at q
inside_by p t None at q is has = absurd (nothing_in q has)
inside_by p t (Some def) phase.Waiting q is has = absurd (nothing_in q has)
inside_by p t (Some def) (phase.At k) q is has = absurd (nothing_in q has)
inside_by p t (Some def) (phase.In k) q is has = record { def = def; k = k; is_def = is; inside = refl; names = has }
inside_by p t (Some def) phase.Ended q is has = absurd (nothing_in q has)
inside_by p t (Some def) phase.Returned q is has = absurd (nothing_in q has)
inside_by p t (Some def) phase.Released q is has = absurd (nothing_in q has)

none_listens : (t : ℕ) (o : Option TaskDef) (q : ReqNo) → list_any (same_request q) (awaited_at t o None) ≡ true → ⊥
none_listens t None q any = false≢true any
none_listens t (Some def) q any = false≢true any

expected_in : (p : Program) (s : State) (q : ReqNo) (o : Option Task) → slice_get s.tasks q.task.0 ≡ o
    → list_any (same_request q) (listened p q.task.0 (option_map (λ (z : Task). z.phase) o) (option_map (λ (z : Task). z.bound) o)) ≡ true
    → IsExpectedBy p s q.task.0 q
expected_in p s q None is any = absurd (none_listens q.task.0 (slice_get p.tasks.items q.task.0) q any)
expected_in p s q (Some task) is any =
    let t = q.task.0 in
    let rest = awaited_at t (slice_get p.tasks.items t) (Some task.phase) in
    record {
      task = task;
      is_task = is;
      expects = elim (or_cases (list_any (same_request q) task.bound) (list_any (same_request q) rest) (sym (list_any-append (same_request q) task.bound rest)
          ∙ any)) [
            | inl bound ↦ inl (found_in q task.bound bound)
            | inr inside ↦ inr (inside_by p t (slice_get p.tasks.items t) task.phase q refl (found_in q rest inside))
          ];
    }

pub who_expects : (p : Program) (s : State) (q : ReqNo) → is_expected p s.tasks q ≡ true → IsExpectedBy p s q.task.0 q
unfolding is_expected
who_expects p s q any = expected_in p s q (slice_get s.tasks q.task.0) refl any

-- the requests that became complete by a posting: none but its partner
record Posting (p : Program) (s : State) (u : ℕ) (d : TaskDef) (was : Task) (moved : Moved) : Type 0 where
  waits : WaitsNamePosted p
  own : BoundArePosted p s
  is_d : slice_get p.tasks.items u ≡ Some d
  is_task : slice_get s.tasks u ≡ Some was
  cells : List ℤ
  posts : moved.state.exchange ≡ post p s.exchange (request u (posted_by_phase d was.phase)) cells

only_by_partner : (p : Program) (s : State) (u : ℕ) (d : TaskDef) (was : Task) (moved : Moved) (by : Posting p s u d was moved) (q : ReqNo)
    → IfSome (partner p s.exchange (request u (posted_by_phase d was.phase)) by.cells) (λ other. same_request other q ≡ false)
    → BecameComplete p s moved.state q → ⊥
only_by_partner p s u d was moved by q others became =
    let req = request u (posted_by_phase d was.phase) in
    let apart = not_itself p s u d was became.t q by.waits by.own by.is_d by.is_task became.expected in
    both_ways (is_complete p s.exchange q) became.incomplete
    (sym (only_partner p s.exchange req q by.cells apart others) ∙ ap (λ (x : Exchange). is_complete p x q) (sym by.posts) ∙ became.complete)

-- the notices where the partner is known
none_noticed : (p : Program) (s : State) (u : ℕ) (d : TaskDef) (was : Task) (moved : Moved) (by : Posting p s u d was moved)
    → partner p s.exchange (request u (posted_by_phase d was.phase)) by.cells ≡ None → (q : ReqNo) → BecameComplete p s moved.state q
    → Contains {X = ReqNo} [] q
none_noticed p s u d was moved by none q became =
    absurd (only_by_partner p s u d was moved by q (subst (λ (o : Option ReqNo). IfSome o (λ other. same_request other q ≡ false)) (sym none) tt) became)

-- what became complete is the partner
is_partner : (p : Program) (s : State) (u : ℕ) (d : TaskDef) (was : Task) (moved : Moved) (by : Posting p s u d was moved) (other : ReqNo)
    → partner p s.exchange (request u (posted_by_phase d was.phase)) by.cells ≡ Some other → (q : ReqNo) → BecameComplete p s moved.state q → other ≡ q
is_partner p s u d was moved by other is q became = elim (cases_Bool (same_request other q)) [
  | inl same ↦ one_request other q same
  | inr apart ↦ absurd (only_by_partner p s u d was moved by q (subst (λ (o : Option ReqNo). IfSome o (λ r. same_request r q ≡ false)) (sym is) apart) became)
]

-- the partner is noted where it was incomplete and expected
some_noticed : (p : Program) (s : State) (u : ℕ) (d : TaskDef) (was : Task) (moved : Moved) (by : Posting p s u d was moved) (other : ReqNo)
    → partner p s.exchange (request u (posted_by_phase d was.phase)) by.cells ≡ Some other → is_complete p moved.state.exchange other ≡ true
    → (complete expected : Bool) → is_complete p s.exchange other ≡ complete → is_expected p s.tasks other ≡ expected
    → (q : ReqNo) → Contains (cond (not complete && expected) (other ∷ []) []) q ↔ BecameComplete p s moved.state q
some_noticed p s u d was moved by other is done true expected was_complete asked q = (
  λ has. absurd (nothing_in q has),
  λ became. absurd (both_ways (is_complete p s.exchange q) became.incomplete
      (ap (is_complete p s.exchange) (sym (is_partner p s u d was moved by other is q became)) ∙ was_complete)),
)
some_noticed p s u d was moved by other is done false false was_complete asked q = (
  λ has. absurd (nothing_in q has),
  λ became.
      let same = is_partner p s u d was moved by other is q became in
      let mine = expected_own p s became.t q by.waits by.own became.expected in
      let here : IsExpectedBy p s q.task.0 q = subst (λ (t : ℕ). IsExpectedBy p s t q) (sym mine.0) became.expected in
      absurd (both_ways (is_expected p s.tasks other) asked (ap (is_expected p s.tasks) same ∙ is_expected_by p s q here)),
)
some_noticed p s u d was moved by other is done false true was_complete asked q = (
  λ has. elim (contains_cases other [] q has) [
    | inl same ↦ subst (BecameComplete p s moved.state) same (record {
      incomplete = was_complete;
      complete = done;
      t = other.task.0;
      expected = who_expects p s other asked;
    })
    | inr more ↦ absurd (nothing_in q more)
  ],
  λ became. subst (Contains (other ∷ [])) (is_partner p s u d was moved by other is q became) (0, omega arith, refl),
)

one_if : (b : Bool) (other : ReqNo) → length (cond b (other ∷ []) []) ≤ 1
one_if true other = omega arith
one_if false other = omega arith

posting_notes : (p : Program) (s : State) (u : ℕ) (d : TaskDef) (was : Task) (moved : Moved) (by : Posting p s u d was moved) (o : Option ReqNo)
    → partner p s.exchange (request u (posted_by_phase d was.phase)) by.cells ≡ o
    → ((other : ReqNo) → o ≡ Some other → is_complete p moved.state.exchange other ≡ true)
    → moved.state.notices ≡ s.notices ++ noticed p s.tasks s.exchange o → AreNoticed p s moved.state
posting_notes p s u d was moved by None is done notes = record {
  added = [];
  notices = notes;
  few = omega arith;
  exactly = λ q. (λ has. absurd (nothing_in q has), none_noticed p s u d was moved by is q);
}
posting_notes p s u d was moved by (Some other) is done notes = record {
  added = noticed p s.tasks s.exchange (Some other);
  notices = notes;
  few = one_if (not (is_complete p s.exchange other) && is_expected p s.tasks other) other;
  exactly = some_noticed p s u d was moved by other is (done other refl) (is_complete p s.exchange other) (is_expected p s.tasks other) refl refl;
}

quiet_notes : (p : Program) (s : State) (moved : Moved) → Quiet s moved → AreNoticed p s moved.state
quiet_notes p s moved quiet = record {
  added = [];
  notices = quiet.none ∙ sym (append-nil s.notices);
  few = omega arith;
  exactly = λ q. (
    λ has. absurd (nothing_in q has),
    λ became. absurd (both_ways (is_complete p s.exchange q) became.incomplete (ap (λ (x : Exchange). is_complete p x q) (sym quiet.same) ∙ became.complete)),
  );
}

-- after these postings a partner is completed
pub completed : (p : Program) (s : State) (calls : List Posted) (req : ReqNo) (cells : List ℤ) (after_it : Exchange) → Traced p s calls
    → after_it ≡ post p s.exchange req cells
    → (o : Option ReqNo) → partner p s.exchange req cells ≡ o → (other : ReqNo) → o ≡ Some other → is_complete p after_it other ≡ true
completed p s calls req cells after_it traced posts o is other some =
    ap (λ (x : Exchange). is_complete p x other) (posts ∙ ap (λ (x : Exchange). post p x req cells) traced.exchange)
    ∙ partner_completes p p.ranks calls req other cells traced.new (ap (λ (x : Exchange). partner p x req cells) (sym traced.exchange) ∙ is ∙ some)

-- the notices of a move, where each bound request was posted and the exchange is that of postings
pub noticed_at : (p : Program) (s : State) (t : ℕ) (calls : List Posted) → WaitsNamePosted p → BoundArePosted p s → Traced p s calls → MayMove p s t
    → AreNoticed p s (move p s t).state
noticed_at p s t calls waits own traced may =
    let moved = move_at p s t may.def may.task may.task.phase in
    subst (λ (m : Moved). AreNoticed p s m.state) (sym (move-row p s t may.def may.task may.task.phase may.is_def may.is_task refl))
    (elim (move_notes p s t may.def may.task may.task.phase) [
      | inl quiet ↦ quiet_notes p s moved quiet
      | inr notes ↦
          let req = request t (posted_by_phase may.def may.task.phase) in
          posting_notes p s t may.def may.task moved
          (record { waits = waits; own = own; is_d = may.is_def; is_task = may.is_task; cells = notes.cells; posts = notes.posts })
          (partner p s.exchange req notes.cells) refl
          (completed p s calls req notes.cells moved.state.exchange traced notes.posts (partner p s.exchange req notes.cells) refl)
          notes.notes
    ])

pub noticed_law : MovesNoticeCompletions
noticed_law p w entries statuses legal waits t may =
    noticed_at p (final p entries) t (postings_of p entries) waits (bound_end p w entries statuses legal waits) (traced_end p w entries statuses legal) may
