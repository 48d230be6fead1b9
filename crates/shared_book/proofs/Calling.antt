-- What the call of an operation leaves: which holder issues what it opened, what it is answered, and the task after it.
use Rattle.std.proofs.Common.{◌≡◌, ℕ, zero, suc, ◌+◌, ◌≤◌, Bool, true, false, List, [], ◌∷◌, ◌++◌, length, drop, slice_get, Option, Some, None}
use Rattle.std.proofs.Common.{refl, sym, ap, ◌∙◌, subst, inl, inr, arith, ℤ, lt-ltb}
use Rattle.std.specs.Prelude.{nat_lt, if◌then◌else◌, unwrap_or, IsSome}
use Rattle.std.proofs.lemmas.Bool.{false≢true, cases_Bool, ltb-true}
use Rattle.rt_base.specs.declared.data.ReqNo.{ReqNo}
use Rattle.rt_base.specs.declared.data.Phase.{Phase}
use Rattle.rt_base.specs.declared.data.Phase.TheVariants as phase
use Rattle.rt_base.specs.declared.data.Op.{Op}
use Rattle.rt_base.specs.declared.data.Op.TheVariants as op
use Rattle.rt_base.specs.declared.data.Entry.{Entry}
use Rattle.rt_base.specs.declared.data.Entry.TheVariants as entry
use Rattle.rt_base.specs.declared.data.TaskDef.{TaskDef}
use Rattle.rt_base.specs.declared.data.Program.{Program}
use Rattle.rt_base.specs.Operations.{blocks}
use Rattle.rt_base.specs.State.{State, Task}
use Rattle.rt_base.specs.WellFormed.{WellFormed}
use Rattle.task_local.specs.Local.{stop_at, stop}
use Rattle.task_local.specs.StandsFor.{Record, StandsFor, StandsAs}
use Rattle.task_local.specs.Standing.{def, def_of, no_task, phase_before, at_phase, at_operation, IsAtCall, IsCall}
use Rattle.task_machine.specs.Machine.{move}
use Rattle.task_machine.specs.Laws.{is_blocking_call, is_call_that_opens}
use Rattle.task_machine.specs.Owed.{opened, opened_at, opened_by, opened_by_posting, IsOneOf}
use Rattle.task_machine.proofs.Items.{same_some}
use Rattle.task_machine.proofs.Owing.{calls_tell}
use Rattle.tidy_runs.specs.Openings.{Opens}
use Rattle.tidy_runs.proofs.Bodies.{own_in}
use Rattle.tidy_runs.proofs.OpenedOnce.{opened-row}
use Rattle.book_parts.specs.Ledger.{phase_after_call, LeavesPending}
use Rattle.pass_table.specs.Passes.{TableId, PassIs}
use Rattle.meet_hall.specs.Holders.{HolderIs, TicketIs}
use Rattle.shared_lists.specs.Deeds.{moves, state_seen, opened_seen}
use Rattle.shared_lists.specs.Said.{IsLiveTask}
use Rattle.listed_book.specs.Listed.{BookIs, MovesTask, state_in}
use Rattle.turn_table.specs.declared.hands.Door.TheVariants.{Pause, Events}
use Rattle.shared_tasks.specs.Values.{LiveIs}
use Rattle.shared_tasks.specs.Places.{meeting_of, requests_of, IsHolder, places_of}
use Rattle.shared_tasks.specs.Keeping.{Issued, IsLive, bound_of}
use Rattle.shared_tasks.specs.Owing.{place_in, issuing_all, AreNew}
use Rattle.shared_tasks.proofs.Opening.{new_at_pause, new_at_events, place_of_one, places-append}
use Rattle.shared_book.specs.declared.moved.Moved.TheVariants.{Done, Pending}
use Rattle.shared_book.specs.Kept.{HasPlaces}
use Rattle.shared_book.specs.Answers.{MovesOn, Calls, state_at, Pauses, IsAnswered}
use Rattle.shared_book.specs.Computed.{is_inside, answered}
use Rattle.shared_book.proofs.Moves.{at_step, moves_for, opened_for, live_for, opens_of, runs_before, task_of_record, bound_was, bound_now, left_from}
use Rattle.shared_book.proofs.Moves.{same_task_left, live_of, issued_before, issued_after}

-- ---- where a record stands that is before a call

pub at_call_place : (d : TaskDef) (at : Phase) → IsAtCall d at → (k : ℕ) × (at ≡ phase.At k) × IsCall (slice_get d.body.items k)
at_call_place d phase.Waiting no_ = absurd no_
at_call_place d (phase.At k) calls = (k, refl, calls)
at_call_place d (phase.In k) no_ = absurd no_
at_call_place d phase.Ended no_ = absurd no_
at_call_place d phase.Returned no_ = absurd no_
at_call_place d phase.Released no_ = absurd no_

stops_here : (n : ℕ) (x : Op) (ops : List Op) → IsCall (Some x) → stop_at n (x ∷ ops) ≡ phase.At n
stops_here n (op.Compute kind dst left right value step) ops calls = absurd (cc)
stops_here n (op.Post how span peer tag comm status) ops calls = refl
stops_here n (op.Await later handles status) ops calls = refl

stops_at : (n k : ℕ) (ops : List Op) → IsCall (slice_get ops k) → stop_at n (drop k ops) ≡ phase.At n
stops_at n k [] calls = absurd calls
stops_at n zero (x ∷ ops) calls = stops_here n x ops calls
stops_at n (suc k) (x ∷ ops) calls = stops_at n k ops calls

stop_at_call : (d : TaskDef) (k : ℕ) → IsCall (slice_get d.body.items k) → stop d k ≡ phase.At k
unfolding stop
stop_at_call d k calls = stops_at k k d.body.items calls

never_in : (j n : ℕ) (ops : List Op) → stop_at n ops ≡ phase.In j → ⊥
never_in j n [] is = absurd (cc)
never_in j n (op.Compute kind dst left right value step ∷ ops) is = never_in j (n + 1) ops is
never_in j n (op.Post how span peer tag comm status ∷ ops) is = absurd (cc)
never_in j n (op.Await later handles status ∷ ops) is = absurd (cc)

stop_never_in : (d : TaskDef) (k j : ℕ) → stop d k ≡ phase.In j → ⊥
unfolding stop
stop_never_in d k j = never_in j k (drop k d.body.items)

-- the task of a record is the program's
pub def_of_record : (p : Program) (held : Record) (s : State) (d : TaskDef) → StandsFor p held s → slice_get p.tasks.items held.task ≡ Some d → def held ≡ d
def_of_record p held s d st is_def =
    ap (λ (q : Program). def_of q held.task) st.same ∙ ap (λ (o : Option TaskDef). unwrap_or o no_task) is_def

-- its task is before that call
pub call_before : (p : Program) (w : ℕ) (before after : PassIs) (held left : Record) (m : MovesOn p w before after held left) → before.caller ≡ held.task
    → (o : Opens p (state_at p w before after 0 m.does) held.task) → StandsFor p held (state_seen p before.seen) → (k : ℕ) → held.phase ≡ phase.At k
    → IsCall (slice_get (def held).body.items k) → o.before.phase ≡ phase.At k
call_before p w before after held left m its o st k at calls =
    let same = def_of_record p held (state_seen p before.seen) st.def st st.is_def in
    let stops : stop st.def k ≡ st.task.phase = (subst (λ (f : Phase). StandsAs st.def f held.copy st.task) at st.stands).0 in
    ap (λ (task : Task). task.phase) (sym (task_of_record p w before after held left m its o st)) ∙ sym stops
    ∙ stop_at_call st.def k (subst (λ (d : TaskDef). IsCall (slice_get d.body.items k)) same calls)

-- ---- how many requests the call opened

posting_opens : (p : Program) (s : State) (t k : ℕ) (d : TaskDef) (task : Task) (b : Bool) → b ≡ false → opened_by_posting p s t d task k b ≡ []
posting_opens p s t k d task true no_ = absurd (false≢true (sym no_))
posting_opens p s t k d task false no_ = refl

none_by : (p : Program) (s : State) (t k : ℕ) (d : TaskDef) (task : Task) (o : Option Op) → is_call_that_opens o ≡ false → opened_by p s t d task k o ≡ []
none_by p s t k d task None no_ = refl
none_by p s t k d task (Some (op.Compute kind dst left right value step)) no_ = refl
none_by p s t k d task (Some (op.Post how span peer tag comm status)) no_ = posting_opens p s t k d task (blocks how) no_
none_by p s t k d task (Some (op.Await later handles status)) no_ = absurd (false≢true (sym no_))

-- no more than the call says
pub few_opened : (p : Program) (s : State) (t : ℕ) (o : Opens p s t) (k pending : ℕ) → o.before.phase ≡ phase.At k
    → LeavesPending (move p s t).entry pending → length (opened p s t) ≤ pending
few_opened p s t o k pending at leaves = elim (cases_Bool (is_call_that_opens (slice_get o.def.body.items k))) [
  | inl opens ↦
      let told : pending ≡ length (opened p s t) =
      subst (λ (e : Entry). LeavesPending e pending) (calls_tell p s t k o.def o.before o.is_def o.was at opens) leaves in
      omega (arith, told)
  | inr none ↦
      let empty : opened p s t ≡ [] = opened-row p s t o.def o.before o.is_def o.was ∙ ap (opened_at p s t o.def o.before) at
      ∙ none_by p s t k o.def o.before (slice_get o.def.body.items k) none in
      omega (arith, ap (λ (reqs : List ReqNo). length reqs) empty)
]

-- ---- where the call leaves the record

inside_operation : (k : ℕ) (o : Option Op) → is_inside (at_operation k o) ≡ true → ⊥
inside_operation k None is = false≢true is
inside_operation k (Some (op.Compute kind dst left right value step)) is = false≢true is
inside_operation k (Some (op.Post how span peer tag comm status)) is = false≢true is
inside_operation k (Some (op.Await later handles status)) is = false≢true is

pub inside_of : (d : TaskDef) (at : Phase) → is_inside (at_phase d at) ≡ true → (k : ℕ) × (at ≡ phase.In k)
inside_of d phase.Waiting is = absurd (false≢true is)
inside_of d (phase.At k) is = absurd (inside_operation k (slice_get d.body.items k) is)
inside_of d (phase.In k) is = (k, refl)
inside_of d phase.Ended is = absurd (false≢true is)
inside_of d phase.Returned is = absurd (false≢true is)
inside_of d phase.Released is = absurd (false≢true is)

pub outside_of : (d : TaskDef) (at : Phase) → is_inside (at_phase d at) ≡ false → (k : ℕ) → at ≡ phase.In k → ⊥
outside_of d at is k inside = false≢true (sym is ∙ ap (λ (f : Phase). is_inside (at_phase d f)) inside)

before_not_in : (d : TaskDef) (k j : ℕ) (b : Bool) → (if b then phase.At k else phase.Ended) ≡ phase.In j → ⊥
before_not_in d k j true is = absurd (cc)
before_not_in d k j false is = absurd (cc)

-- a call leads into its operation exactly where it blocks
goes_in : (d : TaskDef) (k j : ℕ) (b : Bool) → (if b then phase.In k else phase_before d (k + 1)) ≡ phase.In j → b ≡ true
goes_in d k j true is = refl
goes_in d k j false is = absurd (before_not_in d (k + 1) j (nat_lt (k + 1) (length d.body.items)) is)

pub goes_on : (d : TaskDef) (k : ℕ) (b : Bool) → (((j : ℕ) → (if b then phase.In k else phase_before d (k + 1)) ≡ phase.In j → ⊥))
    → (if b then phase.In k else phase_before d (k + 1)) ≡ phase_before d (k + 1)
goes_on d k true none = absurd (none k refl)
goes_on d k false none = refl

pub left_of_call : (p : Program) (w : ℕ) (before after : PassIs) (held left : Record) (m : MovesOn p w before after held left) (k : ℕ)
    → held.phase ≡ phase.At k → left.phase ≡ phase_after_call (def held) k
left_of_call p w before after held left m k at = ap (λ (r : Record). r.phase) (left_from p w before after held left m (phase.At k) at)

-- ---- what the call is answered

same_count : (e : Entry) (a b : ℕ) → LeavesPending e a → LeavesPending e b → a ≡ b
same_count (entry.Start task) a b one other = absurd one
same_count (entry.Call task k pending) a b one other = one ∙ sym other
same_count (entry.Leave task k from told) a b one other = absurd one
same_count (entry.Return task) a b one other = absurd one
same_count (entry.Release task from told) a b one other = absurd one
same_count (entry.Poll poller req) a b one other = absurd one

answered_by : (p : Program) (s : State) (held : Record) (k pending : ℕ) (b : Bool) → nat_lt 0 pending ≡ b → held.phase ≡ phase.At k
    → is_blocking_call (slice_get (def held).body.items k) ≡ true → LeavesPending (move p s held.task).entry pending
    → IsAnswered p s held (if b then Pending Pause else Done)
answered_by p s held k pending true some at blocking leaves = record {
  place = k;
  before = at;
  blocks = blocking;
  count = pending;
  leaves = leaves;
  some = ltb-true 0 pending some;
}
answered_by p s held k pending false none at blocking leaves = λ (pauses : Pauses p s held).
    let same = same_count (move p s held.task).entry pauses.count pending pauses.leaves leaves in
    let more : nat_lt 0 pending ≡ true = lt-ltb 0 pending (omega (arith, same, pauses.some)) in
    false≢true (sym none ∙ more)

pub answers_inside : (p : Program) (w : ℕ) (before after : PassIs) (held left : Record) (m : MovesOn p w before after held left) (k j pending : ℕ)
    → held.phase ≡ phase.At k → left.phase ≡ phase.In j → LeavesPending (move p (state_at p w before after 0 m.does) held.task).entry pending
    → IsAnswered p (state_at p w before after 0 m.does) held (answered pending)
answers_inside p w before after held left m k j pending at inside leaves =
    let blocking = goes_in (def held) k j (is_blocking_call (slice_get (def held).body.items k))
    (sym (left_of_call p w before after held left m k at) ∙ inside) in
    answered_by p (state_at p w before after 0 m.does) held k pending (nat_lt 0 pending) refl at blocking leaves

pub answers_outside : (p : Program) (w : ℕ) (before after : PassIs) (held left : Record) (m : MovesOn p w before after held left)
    → ((j : ℕ) → left.phase ≡ phase.In j → ⊥) → IsAnswered p (state_at p w before after 0 m.does) held Done
answers_outside p w before after held left m outside pauses =
    outside pauses.place
    (left_of_call p w before after held left m pauses.place pauses.before
    ∙ ap (λ (b : Bool). if b then phase.In pauses.place else phase_before (def held) (pauses.place + 1)) pauses.blocks)

-- ---- the task after the call

-- the task stands where its record does
task_left : (p : Program) (w : ℕ) (before after : PassIs) (held left : Record) (m : MovesOn p w before after held left)
    → (o : Opens p (state_at p w before after 0 m.does) held.task) → m.stands.task ≡ o.after
task_left p w before after held left m o =
    same_some (sym m.stands.is_task ∙ (ap (λ (t : ℕ). slice_get (state_seen p after.seen).tasks t) (same_task_left p w before after held left m)
    ∙ ap (λ (s : State). slice_get s.tasks held.task) m.state ∙ o.now))

pub after_inside : (p : Program) (w : ℕ) (before after : PassIs) (held left : Record) (m : MovesOn p w before after held left)
    → (o : Opens p (state_at p w before after 0 m.does) held.task) (j : ℕ) → left.phase ≡ phase.In j → o.after.phase ≡ phase.In j
after_inside p w before after held left m o j inside =
    ap (λ (task : Task). task.phase) (sym (task_left p w before after held left m o))
    ∙ (subst (λ (f : Phase). StandsAs m.stands.def f left.copy m.stands.task) inside m.stands.stands).0

stands_outside : (d : TaskDef) (k j : ℕ) (copy : List ℤ) (task : Task) (b : Bool) → StandsAs d (if b then phase.At k else phase.Ended) copy task
    → task.phase ≡ phase.In j → ⊥
stands_outside d k j copy task true stands is = stop_never_in d k j (stands.0 ∙ is)
stands_outside d k j copy task false stands is = absurd (let e : phase.Ended ≡ phase.In j = sym stands.0 ∙ is in cc)

pub after_outside : (p : Program) (w : ℕ) (before after : PassIs) (held left : Record) (m : MovesOn p w before after held left)
    → (o : Opens p (state_at p w before after 0 m.does) held.task) (k : ℕ) → left.phase ≡ phase_before (def held) (k + 1)
    → (j : ℕ) → o.after.phase ≡ phase.In j → ⊥
after_outside p w before after held left m o k there j inside =
    stands_outside m.stands.def (k + 1) j left.copy m.stands.task (nat_lt (k + 1) (length (def held).body.items))
    (subst (λ (f : Phase). StandsAs m.stands.def f left.copy m.stands.task) there m.stands.stands)
    (ap (λ (task : Task). task.phase) (task_left p w before after held left m o) ∙ inside)

issuing_held : (p : Program) (site : TableId) (t meeting : ℕ) (holder : HolderIs) (reqs : List ReqNo) → IsHolder p site t meeting holder
    → IsHolder p site t meeting (issuing_all holder reqs)
issuing_held p site t meeting holder reqs h = record { hall = h.hall; meeting_is = h.meeting_is; places = h.places; none_left = h.none_left }

pub issued_at_call : (p : Program) (live : LiveIs) (k : ℕ) → live.rec.phase ≡ phase.At k
    → Issued live.rec.phase live.pause.issued live.events.issued (bound_of p live.pass live.rec.task)
    → (live.pause.issued ≡ []) × (live.events.issued ≡ bound_of p live.pass live.rec.task)
issued_at_call p live k at issued =
    subst (λ (f : Phase). Issued f live.pause.issued live.events.issued (bound_of p live.pass live.rec.task)) at issued

-- in its operation it has issued what it awaits there
pub live_waits : (p : Program) (w : ℕ) (table site : TableId) (live : LiveIs) (after : PassIs) (left : Record) (k j : ℕ) (reqs : List ReqNo)
    → IsLive p w table site live → live.rec.phase ≡ phase.At k → left.phase ≡ phase.In j → MovesOn p w live.pass after live.rec left
    → IsLiveTask p w table left after
    → IsLive p w table site (record { rec = left; pass = after; pause = issuing_all live.pause reqs; events = live.events })
live_waits p w table site live after left k j reqs keeps at inside m task =
    let o = opens_of p w live.pass after live.rec left m in
    let issued = issued_at_call p live k at keeps.issued in
    let stays = o.stays j (after_inside p w live.pass after live.rec left m o j inside) in
    let bound : bound_of p after live.rec.task ≡ bound_of p live.pass live.rec.task =
    bound_now p w live.pass after live.rec left m o ∙ ap places_of stays ∙ sym (bound_was p w live.pass after live.rec left m keeps.task.caller o) in
    let same = same_task_left p w live.pass after live.rec left m in
    live_of p w table site live.rec.task (issuing_all live.pause reqs) live.events left after (sym same)
    (issuing_held p site live.rec.task (meeting_of Pause live.rec.task) live.pause reqs keeps.pause) keeps.events task
    (issued_after left live.rec (phase.In j) (live.pause.issued ++ places_of reqs) live.events.issued p after (bound_of p live.pass live.rec.task) inside same
    bound issued.1)

-- and else it has issued what it has bound
pub live_goes : (p : Program) (w : ℕ) (table site : TableId) (live : LiveIs) (after : PassIs) (left : Record) (k : ℕ) → IsLive p w table site live
    → live.rec.phase ≡ phase.At k → ((j : ℕ) → left.phase ≡ phase.In j → ⊥) → (m : MovesOn p w live.pass after live.rec left)
    → IsLiveTask p w table left after
    → IsLive p w table site (record {
      rec = left;
      pass = after;
      pause = live.pause;
      events = issuing_all live.events (opened p (state_at p w live.pass after 0 m.does) live.rec.task);
    })
live_goes p w table site live after left k keeps at outside m task =
    let s = state_at p w live.pass after 0 m.does in
    let reqs = opened p s live.rec.task in
    let o = opens_of p w live.pass after live.rec left m in
    let issued = issued_at_call p live k at keeps.issued in
    let call = left_of_call p w live.pass after live.rec left m k at in
    let there : left.phase ≡ phase_before (def live.rec) (k + 1) =
    call ∙ goes_on (def live.rec) k (is_blocking_call (slice_get (def live.rec).body.items k)) (λ j is. outside j (call ∙ is)) in
    let goes = o.goes (after_outside p w live.pass after live.rec left m o k there) in
    let bound : bound_of p after live.rec.task ≡ live.events.issued ++ places_of reqs =
    bound_now p w live.pass after live.rec left m o ∙ ap places_of goes ∙ places-append o.before.bound reqs
    ∙ ap (λ (ps : List ℕ). ps ++ places_of reqs) (sym (issued.1 ∙ bound_was p w live.pass after live.rec left m keeps.task.caller o)) in
    let same = same_task_left p w live.pass after live.rec left m in
    live_of p w table site live.rec.task live.pause (issuing_all live.events reqs) left after (sym same) keeps.pause
    (issuing_held p site live.rec.task (meeting_of Events live.rec.task) live.events reqs keeps.events) task
    (issued_after left live.rec (phase_before (def live.rec) (k + 1)) live.pause.issued (live.events.issued ++ places_of reqs) p after
    (live.events.issued ++ places_of reqs) there same bound
    (issued_before (def live.rec) (k + 1) live.pause.issued (live.events.issued ++ places_of reqs) (live.events.issued ++ places_of reqs) issued.0 refl))

-- ---- what the holders may issue

pub pause_may : (p : Program) (w : ℕ) (table site : TableId) (live : LiveIs) (after : PassIs) (left : Record) (k j : ℕ) → WellFormed p
    → IsLive p w table site live → live.rec.phase ≡ phase.At k → left.phase ≡ phase.In j → (m : MovesOn p w live.pass after live.rec left)
    → AreNew live.rec.task live.pause (opened p (state_at p w live.pass after 0 m.does) live.rec.task)
pause_may p w table site live after left k j well keeps at inside m =
    let o = opens_of p w live.pass after live.rec left m in
    new_at_pause p w (moves (live.pass.seen ++ m.does.since)) live.rec.task m.may well (runs_before p w live.pass after 0 m.does) o j
    (after_inside p w live.pass after live.rec left m o j inside) live.pause (issued_at_call p live k at keeps.issued).0 keeps.pause.places

pub events_may : (p : Program) (w : ℕ) (table site : TableId) (live : LiveIs) (after : PassIs) (left : Record) (k : ℕ) → WellFormed p
    → IsLive p w table site live → live.rec.phase ≡ phase.At k → ((j : ℕ) → left.phase ≡ phase.In j → ⊥) → (m : MovesOn p w live.pass after live.rec left)
    → AreNew live.rec.task live.events (opened p (state_at p w live.pass after 0 m.does) live.rec.task)
events_may p w table site live after left k well keeps at outside m =
    let o = opens_of p w live.pass after live.rec left m in
    let call = left_of_call p w live.pass after live.rec left m k at in
    let there : left.phase ≡ phase_before (def live.rec) (k + 1) =
    call ∙ goes_on (def live.rec) k (is_blocking_call (slice_get (def live.rec).body.items k)) (λ j is. outside j (call ∙ is)) in
    new_at_events p w (moves (live.pass.seen ++ m.does.since)) live.rec.task m.may well (runs_before p w live.pass after 0 m.does) o
    (after_outside p w live.pass after live.rec left m o k there) live.events
    ((issued_at_call p live k at keeps.issued).1 ∙ bound_was p w live.pass after live.rec left m keeps.task.caller o) keeps.events.places

-- the tickets of what may be issued have their places
pub places_for : (p : Program) (t : ℕ) (holder : HolderIs) (reqs : List ReqNo) (rows : List (List (Option TicketIs))) → HasPlaces p rows
    → holder.places ≡ requests_of (slice_get p.tasks.items t) → AreNew t holder reqs → (req : ReqNo) → IsOneOf req reqs → IsSome (place_in rows req)
places_for p t holder reqs rows places known new req is_in =
    let own = own_in t reqs req new.own is_in in
    let below = new.within req.nth (place_of_one t req reqs new.own is_in) in
    let at : requests_of (slice_get p.tasks.items t) ≡ requests_of (slice_get p.tasks.items req.task.0) =
    ap (λ (u : ℕ). requests_of (slice_get p.tasks.items u)) (sym own) in
    places req (omega (arith, below, known, at))

-- ---- all of a call together

-- a started task, and what the book's call made of it
pub record Called (p : Program) (w : ℕ) (table site : TableId) (book new : BookIs) (live : LiveIs) (after : PassIs) (left : Record) (pending : ℕ) : Type 0 where
  pub keeps : IsLive p w table site live
  pub moves_it : MovesOn p w live.pass after live.rec left
  pub task : IsLiveTask p w table left after
  pub place : ℕ
  pub at : live.rec.phase ≡ phase.At place
  pub listed : opened_seen new.program new.seen ≡ opened p (state_at p w live.pass after 0 moves_it.does) live.rec.task
  pub in_book : opened p (state_in book) live.rec.task ≡ opened p (state_at p w live.pass after 0 moves_it.does) live.rec.task
  pub leaves : LeavesPending (move p (state_at p w live.pass after 0 moves_it.does) live.rec.task).entry pending
  pub few : length (opened p (state_at p w live.pass after 0 moves_it.does) live.rec.task) ≤ pending

pub called_of : (p : Program) (w : ℕ) (table site : TableId) (book new : BookIs) (given live : LiveIs) (after : PassIs) (left : Record) (pending : ℕ)
    → book.program ≡ p → book.workers ≡ w → book.table ≡ table → live ≡ given → IsLive p w table site given → IsAtCall (def given.rec) given.rec.phase
    → MovesTask book new live.pass after live.rec left → LeavesPending (move book.program (state_in book) live.rec.task).entry pending
    → Called p w table site book new live after left pending
called_of p w table site book new given live after left pending same_p same_w same_t is keeps before m leaves =
    let own : IsLive p w table site live = subst (IsLive p w table site) (sym is) keeps in
    let calls = at_call_place (def live.rec) live.rec.phase (subst (λ (l : LiveIs). IsAtCall (def l.rec) l.rec.phase) (sym is) before) in
    let at_ = state_seen p (live.pass.seen ++ m.adds.does.since) in
    let here = at_step p book new live.pass after 0 same_p m.adds in
    let told : LeavesPending (move p at_ live.rec.task).entry pending =
    subst (λ (s : State). LeavesPending (move p s live.rec.task).entry pending) here
    (subst (λ (q : Program). LeavesPending (move q (state_in book) live.rec.task).entry pending) same_p leaves) in
    let moved = moves_for p w book new live.pass after live.rec left same_p same_w own.task.caller m in
    let o = opens_of p w live.pass after live.rec left moved in
    record {
      keeps = own;
      moves_it = moved;
      task = live_for p w table book left after same_p same_w same_t m.live;
      place = calls.0;
      at = calls.1;
      listed = opened_for p w book new live.pass after live.rec left same_p own.task.caller m;
      in_book = ap (λ (s : State). opened p s live.rec.task) here;
      leaves = told;
      few =
          few_opened p at_ live.rec.task o calls.0 pending
          (call_before p w live.pass after live.rec left moved own.task.caller o own.task.stands calls.0 calls.1 calls.2) told;
    }

pub few_listed : (p : Program) (w : ℕ) (table site : TableId) (book new : BookIs) (live : LiveIs) (after : PassIs) (left : Record) (pending : ℕ)
    → Called p w table site book new live after left pending → length (opened_seen new.program new.seen) ≤ pending
few_listed p w table site book new live after left pending c = subst (λ (reqs : List ReqNo). length reqs ≤ pending) (sym c.listed) c.few

pub new_inside : (p : Program) (w : ℕ) (table site : TableId) (book new : BookIs) (live : LiveIs) (after : PassIs) (left : Record) (pending j : ℕ) →
    WellFormed p
    → Called p w table site book new live after left pending → left.phase ≡ phase.In j → AreNew live.rec.task live.pause (opened_seen new.program new.seen)
new_inside p w table site book new live after left pending j well c inside =
    subst (AreNew live.rec.task live.pause) (sym c.listed) (pause_may p w table site live after left c.place j well c.keeps c.at inside c.moves_it)

pub new_outside : (p : Program) (w : ℕ) (table site : TableId) (book new : BookIs) (live : LiveIs) (after : PassIs) (left : Record) (pending : ℕ) → WellFormed p
    → Called p w table site book new live after left pending → ((j : ℕ) → left.phase ≡ phase.In j → ⊥)
    → AreNew live.rec.task live.events (opened_seen new.program new.seen)
new_outside p w table site book new live after left pending well c outside =
    subst (AreNew live.rec.task live.events) (sym c.listed) (events_may p w table site live after left c.place well c.keeps c.at outside c.moves_it)

pub calls_inside : (p : Program) (w : ℕ) (table site : TableId) (book new : BookIs) (live : LiveIs) (after : PassIs) (left : Record) (pending j : ℕ)
    → Called p w table site book new live after left pending → left.phase ≡ phase.In j
    → Calls p w live (record { rec = left; pass = after; pause = issuing_all live.pause (opened_seen new.program new.seen); events = live.events })
    (answered pending)
calls_inside p w table site book new live after left pending j c inside = record {
  moves = c.moves_it;
  answers = answers_inside p w live.pass after live.rec left c.moves_it c.place j pending c.at inside c.leaves;
  issues = ((λ k at. (ap (issuing_all live.pause) c.listed, refl)), (λ outside. absurd (outside j inside)));
}

pub calls_outside : (p : Program) (w : ℕ) (table site : TableId) (book new : BookIs) (live : LiveIs) (after : PassIs) (left : Record) (pending : ℕ)
    → Called p w table site book new live after left pending → ((j : ℕ) → left.phase ≡ phase.In j → ⊥)
    → Calls p w live (record { rec = left; pass = after; pause = live.pause; events = issuing_all live.events (opened_seen new.program new.seen) }) Done
calls_outside p w table site book new live after left pending c outside = record {
  moves = c.moves_it;
  answers = answers_outside p w live.pass after live.rec left c.moves_it outside;
  issues = ((λ k at. absurd (outside k at)), (λ out. (refl, ap (issuing_all live.events) c.listed)));
}

pub goes_live : (p : Program) (w : ℕ) (table site : TableId) (book new : BookIs) (live : LiveIs) (after : PassIs) (left : Record) (pending : ℕ)
    → Called p w table site book new live after left pending → ((j : ℕ) → left.phase ≡ phase.In j → ⊥)
    → IsLive p w table site (record { rec = left; pass = after; pause = live.pause; events = issuing_all live.events (opened_seen new.program new.seen) })
goes_live p w table site book new live after left pending c outside =
    subst (λ (reqs : List ReqNo). IsLive p w table site (record { rec = left; pass = after; pause = live.pause; events = issuing_all live.events reqs }))
    (sym c.listed) (live_goes p w table site live after left c.place c.keeps c.at outside c.moves_it c.task)
