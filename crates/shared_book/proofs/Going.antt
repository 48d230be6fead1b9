-- What comes next after a move: its task may make its next move, or it may park at the meeting where it waits.
use Rattle.std.proofs.Common.{◌≡◌, ℕ, ◌+◌, ◌≤◌, Bool, true, false, List, [], ◌∷◌, ◌++◌, length, drop, slice_get, Option, Some, option_map}
use Rattle.std.proofs.Common.{refl, sym, ap, ◌∙◌, subst, arith, ℤ}
use Rattle.std.specs.Prelude.{nat_lt, if◌then◌else◌}
use Rattle.std.proofs.lemmas.Bool.{ltb-true, ltb-false}
use Rattle.rt_base.specs.declared.data.ReqNo.{ReqNo}
use Rattle.rt_base.specs.declared.data.Phase.{Phase}
use Rattle.rt_base.specs.declared.data.Phase.TheVariants as phase
use Rattle.rt_base.specs.declared.data.Op.{Op}
use Rattle.rt_base.specs.declared.data.Op.TheVariants as op
use Rattle.rt_base.specs.declared.data.TaskDef.{TaskDef}
use Rattle.rt_base.specs.declared.data.Program.{Program}
use Rattle.rt_base.specs.Operations.{awaited}
use Rattle.rt_base.specs.Exchange.{Exchange}
use Rattle.rt_base.specs.State.{State, Task}
use Rattle.rt_base.specs.MayMove.{MayMove, MayMoveAt}
use Rattle.rt_base.specs.WellFormed.{WellFormed}
use Rattle.task_local.specs.Local.{stop_at, stop}
use Rattle.task_local.specs.StandsFor.{Record, StandsFor, StandsAs}
use Rattle.task_local.specs.Standing.{def, phase_before}
use Rattle.task_machine.specs.Machine.{move, or_none, phase_at, awaited_at}
use Rattle.task_machine.specs.Owed.{opened, IsOneOf}
use Rattle.task_machine.specs.Laws.{is_blocking_call}
use Rattle.tidy_runs.specs.Tidy.{AreOf}
use Rattle.tidy_runs.specs.Openings.{Opens}
use Rattle.tidy_runs.proofs.Bodies.{open_has}
use Rattle.tidy_runs.proofs.OpenedOnce.{opened_own}
use Rattle.tidy_runs.proofs.Tidying.{runs_are_tidy}
use Rattle.book_parts.specs.Ledger.{bound_in}
use Rattle.pass_table.specs.Passes.{TableId, PassIs}
use Rattle.shared_lists.specs.Deeds.{moves, state_seen, opened_seen}
use Rattle.shared_lists.specs.Sound.{IsSound}
use Rattle.shared_lists.proofs.Fronts.{sound_runs}
use Rattle.listed_book.specs.Listed.{BookIs}
use Rattle.turn_table.specs.declared.hands.Door.TheVariants.{Pause, Events}
use Rattle.shared_tasks.specs.Values.{FreshIs, LiveIs}
use Rattle.shared_tasks.specs.Places.{waits_at, places_of, AreAwaited}
use Rattle.shared_tasks.specs.Keeping.{Issued, IsFresh, IsLive, IsAble, MayPark, bound_of}
use Rattle.shared_tasks.specs.Owing.{issuing_all}
use Rattle.shared_tasks.proofs.Opening.{awaited_among}
use Rattle.shared_tasks.proofs.Rounds.{none_left_may}
use Rattle.shared_book.specs.declared.moved.Moved.{Moved}
use Rattle.shared_book.specs.declared.moved.Moved.TheVariants.{Done, Pending}
use Rattle.shared_book.specs.Answers.{MovesOn, state_at, GoesOn, IsReturned}
use Rattle.shared_book.specs.Computed.{answered, returned}
use Rattle.shared_book.proofs.Moves.{opens_of, issued_stays, left_from, none_ended, same_task_left}
use Rattle.shared_book.proofs.Calling.{Called, after_inside, goes_on, issued_at_call, left_of_call}

-- ---- a task that is before an operation, or at the end of its body

stop_may : (p : Program) (tasks : List Task) (x : Exchange) (t n : ℕ) (d : TaskDef) (task : Task) (ops : List Op) → MayMoveAt p tasks x t d task (stop_at n ops)
stop_may p tasks x t n d task [] = tt
stop_may p tasks x t n d task (op.Compute kind dst left right value step ∷ ops) = stop_may p tasks x t (n + 1) d task ops
stop_may p tasks x t n d task (op.Post how span peer tag comm status ∷ ops) = tt
stop_may p tasks x t n d task (op.Await later handles status ∷ ops) = tt

between_may : (p : Program) (tasks : List Task) (x : Exchange) (t k : ℕ) (d : TaskDef) (copy : List ℤ) (task : Task) (b : Bool)
    → StandsAs d (if b then phase.At k else phase.Ended) copy task → MayMoveAt p tasks x t d task task.phase
unfolding stop
between_may p tasks x t k d copy task true stands =
    subst (MayMoveAt p tasks x t d task) stands.0 (stop_may p tasks x t k d task (drop k d.body.items))
between_may p tasks x t k d copy task false stands = subst (MayMoveAt p tasks x t d task) (sym stands.0) tt

pub before_may : (p : Program) (s : State) (left : Record) (d : TaskDef) (k : ℕ) → StandsFor p left s → left.phase ≡ phase_before d k → MayMove p s left.task
before_may p s left d k st at = record {
  def = st.def;
  task = st.task;
  is_def = st.is_def;
  is_task = st.is_task;
  enabled =
      between_may p s.tasks s.exchange left.task k st.def left.copy st.task (nat_lt k (length d.body.items))
      (subst (λ (f : Phase). StandsAs st.def f left.copy st.task) at st.stands);
}

-- a task that has started
pub started_able : (p : Program) (w : ℕ) (table site : TableId) (fresh : FreshIs) (after : PassIs) (held left : Record) → IsFresh p w table site fresh
    → held.phase ≡ phase.Waiting → MovesOn p w fresh.pass after held left
    → IsAble p (record { rec = left; pass = after; pause = fresh.pause; events = fresh.events })
started_able p w table site fresh after held left keeps waits m = record {
  may =
      before_may p (state_seen p after.seen) left (def held) 0 m.stands
      (ap (λ (r : Record). r.phase) (left_from p w fresh.pass after held left m phase.Waiting waits));
  idle = keeps.none_issued.0;
}

-- a task that has left its operation
pub left_able : (p : Program) (w : ℕ) (live : LiveIs) (after : PassIs) (left : Record) (k : ℕ) → live.rec.phase ≡ phase.In k → live.pause.issued ≡ []
    → MovesOn p w live.pass after live.rec left → IsAble p (record { rec = left; pass = after; pause = live.pause; events = live.events })
left_able p w live after left k inside idle m = record {
  may =
      before_may p (state_seen p after.seen) left (def live.rec) (k + 1) m.stands
      (ap (λ (r : Record). r.phase) (left_from p w live.pass after live.rec left m (phase.In k) inside));
  idle = idle;
}

-- ---- a task that has returned

own_bound : (p : Program) (w : ℕ) (pass : PassIs) (rec : Record) → WellFormed p → IsSound p w pass.seen → StandsFor p rec (state_seen p pass.seen)
    → AreOf rec.task (bound_in (state_seen p pass.seen) rec.task)
own_bound p w pass rec well sound st =
    let tidy = runs_are_tidy p w (moves pass.seen) well (sound_runs p w pass.seen sound) rec.task st.def st.task st.is_def st.is_task in
    subst (λ (o : Option Task). AreOf rec.task (or_none (option_map (λ (task : Task). task.bound) o))) (sym st.is_task) tidy.bound.own

issued_at_end : (p : Program) (live : LiveIs) → live.rec.phase ≡ phase.Ended
    → Issued live.rec.phase live.pause.issued live.events.issued (bound_of p live.pass live.rec.task)
    → (live.pause.issued ≡ []) × (live.events.issued ≡ bound_of p live.pass live.rec.task)
issued_at_end p live ended issued =
    subst (λ (f : Phase). Issued f live.pause.issued live.events.issued (bound_of p live.pass live.rec.task)) ended issued

pub returned_goes : (p : Program) (w : ℕ) (table site : TableId) (live : LiveIs) (after : PassIs) (left : Record) (moved : Moved) → WellFormed p
    → IsLive p w table site live → live.rec.phase ≡ phase.Ended → MovesOn p w live.pass after live.rec left
    → IsReturned (state_seen p after.seen) live.rec.task moved
    → GoesOn p (record { rec = left; pass = after; pause = live.pause; events = live.events }) moved
returned_goes p w table site live after left Done well keeps ended m none =
    let s = state_seen p after.seen in
    let there : left.phase ≡ phase.Returned =
    ap (λ (r : Record). r.phase) (left_from p w live.pass after live.rec left m phase.Ended ended) in
    let empty : bound_in s left.task ≡ [] = ap (bound_in s) (same_task_left p w live.pass after live.rec left m) ∙ none in
    record {
      may = none_left_may p left s Events m.stands there (subst (AreAwaited p s.exchange left.task []) (sym empty) tt);
      idle = (issued_at_end p live ended keeps.issued).0;
    }
returned_goes p w table site live after left (Pending Pause) well keeps ended m no_ = absurd no_
returned_goes p w table site live after left (Pending Events) well keeps ended m some =
    let s = state_seen p after.seen in
    let same = same_task_left p w live.pass after live.rec left m in
    let own = own_bound p w after left well m.does.sound m.stands in
    let stays = issued_stays p w live after left m keeps.task.caller keeps.task.stands (none_ended live.rec.phase ended) in
    let issued : live.events.issued ≡ places_of (bound_in s left.task) =
    (issued_at_end p live ended keeps.issued).1 ∙ sym stays ∙ sym (ap (bound_of p after) same) in
    record {
      stands = ap (λ (r : Record). r.phase) (left_from p w live.pass after live.rec left m phase.Ended ended);
      awaited =
          subst (λ (places : List ℕ). AreAwaited p s.exchange left.task places (bound_in s left.task)) (sym issued)
          (awaited_among p s.exchange left.task (bound_in s left.task) (bound_in s left.task) own (λ q has open_. has));
    }

-- what it is answered, by how many requests were bound to it
none_bound : (reqs : List ReqNo) → length reqs ≡ 0 → reqs ≡ []
none_bound [] none = refl
none_bound (x ∷ reqs) none = absurd (omega (arith, none))

returned_by : (s : State) (t bound : ℕ) (b : Bool) → nat_lt 0 bound ≡ b → bound ≡ length (bound_in s t) → IsReturned s t (if b then Pending Events else Done)
returned_by s t bound true some is = omega (arith, ltb-true 0 bound some, is)
returned_by s t bound false none is = none_bound (bound_in s t) (omega (arith, ltb-false 0 bound none, is))

pub is_returned : (s : State) (t bound : ℕ) → bound ≡ length (bound_in s t) → IsReturned s t (returned bound)
is_returned s t bound is = returned_by s t bound (nat_lt 0 bound) refl is

-- ---- a task that is in an operation which it called

-- what it awaits there is what its call opened
awaits_opened : (p : Program) (s : State) (t j : ℕ) (o : Opens p s t) → o.after.phase ≡ phase.In j
    → AreAwaited p (move p s t).state.exchange t (places_of (opened p s t)) (waits_at p (move p s t).state t Pause)
awaits_opened p s t j o inside =
    let new = (move p s t).state in
    let here : waits_at p new t Pause ≡ awaited t o.def j =
    ap (λ (x : Option TaskDef). awaited_at t x (phase_at new.tasks t)) o.is_def
    ∙ ap (λ (x : Option Task). awaited_at t (Some o.def) (option_map (λ (task : Task). task.phase) x)) o.now
    ∙ ap (λ (f : Phase). awaited_at t (Some o.def) (Some f)) inside in
    subst (AreAwaited p new.exchange t (places_of (opened p s t))) (sym here)
    (awaited_among p new.exchange t (opened p s t) (awaited t o.def j) (opened_own p s t)
    (λ q has open_. subst (λ (reqs : List ReqNo). IsOneOf q reqs) (sym (o.waits j inside)) (open_has p new.exchange q (awaited t o.def j) open_ has)))

pub parks_inside : (p : Program) (w : ℕ) (table site : TableId) (book new : BookIs) (live : LiveIs) (after : PassIs) (left : Record) (pending j : ℕ)
    → Called p w table site book new live after left pending → left.phase ≡ phase.In j
    → MayPark p Pause (record { rec = left; pass = after; pause = issuing_all live.pause (opened_seen new.program new.seen); events = live.events })
parks_inside p w table site book new live after left pending j c inside =
    let t = live.rec.task in
    let m = c.moves_it in
    let s = state_at p w live.pass after 0 m.does in
    let o = opens_of p w live.pass after live.rec left m in
    let issued : live.pause.issued ++ places_of (opened_seen new.program new.seen) ≡ places_of (opened p s t) =
    ap (λ (ps : List ℕ). ps ++ places_of (opened_seen new.program new.seen)) (issued_at_call p live c.place c.at c.keeps.issued).0
    ∙ ap places_of c.listed in
    let awaits = awaits_opened p s t j o (after_inside p w live.pass after live.rec left m o j inside) in
    let seen : AreAwaited p (state_seen p after.seen).exchange t (places_of (opened p s t)) (waits_at p (state_seen p after.seen) t Pause) =
    subst (λ (z : State). AreAwaited p z.exchange t (places_of (opened p s t)) (waits_at p z t Pause)) (sym m.state) awaits in
    let its = subst (λ (u : ℕ). AreAwaited p (state_seen p after.seen).exchange u (places_of (opened p s t)) (waits_at p (state_seen p after.seen) u Pause))
    (sym (same_task_left p w live.pass after live.rec left m)) seen in
    record {
      stands = (j, inside);
      awaited =
          subst (λ (ps : List ℕ). AreAwaited p (state_seen p after.seen).exchange left.task ps (waits_at p (state_seen p after.seen) left.task Pause))
          (sym issued) its;
    }

none_opened : (reqs : List ReqNo) (pending : ℕ) → length reqs ≤ pending → nat_lt 0 pending ≡ false → reqs ≡ []
none_opened reqs pending few none = none_bound reqs (omega (arith, few, ltb-false 0 pending none))

able_inside : (p : Program) (w : ℕ) (table site : TableId) (book new : BookIs) (live : LiveIs) (after : PassIs) (left : Record) (pending j : ℕ)
    → Called p w table site book new live after left pending → left.phase ≡ phase.In j → nat_lt 0 pending ≡ false
    → IsAble p (record { rec = left; pass = after; pause = issuing_all live.pause (opened_seen new.program new.seen); events = live.events })
able_inside p w table site book new live after left pending j c inside none =
    let t = live.rec.task in
    let m = c.moves_it in
    let s = state_at p w live.pass after 0 m.does in
    let o = opens_of p w live.pass after live.rec left m in
    let empty = none_opened (opened p s t) pending c.few none in
    let may = o.none_open j (after_inside p w live.pass after live.rec left m o j inside) empty in
    record {
      may =
          subst (MayMove p (state_seen p after.seen)) (sym (same_task_left p w live.pass after live.rec left m))
          (subst (λ (z : State). MayMove p z t) (sym m.state) may);
      idle =
          ap (λ (ps : List ℕ). ps ++ places_of (opened_seen new.program new.seen)) (issued_at_call p live c.place c.at c.keeps.issued).0
          ∙ ap places_of (c.listed ∙ empty);
    }

inside_by : (p : Program) (w : ℕ) (table site : TableId) (book new : BookIs) (live : LiveIs) (after : PassIs) (left : Record) (pending j : ℕ) (b : Bool)
    → nat_lt 0 pending ≡ b → Called p w table site book new live after left pending → left.phase ≡ phase.In j
    → GoesOn p (record { rec = left; pass = after; pause = issuing_all live.pause (opened_seen new.program new.seen); events = live.events })
    (if b then Pending Pause else Done)
inside_by p w table site book new live after left pending j true some c inside = parks_inside p w table site book new live after left pending j c inside
inside_by p w table site book new live after left pending j false none c inside = able_inside p w table site book new live after left pending j c inside none

pub goes_inside : (p : Program) (w : ℕ) (table site : TableId) (book new : BookIs) (live : LiveIs) (after : PassIs) (left : Record) (pending j : ℕ)
    → Called p w table site book new live after left pending → left.phase ≡ phase.In j
    → GoesOn p (record { rec = left; pass = after; pause = issuing_all live.pause (opened_seen new.program new.seen); events = live.events })
    (answered pending)
goes_inside p w table site book new live after left pending j c inside =
    inside_by p w table site book new live after left pending j (nat_lt 0 pending) refl c inside

-- and one that has gone on
pub goes_outside : (p : Program) (w : ℕ) (table site : TableId) (book new : BookIs) (live : LiveIs) (after : PassIs) (left : Record) (pending : ℕ)
    → Called p w table site book new live after left pending → ((j : ℕ) → left.phase ≡ phase.In j → ⊥)
    → GoesOn p (record { rec = left; pass = after; pause = live.pause; events = issuing_all live.events (opened_seen new.program new.seen) }) Done
goes_outside p w table site book new live after left pending c outside =
    let m = c.moves_it in
    let call = left_of_call p w live.pass after live.rec left m c.place c.at in
    let there : left.phase ≡ phase_before (def live.rec) (c.place + 1) =
    call ∙ goes_on (def live.rec) c.place (is_blocking_call (slice_get (def live.rec).body.items c.place)) (λ j is. outside j (call ∙ is)) in
    record {
      may = before_may p (state_seen p after.seen) left (def live.rec) (c.place + 1) m.stands there;
      idle = (issued_at_call p live c.place c.at c.keeps.issued).0;
    }
