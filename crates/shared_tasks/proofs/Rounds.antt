-- How a task is taken up: what it still waits for, as its pass meets the notes of its round.
use Rattle.std.proofs.Common.{◌≡◌, ◌≢◌, ◌⊎◌, ℕ, ◌+◌, ◌*◌, ◌<◌, Bool, true, false, List, [], ◌∷◌, ◌++◌, slice_get, Option, Some, None, option_map, refl, sym}
use Rattle.std.proofs.Common.{ap, ◌∙◌, subst, inl, inr, arith, eq-eqb, ne_eqb, ◌==◌, if◌then◌else◌, ℤ}
use Rattle.std.proofs.lemmas.Bool.{false≢true, cases_Bool}
use mathlib.Core.List.{IsPrefix}
use mathlib.Core.Logic.{dite}
use native.Mathlib.Decide.{ℕ_discrete}
use Rattle.rt_base.specs.declared.data.ReqNo.{ReqNo}
use Rattle.rt_base.specs.declared.data.Phase.{Phase}
use Rattle.rt_base.specs.declared.data.Phase.TheVariants as phase
use Rattle.rt_base.specs.declared.data.TaskDef.{TaskDef}
use Rattle.rt_base.specs.declared.data.Program.{Program}
use Rattle.rt_base.specs.Operations.{request, awaited}
use Rattle.rt_base.specs.Exchange.{Exchange}
use Rattle.rt_base.specs.Completion.{is_complete}
use Rattle.rt_base.specs.State.{State, Task}
use Rattle.rt_base.specs.MayMove.{MayMove, MayMoveAt, AreComplete}
use Rattle.task_local.specs.StandsFor.{Record, StandsFor, StandsAs}
use Rattle.task_machine.specs.Machine.{awaited_at, or_none, bound_at, phase_at}
use Rattle.pass_table.specs.Passes.{TableId, PassIs, NoteIs, HasItsSteps, longer}
use Rattle.pass_table.specs.Passes as passes
use Rattle.pass_table.proofs.Fronts as fronts
use Rattle.meetings.specs.Meetings.{one, times}
use Rattle.meetings.proofs.Counts.{one_else}
use Rattle.meet_hall.specs.Holders.{HolderIs}
use Rattle.meet_hall.specs.Places.{without}
use Rattle.shared_lists.specs.Deeds.{state_seen}
use Rattle.shared_lists.specs.Sound.{IsSound}
use Rattle.shared_lists.specs.Said.{IsStill, IsLiveTask}
use Rattle.shared_lists.proofs.Fronts.{sound_longer}
use Rattle.shared_lists.proofs.Since.{still_since, stands_on, complete_since}
use Rattle.turn_table.specs.declared.hands.Door.{Door}
use Rattle.turn_table.specs.declared.hands.Door.TheVariants.{Pause, Events}
use Rattle.shared_tasks.specs.Values.{ParkedIs, ArrivalIs, LiveIs, joined, other_door}
use Rattle.shared_tasks.specs.Places.{meeting_of, requests_of, IsHolder, waits_at, places_of, AreAwaited}
use Rattle.shared_tasks.specs.Keeping.{Issued, OtherIssued, StandsAt, IsLive, IsAble, IsOfMeeting, FitsParked, FitsArrival, bound_of}
use Rattle.shared_tasks.specs.Pausing.{IsNext}

-- the pass has met the note
pub record HasMet (pass : PassIs) (note : NoteIs) (new : PassIs) : Type 0 where
  pub is : new ≡ record pass { seen = longer pass.seen note.seen }
  pub before : IsPrefix pass.seen new.seen × IsPrefix note.seen new.seen
  pub steps : HasItsSteps pass pass.seen × HasItsSteps pass new.seen

-- from a task that does nothing nothing is taken over a longer list
still_met : (p : Program) (w t : ℕ) (old new : List (ℕ × ℕ)) → IsPrefix old new → IsSound p w new → passes.times t old ≡ passes.times t new
    → IsStill p t (state_seen p old) (state_seen p new)
still_met p w t old new front sound same =
    let whole = fronts.times-append t old front.0 in
    let ends = ap (passes.times t) front.1 in
    subst (λ (xs : List (ℕ × ℕ)). IsStill p t (state_seen p old) (state_seen p xs)) front.1
    (still_since p w old front.0 (subst (IsSound p w) (sym front.1) sound) t (omega (arith, whole, ends, same)))

complete_met : (p : Program) (w : ℕ) (old new : List (ℕ × ℕ)) (req : ReqNo) → IsPrefix old new → IsSound p w new
    → is_complete p (state_seen p old).exchange req ≡ true → is_complete p (state_seen p new).exchange req ≡ true
complete_met p w old new req front sound complete =
    subst (λ (xs : List (ℕ × ℕ)). is_complete p (state_seen p xs).exchange req ≡ true) front.1
    (complete_since p w old front.0 (subst (IsSound p w) (sym front.1) sound) req complete)

-- two meetings that are one are of one task
pub same_task : (d e : Door) (t u : ℕ) → meeting_of d t ≡ meeting_of e u → t ≡ u
same_task Pause Pause t u is = omega (arith, is)
same_task Pause Events t u is = absurd (omega (arith, is))
same_task Events Pause t u is = absurd (omega (arith, is))
same_task Events Events t u is = omega (arith, is)

-- a list without one place has every other place as often
times_less : (place other : ℕ) (q : List ℕ) → place ≢ other → times other (without place q) ≡ times other q
times_less place other [] n = refl
times_less place other (r ∷ q) n = dite (ℕ_discrete r place)
    (λ e.
    let a : times other (without place (r ∷ q)) ≡ times other q = ap (λ (b : Bool). times other (if b then q else r ∷ without place q)) (eq-eqb r place e) in
    let c : one (r == other) ≡ 0 = one_else r other (λ z. n (sym e ∙ z)) in
    omega (arith, a, c))
    (λ m.
    let a : times other (without place (r ∷ q)) ≡ one (r == other) + times other (without place q) =
    ap (λ (b : Bool). times other (if b then q else r ∷ without place q)) (ne_eqb r place m) in
    omega (arith, a, times_less place other q n))

was_open : (p : Program) (x y : Exchange) (req : ReqNo) → ((r : ReqNo) → is_complete p x r ≡ true → is_complete p y r ≡ true)
    → is_complete p y req ≡ false → is_complete p x req ≡ false
was_open p x y req stays open_ = elim (cases_Bool (is_complete p x req)) [
  | inl yes_ ↦ absurd (false≢true (sym open_ ∙ stays req yes_))
  | inr none ↦ none
]

-- one place less: its request is complete now
other_place : (p : Program) (y : Exchange) (t place : ℕ) (q : List ℕ) (req : ReqNo) → is_complete p y (request t place) ≡ true
    → is_complete p y req ≡ false → (req.task.0 ≡ t) × (0 < times req.nth q) → (req.task.0 ≡ t) × (0 < times req.nth (without place q))
other_place p y t place q req done open_ found = dite (ℕ_discrete place req.nth)
    (λ e.
    let same : request t place ≡ req = ap (λ (n : ℕ). request t n) e ∙ ap (λ (u : ℕ). request u req.nth) (sym found.0) in
    absurd (false≢true (sym open_ ∙ (ap (is_complete p y) (sym same) ∙ done))))
    (λ n.
    let left = times_less place req.nth q n in
    (found.0, omega (arith, found.1, left)))

met_awaited : (p : Program) (x y : Exchange) (t place : ℕ) (q : List ℕ) (reqs : List ReqNo) → is_complete p y (request t place) ≡ true
    → ((req : ReqNo) → is_complete p x req ≡ true → is_complete p y req ≡ true) → AreAwaited p x t q reqs → AreAwaited p y t (without place q) reqs
met_awaited p x y t place q [] done stays awaits = tt
met_awaited p x y t place q (req ∷ reqs) done stays awaits = (
  (λ open_. other_place p y t place q req done open_ (awaits.0 (was_open p x y req stays open_))),
  met_awaited p x y t place q reqs done stays awaits.1,
)

same_waits : (p : Program) (t : ℕ) (old new : State) (door : Door) → slice_get new.tasks t ≡ slice_get old.tasks t → waits_at p new t door ≡ waits_at
    p old t door
same_waits p t old new Pause same =
    ap (λ (o : Option Task). awaited_at t (slice_get p.tasks.items t) (option_map (λ (task : Task). task.phase) o)) same
same_waits p t old new Events same = ap (λ (o : Option Task). or_none (option_map (λ (task : Task). task.bound) o)) same

same_bound : (t : ℕ) (old new : State) → slice_get new.tasks t ≡ slice_get old.tasks t
    → places_of (or_none (bound_at new.tasks t)) ≡ places_of (or_none (bound_at old.tasks t))
same_bound t old new same = ap (λ (o : Option Task). places_of (or_none (option_map (λ (task : Task). task.bound) o))) same

-- a paused task fits its meeting with one place less, once its pass has met the note of that place
pub fits_met : (p : Program) (w : ℕ) (table site : TableId) (rec : Record) (pass : PassIs) (other : HolderIs) (door : Door) (m : ℕ) (q : List ℕ)
    (a : ArrivalIs) (place : ℕ) (new : PassIs) → FitsParked p w table site (record { rec = rec; pass = pass; other = other; door = door }) m q
    → FitsArrival p w table a m (place ∷ []) → HasMet pass a.note new
    → FitsParked p w table site (record { rec = rec; pass = new; other = other; door = door }) m (without place q)
fits_met p w table site rec pass other door m q a place new fits comes met =
    let t = rec.task in
    let seen : new.seen ≡ longer pass.seen a.note.seen = ap (λ (z : PassIs). z.seen) met.is in
    let sound : IsSound p w new.seen = subst (IsSound p w) (sym seen) (sound_longer p w pass.seen a.note.seen fits.task.sound comes.sound) in
    let counts : passes.times t pass.seen ≡ passes.times t new.seen =
    subst (λ (c : ℕ). passes.times c pass.seen ≡ passes.times c new.seen) fits.task.caller (met.steps.0 ∙ sym met.steps.1) in
    let still = still_met p w t pass.seen new.seen met.before.0 sound counts in
    let its_task : t ≡ a.req.task.0 = same_task door comes.meeting_is.0 t a.req.task.0 (sym fits.meeting_is ∙ comes.meeting_is.1) in
    let its_place : place ≡ a.req.nth = cc (comes.place) in
    let its : request t place ≡ a.req = ap (λ (u : ℕ). request u place) its_task ∙ ap (λ (n : ℕ). request a.req.task.0 n) its_place in
    let done : is_complete p (state_seen p new.seen).exchange (request t place) ≡ true =
    ap (is_complete p (state_seen p new.seen).exchange) its ∙ complete_met p w a.note.seen new.seen a.req met.before.1 sound comes.complete in
    record {
      meeting_is = fits.meeting_is;
      task = record {
        table_is = ap (λ (z : PassIs). z.table) met.is ∙ fits.task.table_is;
        caller = ap (λ (z : PassIs). z.caller) met.is ∙ fits.task.caller;
        sound = sound;
        stands = stands_on p rec (state_seen p pass.seen) (state_seen p new.seen) fits.task.stands still;
      };
      other = fits.other;
      stands = fits.stands;
      issued = subst (OtherIssued door other.issued) (sym (same_bound t (state_seen p pass.seen) (state_seen p new.seen) still.task)) fits.issued;
      awaited =
          subst (AreAwaited p (state_seen p new.seen).exchange t (without place q))
          (sym (same_waits p t (state_seen p pass.seen) (state_seen p new.seen) door still.task))
          (met_awaited p (state_seen p pass.seen).exchange (state_seen p new.seen).exchange t place q
          (waits_at p (state_seen p pass.seen) t door) done (λ r. complete_met p w pass.seen new.seen r met.before.0 sound) fits.awaited);
    }

-- where no place is left, all is complete
none_awaited : (p : Program) (x : Exchange) (t : ℕ) (reqs : List ReqNo) → AreAwaited p x t [] reqs → AreComplete p x reqs
none_awaited p x t [] awaits = tt
none_awaited p x t (req ∷ reqs) awaits = (
  elim (cases_Bool (is_complete p x req)) [ inl done ↦ done | inr open_ ↦ absurd (omega (arith, (awaits.0 open_).1)) ],
  none_awaited p x t reqs awaits.1,
)

in_phase : (def : TaskDef) (at : Phase) (copy : List ℤ) (task : Task) (k : ℕ) → at ≡ phase.In k → StandsAs def at copy task → task.phase ≡ phase.In k
in_phase def at copy task k is stands = (subst (λ (here : Phase). StandsAs def here copy task) is stands).0

returned_phase : (def : TaskDef) (at : Phase) (copy : List ℤ) (task : Task) → at ≡ phase.Returned → StandsAs def at copy task → task.phase ≡ phase.Returned
returned_phase def at copy task is stands = (subst (λ (here : Phase). StandsAs def here copy task) is stands).0

-- a task that waits at one of its meetings for nothing that is incomplete may make its next move
pub none_left_may : (p : Program) (rec : Record) (s : State) (door : Door) → StandsFor p rec s → StandsAt door rec.phase
    → AreAwaited p s.exchange rec.task [] (waits_at p s rec.task door) → MayMove p s rec.task
none_left_may p rec s Pause st stands awaits =
    let at = in_phase st.def rec.phase rec.copy st.task stands.0 stands.1 st.stands in
    let done = none_awaited p s.exchange rec.task (waits_at p s rec.task Pause) awaits in
    let here : waits_at p s rec.task Pause ≡ awaited rec.task st.def stands.0 =
    ap (λ (o : Option TaskDef). awaited_at rec.task o (phase_at s.tasks rec.task)) st.is_def
    ∙ ap (λ (o : Option Task). awaited_at rec.task (Some st.def) (option_map (λ (task : Task). task.phase) o)) st.is_task
    ∙ ap (λ (f : Phase). awaited_at rec.task (Some st.def) (Some f)) at in
    record {
      def = st.def;
      task = st.task;
      is_def = st.is_def;
      is_task = st.is_task;
      enabled =
          subst (MayMoveAt p s.tasks s.exchange rec.task st.def st.task) (sym at) (subst (AreComplete p s.exchange) here done);
    }
none_left_may p rec s Events st stands awaits =
    let at = returned_phase st.def rec.phase rec.copy st.task stands st.stands in
    let done = none_awaited p s.exchange rec.task (waits_at p s rec.task Events) awaits in
    let here : waits_at p s rec.task Events ≡ st.task.bound =
    ap (λ (o : Option Task). or_none (option_map (λ (task : Task). task.bound) o)) st.is_task in
    record {
      def = st.def;
      task = st.task;
      is_def = st.is_def;
      is_task = st.is_task;
      enabled =
          subst (MayMoveAt p s.tasks s.exchange rec.task st.def st.task) (sym at) (subst (AreComplete p s.exchange) here done);
    }

-- a paused task of which no note is to come may make its next move
pub all_met : (p : Program) (w : ℕ) (table site : TableId) (rec : Record) (pass : PassIs) (other : HolderIs) (door : Door) (m : ℕ)
    → FitsParked p w table site (record { rec = rec; pass = pass; other = other; door = door }) m [] → MayMove p (state_seen p pass.seen) rec.task
all_met p w table site rec pass other door m fits = none_left_may p rec (state_seen p pass.seen) door fits.task.stands fits.stands fits.awaited

-- a task that was taken up at its meeting stands there
pub of_meeting : (p : Program) (w : ℕ) (table site : TableId) (parked : ParkedIs) (meeting : ℕ) (places : List ℕ) (live : LiveIs)
    → FitsParked p w table site parked meeting places → live.rec ≡ parked.rec → IsOfMeeting meeting live
of_meeting p w table site parked meeting places live fits same = record {
  door = parked.door;
  is = fits.meeting_is ∙ ap (λ (rec : Record). meeting_of parked.door rec.task) (sym same);
  stands = subst (λ (rec : Record). StandsAt parked.door rec.phase) (sym same) fits.stands;
}

-- it is then a started task again, with the holder of the next round
pub live_again : (p : Program) (w : ℕ) (table site : TableId) (rec : Record) (pass : PassIs) (other : HolderIs) (door : Door) (holder : HolderIs)
    → FitsParked p w table site (record { rec = rec; pass = pass; other = other; door = door }) holder.meeting [] → IsNext p site rec.task holder
    → holder.left ≡ [] → IsLive p w table site (joined door holder (record { rec = rec; pass = pass; other = other; door = door }))
live_again p w table site rec pass other Pause holder fits next none = record {
  task = fits.task;
  pause = record { hall = next.hall; meeting_is = fits.meeting_is; places = next.places; none_left = none };
  events = fits.other;
  issued = subst (λ (at : Phase). Issued at holder.issued other.issued (bound_of p pass rec.task)) (sym fits.stands.1) fits.issued;
}
live_again p w table site rec pass other Events holder fits next none = record {
  task = fits.task;
  pause = fits.other;
  events = record { hall = next.hall; meeting_is = fits.meeting_is; places = next.places; none_left = none };
  issued =
      subst (λ (at : Phase). Issued at other.issued holder.issued (bound_of p pass rec.task)) (sym fits.stands) (fits.issued, inr next.none_issued);
}

-- and it may make its next move
pub able_again : (p : Program) (w : ℕ) (table site : TableId) (rec : Record) (pass : PassIs) (other : HolderIs) (door : Door) (holder : HolderIs)
    → FitsParked p w table site (record { rec = rec; pass = pass; other = other; door = door }) holder.meeting [] → IsNext p site rec.task holder
    → IsAble p (joined door holder (record { rec = rec; pass = pass; other = other; door = door }))
able_again p w table site rec pass other Pause holder fits next = record {
  may = all_met p w table site rec pass other Pause holder.meeting fits;
  idle = next.none_issued;
}
able_again p w table site rec pass other Events holder fits next = record {
  may = all_met p w table site rec pass other Events holder.meeting fits;
  idle = fits.issued;
}
