-- What a task's move leaves: its started task with its holders, from what the book's call says.
use Rattle.std.proofs.Common.{◌≡◌, ℕ, ◌+◌, Bool, true, false, List, [], ◌∷◌, ◌++◌, length, Option, Some}
use Rattle.std.proofs.Common.{option_map, refl, sym, ap, ◌∙◌, subst, inl, ℤ}
use Rattle.std.specs.Prelude.{nat_lt, if◌then◌else◌}
use Rattle.std.proofs.lemmas.List.{append-nil}
use Rattle.rt_base.specs.declared.data.ReqNo.{ReqNo}
use Rattle.rt_base.specs.declared.data.Phase.{Phase}
use Rattle.rt_base.specs.declared.data.Phase.TheVariants as phase
use Rattle.rt_base.specs.declared.data.TaskDef.{TaskDef}
use Rattle.rt_base.specs.declared.data.Program.{Program}
use Rattle.rt_base.specs.State.{State, Task, opening, phase_of}
use Rattle.rt_base.specs.MayMove.{MayMove}
use Rattle.rt_base.specs.WellFormed.{WellFormed}
use Rattle.task_local.specs.StandsFor.{Record, StandsFor, StandsAs}
use Rattle.task_local.specs.Standing.{def, phase_before}
use Rattle.task_machine.specs.Machine.{move, or_none, bound_at}
use Rattle.task_machine.specs.Legal.{IsDefined}
use Rattle.task_machine.specs.Owed.{opened, opened_at}
use Rattle.task_machine.proofs.Items.{same_some}
use Rattle.tidy_runs.specs.Tidy.{IsBoundBy, called}
use Rattle.tidy_runs.specs.Openings.{Opens}
use Rattle.tidy_runs.proofs.OpenedOnce.{opened-row}
use Rattle.tidy_runs.proofs.Telling.{moves_open}
use Rattle.tidy_runs.proofs.Tidying.{runs_are_tidy, unbound}
use Rattle.book_parts.specs.Ledger.{record_at, record_after, IsInOperation}
use Rattle.pass_table.specs.Passes.{TableId, PassIs, times}
use Rattle.meet_hall.specs.Holders.{HolderIs}
use Rattle.shared_lists.specs.Deeds.{moves, state_seen, opened_seen}
use Rattle.shared_lists.specs.Sound.{IsSound}
use Rattle.shared_lists.specs.Said.{IsStill, Does, IsLiveTask}
use Rattle.shared_lists.proofs.Fronts.{sound_fronts, sound_runs}
use Rattle.shared_lists.proofs.Since.{still_since}
use Rattle.listed_book.specs.Listed.{BookIs, Adds, MovesTask, state_in}
use Rattle.turn_table.specs.declared.hands.Door.{Door}
use Rattle.turn_table.specs.declared.hands.Door.TheVariants.{Pause, Events}
use Rattle.shared_tasks.specs.Values.{FreshIs, LiveIs}
use Rattle.shared_tasks.specs.Places.{meeting_of, IsHolder, places_of}
use Rattle.shared_tasks.specs.Keeping.{Issued, IsLive, IsFresh, bound_of}
use Rattle.shared_book.specs.Answers.{MovesOn, state_at}

-- ---- from the book's own words to those of the passes

-- the book's state at the call's own step, by what its pass had seen and what others have done since
pub at_step : (p : Program) (old new : BookIs) (before after : PassIs) (number : ℕ) → old.program ≡ p → (a : Adds old new before after number)
    → state_in old ≡ state_seen p (before.seen ++ a.does.since)
at_step p old new before after number same a = ap (λ (q : Program). state_seen q old.seen) same ∙ ap (state_seen p) a.since

abbrev pub does_for : (p : Program) (w : ℕ) (old new : BookIs) (before after : PassIs) (number : ℕ) → old.program ≡ p → old.workers ≡ w
    → Adds old new before after number → Does p w before after number
does_for p w old new before after number same_p same_w a = record {
  table = a.does.table;
  caller = a.does.caller;
  steps = a.does.steps;
  sound =
      subst (λ (q : Program). IsSound q w after.seen) same_p (subst (λ (v : ℕ). IsSound old.program v after.seen) same_w a.does.sound);
  since = a.does.since;
  alone = a.does.alone;
  seen = a.does.seen;
}

pub new_program : (old new : BookIs) (before after : PassIs) (number : ℕ) → Adds old new before after number → new.program ≡ old.program
new_program old new before after number a = ap (λ (b : BookIs). b.program) a.book

abbrev pub moves_for : (p : Program) (w : ℕ) (old new : BookIs) (before after : PassIs) (held left : Record) → old.program ≡ p → old.workers ≡ w
    → before.caller ≡ held.task → MovesTask old new before after held left → MovesOn p w before after held left
moves_for p w old new before after held left same_p same_w its m =
    let here = at_step p old new before after 0 same_p m.adds in
    let at = state_seen p (before.seen ++ m.adds.does.since) in
    record {
      does = does_for p w old new before after 0 same_p same_w m.adds;
      may =
          subst (MayMove p at) its (subst (λ (s : State). MayMove p s before.caller) here
          (subst (λ (q : Program). MayMove q (state_in old) before.caller) same_p m.may));
      state =
          ap (state_seen p) m.adds.whole
          ∙ ap (λ (q : Program). state_seen q new.seen) (sym (new_program old new before after 0 m.adds ∙ same_p)) ∙ m.state
          ∙ ap (λ (q : Program). (move q (state_in old) before.caller).state) same_p ∙ ap (λ (s : State). (move p s before.caller).state) here
          ∙ ap (λ (t : ℕ). (move p at t).state) its;
      stands = subst (λ (q : Program). StandsFor q left (state_seen q after.seen)) same_p m.live.stands;
      left_is =
          m.record_is ∙ ap (λ (q : Program). record_after q (state_in old) held) same_p ∙ ap (λ (s : State). record_after p s held) here;
    }

-- what the move opened, by the list and by the book
pub opened_for : (p : Program) (w : ℕ) (old new : BookIs) (before after : PassIs) (held left : Record) → old.program ≡ p → before.caller ≡ held.task
    → (m : MovesTask old new before after held left)
    → opened_seen new.program new.seen ≡ opened p (state_seen p (before.seen ++ m.adds.does.since)) held.task
opened_for p w old new before after held left same_p its m =
    ap (λ (q : Program). opened_seen q new.seen) (new_program old new before after 0 m.adds) ∙ m.opens
    ∙ ap (λ (q : Program). opened q (state_in old) before.caller) same_p
    ∙ ap (λ (s : State). opened p s before.caller) (at_step p old new before after 0 same_p m.adds)
    ∙ ap (opened p (state_seen p (before.seen ++ m.adds.does.since))) its

pub live_for : (p : Program) (w : ℕ) (table : TableId) (old : BookIs) (rec : Record) (pass : PassIs) → old.program ≡ p → old.workers ≡ w → old.table ≡ table
    → IsLiveTask old.program old.workers old.table rec pass → IsLiveTask p w table rec pass
live_for p w table old rec pass same_program same_workers same_table live =
    subst (λ (q : Program). IsLiveTask q w table rec pass) same_program
    (subst (λ (v : ℕ). IsLiveTask old.program v table rec pass) same_workers
    (subst (λ (i : TableId). IsLiveTask old.program old.workers i rec pass) same_table live))

-- ---- the list before a call's own pair

pub front_sound : (p : Program) (w : ℕ) (old new : PassIs) (number : ℕ) (d : Does p w old new number) → IsSound p w (old.seen ++ d.since)
front_sound p w old new number d =
    (sound_fronts p w (old.seen ++ d.since) ((old.caller, number) ∷ []) (subst (IsSound p w) d.seen d.sound)).0

pub runs_before : (p : Program) (w : ℕ) (old new : PassIs) (number : ℕ) (d : Does p w old new number) → IsDefined p w (opening p) (moves (old.seen ++ d.since))
runs_before p w old new number d = sound_runs p w (old.seen ++ d.since) (front_sound p w old new number d)

pub still_before : (p : Program) (w : ℕ) (old new : PassIs) (number t : ℕ) (d : Does p w old new number) → old.caller ≡ t
    → IsStill p t (state_seen p old.seen) (state_at p w old new number d)
still_before p w old new number t d its =
    still_since p w old.seen d.since (front_sound p w old new number d) t (subst (λ (c : ℕ). times c d.since ≡ 0) its d.alone)

-- ---- what is bound before and after the move

pub opens_of : (p : Program) (w : ℕ) (before after : PassIs) (held left : Record) (m : MovesOn p w before after held left)
    → Opens p (state_at p w before after 0 m.does) held.task
opens_of p w before after held left m = moves_open p (state_at p w before after 0 m.does) held.task m.may

pub bound_was : (p : Program) (w : ℕ) (before after : PassIs) (held left : Record) (m : MovesOn p w before after held left) → before.caller ≡ held.task
    → (o : Opens p (state_at p w before after 0 m.does) held.task) → bound_of p before held.task ≡ places_of o.before.bound
bound_was p w before after held left m its o =
    let still = still_before p w before after 0 held.task m.does its in
    ap (λ (x : Option Task). places_of (or_none (option_map (λ (task : Task). task.bound) x))) (sym still.task ∙ o.was)

pub bound_now : (p : Program) (w : ℕ) (before after : PassIs) (held left : Record) (m : MovesOn p w before after held left)
    → (o : Opens p (state_at p w before after 0 m.does) held.task) → bound_of p after held.task ≡ places_of o.after.bound
bound_now p w before after held left m o =
    ap (λ (s : State). places_of (or_none (bound_at s.tasks held.task))) m.state
    ∙ ap (λ (x : Option Task). places_of (or_none (option_map (λ (task : Task). task.bound) x))) o.now

-- a task that stands before no call opens nothing, and what is bound to it stays
abbrev pub OpensNone : Phase → Type 0
OpensNone at = (k : ℕ) → at ≡ phase.At k → ⊥

none_opened_at : (p : Program) (s : State) (t : ℕ) (d : TaskDef) (was : Task) (at : Phase) → OpensNone at → opened_at p s t d was at ≡ []
none_opened_at p s t d was phase.Waiting none = refl
none_opened_at p s t d was (phase.At k) none = absurd (none k refl)
none_opened_at p s t d was (phase.In k) none = refl
none_opened_at p s t d was phase.Ended none = refl
none_opened_at p s t d was phase.Returned none = refl
none_opened_at p s t d was phase.Released none = refl

pub opens_nothing : (p : Program) (s : State) (t : ℕ) (o : Opens p s t) → OpensNone o.before.phase → opened p s t ≡ []
opens_nothing p s t o none = opened-row p s t o.def o.before o.is_def o.was ∙ none_opened_at p s t o.def o.before o.before.phase none

pub bound_stays : (p : Program) (s : State) (t : ℕ) (o : Opens p s t) → OpensNone o.before.phase → o.after.bound ≡ o.before.bound
bound_stays p s t o none =
    o.goes (λ k inside. none k (o.came k inside)) ∙ ap (λ (reqs : List ReqNo). o.before.bound ++ reqs) (opens_nothing p s t o none)
    ∙ append-nil o.before.bound

-- where the task of a record stands
pub task_of_record : (p : Program) (w : ℕ) (before after : PassIs) (held left : Record) (m : MovesOn p w before after held left) → before.caller ≡ held.task
    → (o : Opens p (state_at p w before after 0 m.does) held.task) → (st : StandsFor p held (state_seen p before.seen)) → st.task ≡ o.before
task_of_record p w before after held left m its o st =
    same_some (sym st.is_task ∙ (sym (still_before p w before after 0 held.task m.does its).task ∙ o.was))

in_its_phase : (d : TaskDef) (at : Phase) (copy : List ℤ) (task : Task) → OpensNone at → StandsAs d at copy task → task.phase ≡ at
in_its_phase d phase.Waiting copy task none stands = stands
in_its_phase d (phase.At k) copy task none stands = absurd (none k refl)
in_its_phase d (phase.In k) copy task none stands = stands.0
in_its_phase d phase.Ended copy task none stands = stands.0
in_its_phase d phase.Returned copy task none stands = stands.0
in_its_phase d phase.Released copy task none stands = stands.0

-- a record that is before no operation stands where its task stands
pub phase_of_record : (p : Program) (w : ℕ) (before after : PassIs) (held left : Record) (m : MovesOn p w before after held left) → before.caller ≡ held.task
    → (o : Opens p (state_at p w before after 0 m.does) held.task) → StandsFor p held (state_seen p before.seen) → OpensNone held.phase
    → o.before.phase ≡ held.phase
phase_of_record p w before after held left m its o st none =
    ap (λ (task : Task). task.phase) (sym (task_of_record p w before after held left m its o st)) ∙ in_its_phase st.def held.phase held.copy st.task
    none st.stands

-- ---- the record after the move

task_at : (p : Program) (s : State) (d : TaskDef) (held : Record) (at : Phase) → (record_at p s d held at).task ≡ held.task
task_at p s d held phase.Waiting = refl
task_at p s d held (phase.At k) = refl
task_at p s d held (phase.In k) = refl
task_at p s d held phase.Ended = refl
task_at p s d held phase.Returned = refl
task_at p s d held phase.Released = refl

pub same_task_left : (p : Program) (w : ℕ) (before after : PassIs) (held left : Record) → MovesOn p w before after held left → left.task ≡ held.task
same_task_left p w before after held left m = ap (λ (r : Record). r.task) m.left_is
    ∙ task_at p (state_at p w before after 0 m.does) (def held) held held.phase

-- what the move leaves of a record that stands there
pub left_from : (p : Program) (w : ℕ) (before after : PassIs) (held left : Record) (m : MovesOn p w before after held left) (at : Phase) → held.phase ≡ at
    → left ≡ record_at p (state_at p w before after 0 m.does) (def held) held at
left_from p w before after held left m at is = m.left_is ∙ ap (record_at p (state_at p w before after 0 m.does) (def held) held) is

issued_by : (d : TaskDef) (k : ℕ) (b : Bool) (pause events bound : List ℕ) → pause ≡ [] → events ≡ bound
    → Issued (if b then phase.At k else phase.Ended) pause events bound
issued_by d k true pause events bound none same = (none, same)
issued_by d k false pause events bound none same = (none, same)

pub issued_before : (d : TaskDef) (k : ℕ) (pause events bound : List ℕ) → pause ≡ [] → events ≡ bound → Issued (phase_before d k) pause events bound
issued_before d k pause events bound none same = issued_by d k (nat_lt k (length d.body.items)) pause events bound none same

-- ---- the task after the move

pub held_still : (p : Program) (site : TableId) (t u : ℕ) (door : Door) (holder : HolderIs) → t ≡ u → IsHolder p site t (meeting_of door t) holder
    → IsHolder p site u (meeting_of door u) holder
held_still p site t u door holder same held = subst (λ (v : ℕ). IsHolder p site v (meeting_of door v) holder) same held

-- from the holders and what they have issued
pub live_of : (p : Program) (w : ℕ) (table site : TableId) (t : ℕ) (pause events : HolderIs) (left : Record) (after : PassIs) → t ≡ left.task
    → IsHolder p site t (meeting_of Pause t) pause → IsHolder p site t (meeting_of Events t) events → IsLiveTask p w table left after
    → Issued left.phase pause.issued events.issued (bound_of p after left.task)
    → IsLive p w table site (record { rec = left; pass = after; pause = pause; events = events })
live_of p w table site t pause events left after same at_pause at_events live issued = record {
  task = live;
  pause = held_still p site t left.task Pause pause same at_pause;
  events = held_still p site t left.task Events events same at_events;
  issued = issued;
}

pub issued_after : (left held : Record) (at : Phase) (pause events : List ℕ) (p : Program) (after : PassIs) (bound : List ℕ) → left.phase ≡ at
    → left.task ≡ held.task → bound_of p after held.task ≡ bound → Issued at pause events bound → Issued left.phase pause events (bound_of p after left.task)
issued_after left held at pause events p after bound there same is issued =
    subst (λ (f : Phase). Issued f pause events (bound_of p after left.task)) (sym there)
    (subst (Issued at pause events) (sym (ap (bound_of p after) same ∙ is)) issued)

waits_first : (p : Program) (w : ℕ) (before after : PassIs) (held left : Record) (m : MovesOn p w before after held left) → before.caller ≡ held.task
    → (o : Opens p (state_at p w before after 0 m.does) held.task) → phase_of (state_seen p before.seen) held.task ≡ Some phase.Waiting
    → o.before.phase ≡ phase.Waiting
waits_first p w before after held left m its o waits =
    let still = still_before p w before after 0 held.task m.does its in
    same_some (sym (ap (option_map (λ (task : Task). task.phase)) (sym still.task ∙ o.was)) ∙ waits)

-- a task that starts has bound nothing
pub live_started : (p : Program) (w : ℕ) (table site : TableId) (fresh : FreshIs) (after : PassIs) (held left : Record) → WellFormed p
    → IsFresh p w table site fresh → held.task ≡ fresh.task → held.phase ≡ phase.Waiting → MovesOn p w fresh.pass after held left
    → IsLiveTask p w table left after → IsLive p w table site (record { rec = left; pass = after; pause = fresh.pause; events = fresh.events })
live_started p w table site fresh after held left well keeps its waits m live =
    let caller : fresh.pass.caller ≡ held.task = keeps.task.caller ∙ sym its in
    let o = opens_of p w fresh.pass after held left m in
    let first = waits_first p w fresh.pass after held left m caller o
    (ap (phase_of (state_seen p fresh.pass.seen)) its ∙ keeps.task.waits) in
    let none : OpensNone o.before.phase = λ k at. absurd (let e : phase.Waiting ≡ phase.At k = sym first ∙ at in cc) in
    let stays = bound_stays p (state_at p w fresh.pass after 0 m.does) held.task o none in
    let tidy = runs_are_tidy p w (moves (fresh.pass.seen ++ m.does.since)) well (runs_before p w fresh.pass after 0 m.does) held.task o.def o.before
    o.is_def o.was in
    let empty : o.before.bound ≡ [] =
    unbound held.task o.before.bound (subst (λ (at : Phase). IsBoundBy held.task (called o.def at) o.before.bound) first tidy.bound) in
    let now : bound_of p after held.task ≡ [] = bound_now p w fresh.pass after held left m o ∙ ap places_of (stays ∙ empty) in
    let there : left.phase ≡ phase_before (def held) 0 =
    ap (λ (r : Record). r.phase) (left_from p w fresh.pass after held left m phase.Waiting waits) in
    let same = same_task_left p w fresh.pass after held left m in
    live_of p w table site fresh.task fresh.pause fresh.events left after (sym (same ∙ its)) keeps.pause keeps.events live
    (issued_after left held (phase_before (def held) 0) fresh.pause.issued fresh.events.issued p after [] there same now
    (issued_before (def held) 0 fresh.pause.issued fresh.events.issued [] keeps.none_issued.0 keeps.none_issued.1))

-- what the events' holder has issued, where the task is before no call
pub issued_stays : (p : Program) (w : ℕ) (live : LiveIs) (after : PassIs) (left : Record) (m : MovesOn p w live.pass after live.rec left)
    → live.pass.caller ≡ live.rec.task → StandsFor p live.rec (state_seen p live.pass.seen) → OpensNone live.rec.phase
    → bound_of p after live.rec.task ≡ bound_of p live.pass live.rec.task
issued_stays p w live after left m caller st none =
    let o = opens_of p w live.pass after live.rec left m in
    let at = phase_of_record p w live.pass after live.rec left m caller o st none in
    let still : OpensNone o.before.phase = subst OpensNone (sym at) none in
    bound_now p w live.pass after live.rec left m o ∙ ap places_of (bound_stays p (state_at p w live.pass after 0 m.does) live.rec.task o still)
    ∙ sym (bound_was p w live.pass after live.rec left m caller o)

-- a task that leaves its operation
pub live_left : (p : Program) (w : ℕ) (table site : TableId) (live : LiveIs) (after : PassIs) (left : Record) (k : ℕ) → IsLive p w table site live
    → live.rec.phase ≡ phase.In k → live.pause.issued ≡ [] → MovesOn p w live.pass after live.rec left → IsLiveTask p w table left after
    → IsLive p w table site (record { rec = left; pass = after; pause = live.pause; events = live.events })
live_left p w table site live after left k keeps inside idle m task =
    let none : OpensNone live.rec.phase = λ j at. absurd (let e : phase.In k ≡ phase.At j = sym inside ∙ at in cc) in
    let stays = issued_stays p w live after left m keeps.task.caller keeps.task.stands none in
    let events : live.events.issued ≡ bound_of p live.pass live.rec.task =
    subst (λ (at : Phase). Issued at live.pause.issued live.events.issued (bound_of p live.pass live.rec.task)) inside keeps.issued in
    let there : left.phase ≡ phase_before (def live.rec) (k + 1) =
    ap (λ (r : Record). r.phase) (left_from p w live.pass after live.rec left m (phase.In k) inside) in
    let same = same_task_left p w live.pass after live.rec left m in
    live_of p w table site live.rec.task live.pause live.events left after (sym same) keeps.pause keeps.events task
    (issued_after left live.rec (phase_before (def live.rec) (k + 1)) live.pause.issued live.events.issued p after
    (bound_of p live.pass live.rec.task) there same stays
    (issued_before (def live.rec) (k + 1) live.pause.issued live.events.issued (bound_of p live.pass live.rec.task) idle events))

-- a task that returns
pub live_returned : (p : Program) (w : ℕ) (table site : TableId) (live : LiveIs) (after : PassIs) (left : Record) → IsLive p w table site live
    → live.rec.phase ≡ phase.Ended → MovesOn p w live.pass after live.rec left → IsLiveTask p w table left after
    → IsLive p w table site (record { rec = left; pass = after; pause = live.pause; events = live.events })
live_returned p w table site live after left keeps ended m task =
    let none : OpensNone live.rec.phase = λ j at. absurd (let e : phase.Ended ≡ phase.At j = sym ended ∙ at in cc) in
    let stays = issued_stays p w live after left m keeps.task.caller keeps.task.stands none in
    let issued : (live.pause.issued ≡ []) × (live.events.issued ≡ bound_of p live.pass live.rec.task) =
    subst (λ (at : Phase). Issued at live.pause.issued live.events.issued (bound_of p live.pass live.rec.task)) ended keeps.issued in
    let there : left.phase ≡ phase.Returned =
    ap (λ (r : Record). r.phase) (left_from p w live.pass after live.rec left m phase.Ended ended) in
    let same = same_task_left p w live.pass after live.rec left m in
    live_of p w table site live.rec.task live.pause live.events left after (sym same) keeps.pause keeps.events task
    (issued_after left live.rec phase.Returned live.pause.issued live.events.issued p after (bound_of p live.pass live.rec.task) there same stays
    (issued.0, inl issued.1))

-- ---- a started task, and what the book's move made of it

pub record Step (p : Program) (w : ℕ) (table site : TableId) (live : LiveIs) (after : PassIs) (left : Record) : Type 0 where
  pub keeps : IsLive p w table site live
  pub moves_it : MovesOn p w live.pass after live.rec left
  pub task : IsLiveTask p w table left after

pub step_of : (p : Program) (w : ℕ) (table site : TableId) (old new : BookIs) (given live : LiveIs) (after : PassIs) (left : Record) → old.program ≡ p
    → old.workers ≡ w → old.table ≡ table → live ≡ given → IsLive p w table site given → MovesTask old new live.pass after live.rec left
    → Step p w table site live after left
step_of p w table site old new given live after left same_p same_w same_t is keeps m =
    let own : IsLive p w table site live = subst (IsLive p w table site) (sym is) keeps in
    record {
      keeps = own;
      moves_it = moves_for p w old new live.pass after live.rec left same_p same_w own.task.caller m;
      task = live_for p w table old left after same_p same_w same_t m.live;
    }

-- where the task is before no call, its move opens nothing
pub step_opens_none : (p : Program) (w : ℕ) (table site : TableId) (old new : BookIs) (live : LiveIs) (after : PassIs) (left : Record) → old.program ≡ p
    → old.workers ≡ w → IsLive p w table site live → (m : MovesTask old new live.pass after live.rec left) → OpensNone live.rec.phase
    → opened p (state_in old) live.rec.task ≡ []
step_opens_none p w table site old new live after left same_p same_w keeps m none =
    let moved = moves_for p w old new live.pass after live.rec left same_p same_w keeps.task.caller m in
    let o = opens_of p w live.pass after live.rec left moved in
    let at = phase_of_record p w live.pass after live.rec left moved keeps.task.caller o keeps.task.stands none in
    ap (λ (s : State). opened p s live.rec.task) (at_step p old new live.pass after 0 same_p m.adds)
    ∙ opens_nothing p (state_at p w live.pass after 0 moved.does) live.rec.task o (subst OpensNone (sym at) none)

pub start_opens_none : (p : Program) (w : ℕ) (table site : TableId) (old new : BookIs) (fresh : FreshIs) (after : PassIs) (held left : Record)
    → old.program ≡ p → old.workers ≡ w → IsFresh p w table site fresh → held.task ≡ fresh.task → (m : MovesTask old new fresh.pass after held left)
    → opened p (state_in old) held.task ≡ []
start_opens_none p w table site old new fresh after held left same_p same_w keeps its m =
    let caller : fresh.pass.caller ≡ held.task = keeps.task.caller ∙ sym its in
    let moved = moves_for p w old new fresh.pass after held left same_p same_w caller m in
    let o = opens_of p w fresh.pass after held left moved in
    let first = waits_first p w fresh.pass after held left moved caller o
    (ap (phase_of (state_seen p fresh.pass.seen)) its ∙ keeps.task.waits) in
    let none : OpensNone o.before.phase = λ k at. absurd (let e : phase.Waiting ≡ phase.At k = sym first ∙ at in cc) in
    ap (λ (s : State). opened p s held.task) (at_step p old new fresh.pass after 0 same_p m.adds)
    ∙ opens_nothing p (state_at p w fresh.pass after 0 moved.does) held.task o none

-- the place of a task that is in an operation, and that a phase is before no call
pub in_place : (at : Phase) → IsInOperation at → (k : ℕ) × (at ≡ phase.In k)
in_place phase.Waiting no_ = absurd no_
in_place (phase.At k) no_ = absurd no_
in_place (phase.In k) yes_ = (k, refl)
in_place phase.Ended no_ = absurd no_
in_place phase.Returned no_ = absurd no_
in_place phase.Released no_ = absurd no_

pub none_in : (at : Phase) (k : ℕ) → at ≡ phase.In k → OpensNone at
none_in at k is j other = absurd (let e : phase.In k ≡ phase.At j = sym is ∙ other in cc)

pub none_ended : (at : Phase) → at ≡ phase.Ended → OpensNone at
none_ended at is j other = absurd (let e : phase.Ended ≡ phase.At j = sym is ∙ other in cc)

pub none_returned : (at : Phase) → at ≡ phase.Returned → OpensNone at
none_returned at is j other = absurd (let e : phase.Returned ≡ phase.At j = sym is ∙ other in cc)

-- what a call says of the task that it was given and of the one that it gives
pub returned_live : (p : Program) (w : ℕ) (given live new : LiveIs) (after : PassIs) (left : Record) (pause events : HolderIs) → live ≡ given
    → new ≡ record { rec = left; pass = after; pause = pause; events = events } → MovesOn p w live.pass after live.rec left
    → MovesOn p w given.pass new.pass given.rec new.rec
returned_live p w given live new after left pause events is made m =
    subst (λ (l : LiveIs). MovesOn p w l.pass new.pass l.rec new.rec) is
    (subst (λ (n : LiveIs). MovesOn p w live.pass n.pass live.rec n.rec) (sym made) m)
