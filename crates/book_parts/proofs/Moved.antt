-- A book's insides after a move of a task: one lemma for what they keep, and one for what the caller sees.
use Rattle.std.proofs.Common.{◌≡◌, ◌≢◌, ℕ, ◌+◌, ◌≤◌, Bool, true, false, List, [], ◌∷◌, ◌++◌, length, map, slice_get, slice_set, Some, refl, sym, ap, ◌∙◌, subst}
use Rattle.std.proofs.Common.{inl, inr, arith}
use Rattle.std.specs.Prelude.{option_map}
use Rattle.std.proofs.lemmas.List.{map-set, length-append, length-map}
use Rattle.std.proofs.lemmas.Option.{slice_get_within}
use Rattle.rt_base.specs.declared.data.Phase.{Phase}
use Rattle.rt_base.specs.declared.data.Phase.TheVariants as phase
use Rattle.rt_base.specs.declared.data.Entry.{Entry}
use Rattle.rt_base.specs.declared.data.TaskDef.{TaskDef}
use Rattle.rt_base.specs.declared.data.Program.{Program}
use Rattle.rt_base.specs.Precedes.{GoneMore, LetGo}
use Rattle.rt_base.specs.State.{State, Task, is_released, let_go}
use Rattle.rt_base.specs.MayMove.{MayMove}
use Rattle.rt_base.specs.Layout.{memory_len}
use Rattle.rt_base.specs.WellFormed.{WellFormed}
use Rattle.region_deps.specs.Readiness.{IsWhole}
use Rattle.task_local.specs.StandsFor.{Record, StandsAs}
use Rattle.task_local.specs.Standing.{def}
use Rattle.task_machine.specs.Machine.{Moved, move}
use Rattle.task_machine.specs.Legal.{callers, caller, final, IsLegal, phases_of, state_of}
use Rattle.task_machine.specs.Owed.{opened, opened_at, last_opened}
use Rattle.task_machine.proofs.Runs.{final-push, legal-push, exists_of_move, step-task, state_after-push, IsDefined-push}
use Rattle.task_machine.proofs.Fronts.{move_who}
use Rattle.task_machine.proofs.Opened.{last_opened-push}
use Rattle.task_machine.proofs.Lists.{slice_get-set_same, slice_get-set_other, slice_set_same, slice_get-map}
use Rattle.task_machine.proofs.Items.{either_place}
use Rattle.task_machine.proofs.Growth.{gone_by}
use Rattle.run_bounds.specs.Fits.{FitsProgram}
use Rattle.run_bounds.specs.Bounds.{IsShort}
use Rattle.run_bounds.proofs.Rooms.{bounds_few}
use Rattle.run_bounds.proofs.Moves.{phases_after}
use Rattle.run_bounds.proofs.Runs.{runs_fit, runs_short}
use Rattle.book_counts.proofs.Figures
use Rattle.book_parts.specs.Ledger.{Ledger, MakesMove, record_at, record_after}
use Rattle.book_parts.specs.Kept.{BookParts, HasCapacity, KeepsState, state_now}

-- what a caller sees of the insides
abbrev pub ledger_of : BookParts → Ledger
ledger_of parts = record {
  program = parts.program;
  workers = parts.workers;
  history = parts.entries;
  statuses = parts.statuses;
  handed = parts.ready.handed;
}

-- ---- what follows from the laws on runs

-- the state after the history fits the program
pub fits_now : (parts : BookParts) → KeepsState parts → FitsProgram parts.program (state_now parts)
fits_now parts k = runs_fit parts.program parts.workers (callers parts.program parts.entries) k.well k.legal.runs

long_callers : (p : Program) (es : List Entry) → length (callers p es) ≡ length es
long_callers p es = length-map es (caller (length p.tasks.items))

-- the history and the lists of the state are short
pub short_now : (parts : BookParts) → KeepsState parts → IsShort parts.program (state_now parts) (length parts.entries)
short_now parts k =
    subst (IsShort parts.program (state_now parts)) (long_callers parts.program parts.entries)
    (runs_short parts.program parts.workers (callers parts.program parts.entries) k.well k.legal.runs)

-- and so they are after a move that may be made
pub short_after : (parts : BookParts) (t : ℕ) → KeepsState parts → MayMove parts.program (state_now parts) t
    → IsShort parts.program (move parts.program (state_now parts) t).state (length parts.entries + 1)
short_after parts t k may =
    let p : Program = parts.program in
    let cs : List ℕ = callers p parts.entries in
    let after : state_of p (cs ++ t ∷ []) ≡ (move p (state_now parts) t).state =
    state_after-push p _ cs t ∙ ap (λ (m : Moved). m.state) (step-task p (state_now parts) t (exists_of_move p (state_now parts) t may)) in
    let long : length (cs ++ t ∷ []) ≡ length parts.entries + 1 =
    length-append cs (t ∷ []) ∙ ap (λ (n : ℕ). n + 1) (long_callers p parts.entries) in
    subst (λ (s : State). IsShort p s (length parts.entries + 1)) after
    (subst (IsShort p (state_of p (cs ++ t ∷ []))) long
    (runs_short p parts.workers (cs ++ t ∷ []) k.well (IsDefined-push p parts.workers _ cs t k.legal.runs (inl may))))

-- what a task's move opens, by where the task stands
pub opened-row : (p : Program) (s : State) (t : ℕ) (def : TaskDef) (task : Task) (at : Phase) → slice_get p.tasks.items t ≡ Some def
    → slice_get s.tasks t ≡ Some task → task.phase ≡ at → opened p s t ≡ opened_at p s t def task at
unfolding opened
opened-row p s t def task at is_def is_task stands = rw (is_def, is_task, stands) refl

-- ---- what the insides have of the state

-- where a task stands in the state, the book has it
pub phase_read : (parts : BookParts) (t : ℕ) (task : Task) → KeepsState parts → slice_get (state_now parts).tasks t ≡ Some task
    → slice_get parts.phases t ≡ Some task.phase
phase_read parts t task k is_task = Figures.phase_read (state_now parts) parts.phases t task k.phases_are is_task

-- the released marks of a task that holds its regions
pub still_held : (parts : BookParts) (t : ℕ) (was : Task) → KeepsState parts → slice_get (state_now parts).tasks t ≡ Some was → is_released was.phase ≡ false
    → slice_get parts.ready.gone.released t ≡ Some false
still_held parts t was k is_task held =
    ap (λ (g : LetGo). slice_get g.released t) k.gone_is ∙ slice_get-map (λ (z : Task). is_released z.phase) (state_now parts).tasks t
    ∙ ap (option_map (λ (z : Task). is_released z.phase)) is_task ∙ ap Some held

-- the places of one book are no fewer than those of another
pub record HasNoLess (old new : BookParts) : Type 0 where
  pub entries : old.entry_places ≤ new.entry_places
  pub statuses : old.status_places ≤ new.status_places
  pub notices : old.notice_places ≤ new.notice_places
  pub opened : old.opened_places ≤ new.opened_places

-- the insides after the move of task t, which made the task so: those of the state after it, with room for no less
pub record IsMoved (old new : BookParts) (t : ℕ) (was now : Task) (made : Moved) : Type 0 where
  pub may : MayMove old.program (state_now old) t
  pub moved : move old.program (state_now old) t ≡ made
  pub is_task : slice_get (state_now old).tasks t ≡ Some was
  pub tasks : made.state.tasks ≡ slice_set (state_now old).tasks t now
  pub program : new.program ≡ old.program
  pub workers : new.workers ≡ old.workers
  pub handed : slice_get old.ready.handed t ≡ Some true
  pub marks : new.ready.handed ≡ old.ready.handed
  pub of_program : new.ready.program ≡ old.ready.program
  pub gone : new.ready.gone ≡ let_go made.state.tasks
  pub whole : IsWhole new.ready
  pub engine : new.engine.program ≡ old.engine.program
  pub exchange : new.engine.exchange ≡ made.state.exchange
  pub phases : new.phases ≡ slice_set old.phases t now.phase
  pub memory : new.memory ≡ made.state.memory
  pub cells : length new.memory ≡ length old.memory
  pub notices : new.notices ≡ made.state.notices
  pub entries : new.entries ≡ old.entries ++ made.entry ∷ []
  pub statuses : new.statuses ≡ made.state.statuses
  pub opened : new.opened ≡ opened old.program (state_now old) t
  pub places : HasNoLess old new

-- what the tasks have let go of, where a task moves that holds its regions before and after
gone_same : (tasks : List Task) (t : ℕ) (was now : Task) → slice_get tasks t ≡ Some was → is_released was.phase ≡ false → is_released now.phase ≡ false
    → let_go tasks ≡ let_go (slice_set tasks t now)
gone_same tasks t was now is_task held held' =
    let marks : List Bool = map (λ (z : Task). is_released z.phase) tasks in
    let here : slice_get marks t ≡ Some false = slice_get-map (λ (z : Task). is_released z.phase) tasks t
    ∙ ap (option_map (λ (z : Task). is_released z.phase)) is_task ∙ ap Some held in
    ap (λ (r : List Bool). record { released = r })
    (sym (slice_set_same marks t false here) ∙ ap (slice_set marks t) (sym held') ∙ sym (map-set (λ (z : Task). is_released z.phase) tasks t now))

pub gone_kept : (parts : BookParts) (t : ℕ) (was now : Task) → KeepsState parts → slice_get (state_now parts).tasks t ≡ Some was
    → is_released was.phase ≡ false → is_released now.phase ≡ false → parts.ready.gone ≡ let_go (slice_set (state_now parts).tasks t now)
gone_kept parts t was now k is_task held held' = k.gone_is ∙ gone_same (state_now parts).tasks t was now is_task held held'

-- the state after the longer history
pub moved_state : {old new : BookParts} {t : ℕ} {was now : Task} {made : Moved} → IsMoved old new t was now made → state_now new ≡ made.state
moved_state {old = old} {new = new} {t = t} {made = made} m =
    ap (λ (q : Program). final q new.entries) m.program ∙ ap (final old.program) m.entries
    ∙ final-push old.program old.entries t made.state made.entry (exists_of_move old.program (state_now old) t m.may)
    (ap (λ (z : Moved). caller (length old.program.tasks.items) z.entry) (sym m.moved) ∙ move_who old.program (state_now old) t) m.moved

-- what was let go of stays so
pub gone_more : {old new : BookParts} {t : ℕ} {was now : Task} {made : Moved} → IsMoved old new t was now made → is_released was.phase ≡ false
    → GoneMore (let_go (state_now old).tasks) (let_go (state_now new).tasks)
gone_more {old = old} {new = new} {t = t} {was = was} {now = now} m held =
    gone_by (state_now old).tasks (state_now new).tasks t was now m.is_task held (ap (λ (z : State). z.tasks) (moved_state m) ∙ m.tasks)

legal_after : {old new : BookParts} {t : ℕ} {was now : Task} {made : Moved} → KeepsState old → IsMoved old new t was now made
    → IsLegal new.program new.workers new.entries new.statuses
legal_after {old = old} {new = new} {t = t} {made = made} k m =
    subst (λ (q : Program). IsLegal q new.workers new.entries new.statuses) (sym m.program)
    (subst (λ (w : ℕ). IsLegal old.program w new.entries new.statuses) (sym m.workers)
    (subst (λ (es : List Entry). IsLegal old.program old.workers es new.statuses) (sym m.entries)
    (legal-push old.program old.workers old.entries old.statuses new.statuses t made.state made.entry k.legal
    (exists_of_move old.program (state_now old) t m.may)
    (ap (λ (z : Moved). caller (length old.program.tasks.items) z.entry) (sym m.moved) ∙ move_who old.program (state_now old) t) m.may m.moved
    (sym m.statuses))))

-- which tasks were handed out, once one that was has moved
begun_after : (phases : List Phase) (handed : List Bool) (t u : ℕ) (now at : Phase)
    → ((v : ℕ) (q : Phase) → slice_get phases v ≡ Some q → q ≢ phase.Waiting → slice_get handed v ≡ Some true)
    → slice_get handed t ≡ Some true → slice_get (slice_set phases t now) u ≡ Some at → at ≢ phase.Waiting → slice_get handed u ≡ Some true
begun_after phases handed t u now at before mine here started = elim (either_place u t) [
  | inl same ↦ ap (slice_get handed) same ∙ mine
  | inr other ↦ before u at (sym (slice_get-set_other phases t u now other) ∙ here) started
]

capacity_after : {old new : BookParts} {t : ℕ} {was now : Task} {made : Moved} → HasCapacity old → IsMoved old new t was now made
    → HasCapacity (record new { program = old.program })
capacity_after places m =
    let more = m.places in
    let less = places in
    record {
      entries = omega arith;
      statuses = omega arith;
      notices = omega arith;
      opened = λ u i d is_d. let most = less.opened u i d is_d in omega arith;
    }

-- the insides after a move are the state after it, with room for what is left
pub book_after : {old new : BookParts} {t : ℕ} {was now : Task} {made : Moved} → KeepsState old → IsMoved old new t was now made → KeepsState new
book_after {old = old} {new = new} {t = t} {now = now} {made = made} k m =
    let end : state_now new ≡ made.state = moved_state m in
    let exists = exists_of_move old.program (state_now old) t m.may in
    let who = ap (λ (z : Moved). caller (length old.program.tasks.items) z.entry) (sym m.moved) ∙ move_who old.program (state_now old) t in
    record {
      well = subst WellFormed (sym m.program) k.well;
      legal = legal_after k m;
      memory_is = m.memory ∙ ap (λ (z : State). z.memory) (sym end);
      cells = m.cells ∙ k.cells ∙ ap memory_len (sym m.program);
      phases_are = m.phases ∙ ap (λ (z : List Phase). slice_set z t now.phase) k.phases_are ∙ phases_after (state_now old) made.state t now m.tasks
          ∙ ap (λ (z : State). phases_of z.tasks) (sym end);
      exchange_is = m.exchange ∙ ap (λ (z : State). z.exchange) (sym end);
      notices_are = m.notices ∙ ap (λ (z : State). z.notices) (sym end);
      opened_are = m.opened ∙ sym (last_opened-push old.program old.entries t made.entry exists who) ∙ ap (last_opened old.program) (sym m.entries)
          ∙ ap (λ (q : Program). last_opened q new.entries) (sym m.program);
      gone_is = m.gone ∙ ap (λ (z : State). let_go z.tasks) (sym end);
      begun = λ u at here started. ap (λ (z : List Bool). slice_get z u) m.marks
          ∙ begun_after old.phases old.ready.handed t u now.phase at k.begun m.handed (sym (ap (λ (z : List Phase). slice_get z u) m.phases) ∙ here) started;
      of_program = m.of_program ∙ k.of_program ∙ sym m.program;
      whole = m.whole;
      engine_of = m.engine ∙ k.engine_of ∙ sym m.program;
      places = subst (λ (q : Program). HasCapacity (record new { program = q })) (sym m.program) (capacity_after k.places m);
    }

-- a move leaves the record to its task and its program
record LeavesOwner (held after : Record) : Type 0 where
  task : after.task ≡ held.task
  program : after.program ≡ held.program

owner_left : (p : Program) (s : State) (d : TaskDef) (held : Record) (at : Phase) → LeavesOwner held (record_at p s d held at)
owner_left p s d held phase.Waiting = record { task = refl; program = refl }
owner_left p s d held (phase.At k) = record { task = refl; program = refl }
owner_left p s d held (phase.In k) = record { task = refl; program = refl }
owner_left p s d held phase.Ended = record { task = refl; program = refl }
owner_left p s d held phase.Returned = record { task = refl; program = refl }
owner_left p s d held phase.Released = record { task = refl; program = refl }

-- the book has made the move, and the record stands for the task
pub makes_move : {old new : BookParts} {t : ℕ} {was now : Task} {made : Moved} {before after : Record} {d : TaskDef} {l : Ledger} → KeepsState old
    → IsMoved old new t was now made → slice_get old.program.tasks.items t ≡ Some d → t ≡ before.task → before.program ≡ old.program
    → after ≡ record_after old.program (state_now old) before → StandsAs d after.phase after.copy now → ledger_of old ≡ l
    → MakesMove l (ledger_of new) before after
makes_move {old = old} {new = new} {t = t} {was = was} {now = now} {made = made} {before = before} {after = after} {d = d} k m is_def who of_program left
    stands view =
    let p : Program = old.program in
    let end : final p new.entries ≡ made.state = ap (λ (q : Program). final q new.entries) (sym m.program) ∙ moved_state m in
    let moved : move p (state_now old) before.task ≡ made = ap (move p (state_now old)) (sym who) ∙ m.moved in
    let owner = owner_left p (state_now old) (def before) before before.phase in
    let task : after.task ≡ before.task = ap (λ (z : Record). z.task) left ∙ owner.task in
    let mine : after.task ≡ t = task ∙ sym who in
    let kept = book_after k m in
    subst (λ (z : Ledger). MakesMove z (ledger_of new) before after) view (record {
      entry = m.entries ∙ ap (λ (z : Moved). old.entries ++ z.entry ∷ []) (sym moved);
      state = end ∙ ap (λ (z : Moved). z.state) (sym moved);
      statuses = m.statuses ∙ ap (λ (z : State). z.statuses) (sym end);
      program = m.program;
      workers = m.workers;
      handed = m.marks;
      short = omega (arith, (short_now new kept).entries, (bounds_few new.program kept.well).0);
      task = task;
      stands = record {
        same = ap (λ (z : Record). z.program) left ∙ owner.program ∙ of_program;
        def = d;
        task = now;
        is_def = ap (slice_get p.tasks.items) mine ∙ is_def;
        is_task = ap (slice_get (final p new.entries).tasks) mine ∙ ap (λ (z : State). slice_get z.tasks t) end
            ∙ ap (λ (z : List Task). slice_get z t) m.tasks
            ∙ slice_get-set_same (state_now old).tasks t now (slice_get_within (state_now old).tasks t was m.is_task);
        stands = stands;
      };
      left = left;
    })
