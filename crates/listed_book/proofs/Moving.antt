-- The move of a task: what is known before it, and what book and list say after it.
use Rattle.std.proofs.Common.{◌≡◌, ◌≢◌, ℕ, ◌+◌, ◌<◌, Bool, true, List, [], ◌∷◌, ◌++◌, length, drop, slice_get, Option, Some, None, option_map, get_or, ℤ}
use Rattle.std.proofs.Common.{◌⊎◌, refl, sym, ap, ◌∙◌, subst, inl, inr}
use Rattle.std.proofs.lemmas.Option.{slice_get-get_or}
use mathlib.Core.List.{IsPrefix}
use Rattle.rt_base.specs.declared.data.Phase.{Phase}
use Rattle.rt_base.specs.declared.data.Phase.TheVariants as phase
use Rattle.rt_base.specs.declared.data.TaskDef.{TaskDef}
use Rattle.rt_base.specs.declared.data.Program.{Program}
use Rattle.rt_base.specs.Precedes.{MayStart}
use Rattle.rt_base.specs.State.{State, Task, phase_of, let_go}
use Rattle.rt_base.specs.MayMove.{MayMove, MayMoveAt}
use Rattle.task_local.specs.Local.{stop}
use Rattle.task_local.specs.StandsFor.{Record, StandsFor, StandsAs}
use Rattle.task_local.specs.Standing.{no_task}
use Rattle.task_machine.specs.Machine.{Moved, move, step}
use Rattle.task_machine.specs.Legal.{caller, final}
use Rattle.task_machine.proofs.Items.{same_some}
use Rattle.task_machine.proofs.Runs.{step-task, exists_of_move}
use Rattle.task_machine.proofs.Fronts.{move_who}
use Rattle.task_machine.proofs.Stops.{stop_started}
use Rattle.book_parts.specs.Ledger.{Ledger, MakesMove, LeavesPending, record_after}
use Rattle.pass_table.specs.Passes.{PassIs, NoteIs, HasItsSteps, times}
use Rattle.shared_lists.specs.Deeds.{Move, state_seen, is_offered}
use Rattle.shared_lists.specs.Sound.{MayDo, IsSound}
use Rattle.shared_lists.specs.Said.{IsStill, IsFreshTask, IsLiveTask}
use Rattle.shared_lists.proofs.Pairs.{state_seen-step, opens_last}
use Rattle.shared_lists.proofs.Since.{still_since, stands_on}
use Rattle.shared_lists.proofs.Offers.{offered_more}
use Rattle.listed_book.specs.Listed.{BookIs, MovesTask, with_pair, state_in}
use Rattle.listed_book.specs.Kept.{Insides, seen_as, Keeps}
use Rattle.listed_book.proofs.Keeping.{pen_with, final_seen, keeps_step}
use Rattle.listed_book.proofs.Adding.{Carries, alone, pass_with, adds_by}

-- what is asked of a move, in the words of the insides: the pass is the task's, the record stands for the task after what the pass has seen, and the task may
-- move then, which it does first only once it was offered
pub record Asks (i : Insides) (held : Record) (pass : PassIs) : Type 0 where
  pub table : pass.table ≡ i.pen.table
  pub caller : pass.caller ≡ held.task
  pub sound : IsSound i.book.program i.book.workers pass.seen
  pub stands : StandsFor i.book.program held (state_seen i.book.program pass.seen)
  pub may : MayMove i.book.program (state_seen i.book.program pass.seen) held.task
  pub offered : (held.phase ≡ phase.Waiting) → is_offered held.task pass.seen ≡ true

-- the same, from a task with its record
asks_live : (i : Insides) (old : BookIs) (held : Record) (pass : PassIs) → seen_as i ≡ old
    → IsLiveTask old.program old.workers old.table held pass → MayMove old.program (state_seen old.program pass.seen) held.task
    → held.phase ≢ phase.Waiting → Asks i held pass
asks_live i old held pass view live may started =
    subst (λ (b : BookIs). IsLiveTask b.program b.workers b.table held pass → MayMove b.program (state_seen b.program pass.seen) held.task → Asks i held pass)
    view by_insides live may where
      by_insides : IsLiveTask i.book.program i.book.workers i.pen.table held pass → MayMove i.book.program (state_seen i.book.program pass.seen) held.task
          → Asks i held pass
      by_insides live may = record {
        table = live.table_is;
        caller = live.caller;
        sound = live.sound;
        stands = live.stands;
        may = may;
        offered = λ waits. absurd (started waits);
      }

-- a waiting task of a state
record WaitsIn (s : State) (t : ℕ) : Type 0 where
  task : Task
  is_task : slice_get s.tasks t ≡ Some task
  waiting : task.phase ≡ phase.Waiting

waiting_in : (s : State) (t : ℕ) → phase_of s t ≡ Some phase.Waiting → WaitsIn s t
waiting_in s t waits = by_task (slice_get s.tasks t) refl waits where
  by_task : (o : Option Task) → slice_get s.tasks t ≡ o → option_map (λ (task : Task). task.phase) o ≡ Some phase.Waiting → WaitsIn s t
  by_task None here waits = absurd (cc)
  by_task (Some task) here waits = record { task = task; is_task = here; waiting = same_some waits }

fresh_stands : (p : Program) (s : State) (held : Record) → held.program ≡ p → held.phase ≡ phase.Waiting → held.task < length p.tasks.items
    → WaitsIn s held.task → StandsFor p held s
fresh_stands p s held same waits exists w = record {
  same = same;
  def = get_or p.tasks.items held.task no_task;
  task = w.task;
  is_def = slice_get-get_or p.tasks.items held.task no_task exists;
  is_task = w.is_task;
  stands = subst (λ (at : Phase). StandsAs (get_or p.tasks.items held.task no_task) at held.copy w.task) (sym waits) w.waiting;
}

may_start : (p : Program) (s : State) (t : ℕ) → MayStart p (let_go s.tasks) t → WaitsIn s t → MayMove p s t
may_start p s t may w = record {
  def = get_or p.tasks.items t no_task;
  task = w.task;
  is_def = slice_get-get_or p.tasks.items t no_task may.exists;
  is_task = w.is_task;
  enabled = subst (λ (at : Phase). MayMoveAt p s.tasks s.exchange t (get_or p.tasks.items t no_task) w.task at) (sym w.waiting) may;
}

-- and from a task that was offered, with a new record
asks_fresh : (i : Insides) (old : BookIs) (held : Record) (pass : PassIs) → seen_as i ≡ old
    → IsFreshTask old.program old.workers old.table held.task pass → held.program ≡ old.program → held.phase ≡ phase.Waiting → Asks i held pass
asks_fresh i old held pass view fresh made waits =
    subst (λ (b : BookIs). IsFreshTask b.program b.workers b.table held.task pass → held.program ≡ b.program
    → Asks i held pass) view by_insides fresh made where
      by_insides : IsFreshTask i.book.program i.book.workers i.pen.table held.task pass → held.program ≡ i.book.program → Asks i held pass
      by_insides fresh made =
          let s = state_seen i.book.program pass.seen in
          let waiting : WaitsIn s held.task = waiting_in s held.task fresh.waits in
          record {
            table = fresh.table_is;
            caller = fresh.caller;
            sound = fresh.sound;
            stands = fresh_stands i.book.program s held made waits fresh.may.exists waiting;
            may = may_start i.book.program s held.task fresh.may waiting;
            offered = λ w. fresh.offered;
          }

-- ---- what holds of the pen's list

-- the pass has caught up, and the move is about to be made
pub record Begun (i : Insides) (prog : Program) (held : Record) (pass : PassIs) : Type 0 where
  pub keeps : Keeps i
  pub asks : Asks i held pass
  pub carried : Carries i.pen pass
  pub same : prog ≡ i.book.program

begun : (i : Insides) (old : BookIs) (prog : Program) (held : Record) (pass : PassIs) → Keeps i → seen_as i ≡ old → prog ≡ old.program → Asks i held pass
    → IsPrefix pass.seen i.pen.seen → HasItsSteps pass pass.seen × HasItsSteps pass i.pen.seen → Begun i prog held pass
begun i old prog held pass k view same asks front steps = record {
  keeps = k;
  asks = asks;
  carried = record { front = front; steps = steps };
  same = same ∙ sym (ap (λ (b : BookIs). b.program) view);
}

-- the same, from what a call asks of a task with its record
pub begun_live : (i : Insides) (old : BookIs) (prog : Program) (held : Record) (pass : PassIs) → Keeps i → seen_as i ≡ old → prog ≡ old.program
    → IsLiveTask old.program old.workers old.table held pass → MayMove old.program (state_seen old.program pass.seen) held.task → held.phase ≢ phase.Waiting
    → IsPrefix pass.seen i.pen.seen → HasItsSteps pass pass.seen × HasItsSteps pass i.pen.seen → Begun i prog held pass
begun_live i old prog held pass k view same live enabled started front steps =
    begun i old prog held pass k view same (asks_live i old held pass view live enabled started) front steps

-- and from what a start asks
pub begun_fresh : (i : Insides) (old : BookIs) (prog : Program) (held : Record) (pass : PassIs) → Keeps i → seen_as i ≡ old → prog ≡ old.program
    → IsFreshTask old.program old.workers old.table held.task pass → held.program ≡ old.program → held.phase ≡ phase.Waiting
    → IsPrefix pass.seen i.pen.seen → HasItsSteps pass pass.seen × HasItsSteps pass i.pen.seen → Begun i prog held pass
begun_fresh i old prog held pass k view same fresh made waits front steps =
    begun i old prog held pass k view same (asks_fresh i old held pass view fresh made waits) front steps

still_now : (i : Insides) (held : Record) (pass : PassIs) → Keeps i → Asks i held pass → Carries i.pen pass
    → IsStill i.book.program held.task (state_seen i.book.program pass.seen) (state_seen i.book.program i.pen.seen)
still_now i held pass k asks carried =
    subst (λ (xs : List (ℕ × ℕ)). IsStill i.book.program held.task (state_seen i.book.program pass.seen) (state_seen i.book.program xs)) carried.front.1
    (still_since i.book.program i.book.workers pass.seen carried.front.0
    (subst (IsSound i.book.program i.book.workers) (sym carried.front.1) k.sound) held.task
    (subst (λ (t : ℕ). times t carried.front.0 ≡ 0) asks.caller (alone i.pen pass carried)))

-- what the book asks of its move, over its history
pub stands_now : (i : Insides) (prog : Program) (held : Record) (pass : PassIs) → Begun i prog held pass → StandsFor prog held (final prog i.book.history)
stands_now i prog held pass b =
    subst (λ (q : Program). StandsFor q held (final q i.book.history)) (sym b.same)
    (subst (StandsFor i.book.program held) (sym (final_seen i b.keeps))
    (stands_on i.book.program held _ _ b.asks.stands (still_now i held pass b.keeps b.asks b.carried)))

pub may_now : (i : Insides) (prog : Program) (held : Record) (pass : PassIs) → Begun i prog held pass → MayMove prog (final prog i.book.history) held.task
may_now i prog held pass b =
    subst (λ (q : Program). MayMove q (final q i.book.history) held.task) (sym b.same)
    (subst (λ (s : State). MayMove i.book.program s held.task) (sym (final_seen i b.keeps))
    ((still_now i held pass b.keeps b.asks b.carried).may b.asks.may))

-- a task that is to start was handed out
pub handed_now : (i : Insides) (prog : Program) (held : Record) (pass : PassIs) → Begun i prog held pass → held.phase ≡ phase.Waiting
    → slice_get i.book.handed held.task ≡ Some true
handed_now i prog held pass b waits =
    b.keeps.handed held.task (exists_of_move i.book.program (state_seen i.book.program pass.seen) held.task b.asks.may)
    ∙ ap (λ (o : Bool). Some o)
    (subst (λ (xs : List (ℕ × ℕ)). is_offered held.task xs ≡ true) b.carried.front.1
    (offered_more held.task pass.seen b.carried.front.0 (b.asks.offered waits)))

-- what the entry of a call leaves pending
pub pending_now : (i : Insides) (old : BookIs) (prog : Program) (held : Record) (pass : PassIs) (count : ℕ) → Begun i prog held pass → seen_as i ≡ old
    → LeavesPending (move prog (final prog i.book.history) held.task).entry count → LeavesPending (move old.program (state_in old) held.task).entry count
pending_now i old prog held pass count b view leaves =
    subst (λ (o : BookIs). LeavesPending (move o.program (state_in o) held.task).entry count) view
    (subst (λ (s : State). LeavesPending (move i.book.program s held.task).entry count) (final_seen i b.keeps)
    (subst (λ (q : Program). LeavesPending (move q (final q i.book.history) held.task).entry count) b.same leaves))

-- a task whose record has started waits no longer
started_task : (def : TaskDef) (at : Phase) (copy : List ℤ) (task : Task) → at ≢ phase.Waiting → StandsAs def at copy task → task.phase ≢ phase.Waiting
unfolding stop
started_task def phase.Waiting copy task started stands = absurd (started refl)
started_task def (phase.At k) copy task started stands = λ e. stop_started k (drop k def.body.items) (stands.0 ∙ e)
started_task def (phase.In k) copy task started stands = λ e. absurd (cc (e, stands.0))
started_task def phase.Ended copy task started stands = λ e. absurd (cc (e, stands.0))
started_task def phase.Returned copy task started stands = λ e. absurd (cc (e, stands.0))
started_task def phase.Released copy task started stands = λ e. absurd (cc (e, stands.0))

is_waiting : (at : Phase) → (at ≡ phase.Waiting) ⊎ (at ≢ phase.Waiting)
is_waiting phase.Waiting = inl refl
is_waiting (phase.At k) = inr (λ e. absurd (cc))
is_waiting (phase.In k) = inr (λ e. absurd (cc))
is_waiting phase.Ended = inr (λ e. absurd (cc))
is_waiting phase.Returned = inr (λ e. absurd (cc))
is_waiting phase.Released = inr (λ e. absurd (cc))

-- a task that waits was offered, if it is about to move
offered_now : (i : Insides) (held : Record) (pass : PassIs) → Keeps i → Asks i held pass → Carries i.pen pass
    → phase_of (state_seen i.book.program i.pen.seen) held.task ≡ Some phase.Waiting → is_offered held.task i.pen.seen ≡ true
offered_now i held pass k asks carried waits = elim (is_waiting held.phase) [
  | inl fresh ↦
      subst (λ (xs : List (ℕ × ℕ)). is_offered held.task xs ≡ true) carried.front.1 (offered_more held.task pass.seen carried.front.0 (asks.offered fresh))
  | inr started ↦
      let now = stands_on i.book.program held _ _ asks.stands (still_now i held pass k asks carried) in
      let at : Some now.task.phase ≡ Some phase.Waiting = sym (ap (λ (o : Option Task). option_map (λ (task : Task). task.phase) o) now.is_task) ∙ waits in
      absurd (started_task now.def held.phase held.copy now.task started now.stands (same_some at))
]

-- ---- after the move

pub record Made (i : Insides) (prog : Program) (new : Ledger) (pen after_pen : NoteIs) (pass caught after : PassIs) (held left : Record) : Type 0 where
  pub begins : Begun i prog held pass
  pub makes : MakesMove i.book new held left
  pub caught_is : caught ≡ record pass { seen = i.pen.seen }
  pub pen_is : pen ≡ i.pen
  pub after_pen_is : after_pen ≡ record pen { seen = pen.seen ++ (caught.caller, 0) ∷ [] }
  pub after_is : after ≡ record caught { steps = caught.steps + 1; seen = pen.seen ++ (caught.caller, 0) ∷ [] }

-- the insides after the move, as the lemmas on kept books have them
abbrev moved_insides : Insides → Ledger → PassIs → Insides
moved_insides i new pass = record i { book = record i.book { history = new.history; statuses = new.statuses }; pen = pen_with i.pen pass.caller 0 }

pub ledger_as : (old new : Ledger) → new.program ≡ old.program → new.workers ≡ old.workers → new.handed ≡ old.handed
    → record old { history = new.history; statuses = new.statuses } ≡ new
ledger_as old new program workers handed =
    sym (ap (λ (q : Program). record new { program = q }) program
    ∙ ap (λ (w : ℕ). record new { program = old.program; workers = w }) workers
    ∙ ap (λ (hs : List Bool). record new { program = old.program; workers = old.workers; handed = hs }) handed)

module _ (i : Insides) (prog : Program) (new : Ledger) (pen after_pen : NoteIs) (pass caught after : PassIs) (held left : Record)
    (m : Made i prog new pen after_pen pass caught after held left) where
  abbrev p : Program
  p = i.book.program

  book_is : record i.book { history = new.history; statuses = new.statuses } ≡ new
  book_is = ledger_as i.book new m.makes.program m.makes.workers m.makes.handed

  pen_after : pen_with i.pen pass.caller 0 ≡ after_pen
  pen_after =
      sym (m.after_pen_is ∙ ap (λ (q : PassIs). pen_with pen q.caller 0) m.caught_is ∙ ap (λ (n : NoteIs). pen_with n pass.caller 0) m.pen_is)

  pass_after : pass_with i.pen pass 0 ≡ after
  pass_after = sym (m.after_is ∙ ap (λ (q : PassIs). pass_with pen q 0) m.caught_is ∙ ap (λ (n : NoteIs). pass_with n pass 0) m.pen_is)

  may_seen : MayMove p (state_seen p i.pen.seen) held.task
  may_seen = (still_now i held pass m.begins.keeps m.begins.asks m.begins.carried).may m.begins.asks.may

  may_do : MayDo p i.book.workers i.pen.seen pass.caller Move
  may_do =
      subst (λ (t : ℕ). MayDo p i.book.workers i.pen.seen t Move) (sym m.begins.asks.caller)
      (inl may_seen, offered_now i held pass m.begins.keeps m.begins.asks m.begins.carried)

  entry_of : caller (length p.tasks.items) (move p (final p i.book.history) held.task).entry ≡ pass.caller
  entry_of = move_who p (final p i.book.history) held.task ∙ sym m.begins.asks.caller

  keeps_insides : Keeps (moved_insides i new pass)
  keeps_insides = keeps_step i pass.caller _ new.history new.statuses m.begins.keeps may_do entry_of m.makes.entry m.makes.short

  pub keeps_made : Keeps (record i { book = new; pen = after_pen })
  keeps_made =
      subst (λ (n : NoteIs). Keeps (record i { book = new; pen = n })) pen_after
      (subst (λ (b : Ledger). Keeps (record i { book = b; pen = pen_with i.pen pass.caller 0 })) book_is keeps_insides)

  -- the state after the move
  state_made : state_seen p (i.pen.seen ++ (pass.caller, 0) ∷ []) ≡ (move p (state_seen p i.pen.seen) held.task).state
  state_made =
      state_seen-step p i.pen.seen pass.caller
      ∙ ap (λ (t : ℕ). (step p (state_seen p i.pen.seen) t).state) m.begins.asks.caller
      ∙ ap (λ (moved : Moved). moved.state) (step-task p (state_seen p i.pen.seen) held.task (exists_of_move p (state_seen p i.pen.seen) held.task may_seen))

  final_made : final p new.history ≡ state_seen p (i.pen.seen ++ (pass.caller, 0) ∷ [])
  final_made = final_seen (moved_insides i new pass) keeps_insides

  moves_insides : MovesTask (seen_as i) (with_pair (seen_as i) pass.caller 0) pass (pass_with i.pen pass 0) held left
  moves_insides = record {
    adds = adds_by i pass 0 m.begins.carried keeps_insides.sound;
    still =
        subst (λ (t : ℕ). IsStill p t (state_seen p pass.seen) (state_seen p i.pen.seen)) (sym m.begins.asks.caller)
        (still_now i held pass m.begins.keeps m.begins.asks m.begins.carried);
    may = subst (MayMove p (state_seen p i.pen.seen)) (sym m.begins.asks.caller) may_seen;
    state = state_made ∙ ap (λ (t : ℕ). (move p (state_seen p i.pen.seen) t).state) (sym m.begins.asks.caller);
    opens =
        (opens_last p i.pen.seen pass.caller).by_task
        (subst (λ (t : ℕ). t < length p.tasks.items) (sym m.begins.asks.caller) (exists_of_move p (state_seen p i.pen.seen) held.task may_seen));
    live = record {
      table_is = m.begins.asks.table;
      caller = m.begins.asks.caller ∙ sym m.makes.task;
      sound = keeps_insides.sound;
      stands = subst (StandsFor p left) final_made m.makes.stands;
    };
    record_is = m.makes.left ∙ ap (λ (s : State). record_after p s held) (final_seen i m.begins.keeps);
  }

  pub moves_made : (old : BookIs) → seen_as i ≡ old → MovesTask old (seen_as (record i { book = new; pen = after_pen })) pass after held left
  moves_made old view =
      subst (λ (b : BookIs). MovesTask b (seen_as (record i { book = new; pen = after_pen })) pass after held left) view
      (subst (λ (n : NoteIs). MovesTask (seen_as i) (seen_as (record i { book = new; pen = n })) pass after held left) pen_after
      (subst (λ (b : Ledger). MovesTask (seen_as i) (seen_as (record i { book = b; pen = pen_with i.pen pass.caller 0 })) pass after held left) book_is
      (subst (λ (q : PassIs). MovesTask (seen_as i) (with_pair (seen_as i) pass.caller 0) pass q held left) pass_after moves_insides)))
