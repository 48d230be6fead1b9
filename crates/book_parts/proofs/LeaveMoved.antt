-- The move that the end of an operation makes, and where it leaves the book and the record.
use Rattle.std.proofs.Common.{◌≡◌, ℕ, ◌+◌, ◌≤◌, List, [], ◌∷◌, ◌++◌, drop, length, slice_set}
use Rattle.std.proofs.Common.{refl, sym, ap, ◌∙◌, subst, arith}
use Rattle.std.specs.Prelude.{ℤ}
use Rattle.std.proofs.Math.Seq.{drop-append_seam}
use Rattle.rt_base.specs.declared.data.ReqNo.{ReqNo}
use Rattle.rt_base.specs.declared.data.Phase.{Phase}
use Rattle.rt_base.specs.declared.data.Phase.TheVariants as phase
use Rattle.rt_base.specs.declared.data.Status.{Status}
use Rattle.rt_base.specs.declared.data.Entry.{Entry}
use Rattle.rt_base.specs.declared.data.Entry.TheVariants as entry
use Rattle.rt_base.specs.declared.data.TaskDef.{TaskDef}
use Rattle.rt_base.specs.Operations.{task_no}
use Rattle.rt_base.specs.State.{State, Task, is_released}
use Rattle.task_local.specs.Local.{advanced, stop}
use Rattle.task_local.specs.Waits.{taken, told}
use Rattle.task_local.specs.StandsFor.{Record, StandsAs}
use Rattle.task_machine.specs.Machine.{Moved, move, leave_move}
use Rattle.task_local.specs.Standing.{phase_before}
use Rattle.book_parts.specs.Ledger.{record_at}
use Rattle.task_machine.proofs.Rows.{move-row}
use Rattle.book_parts.specs.Kept.{BookParts, KeepsState, state_now}
use Rattle.book_parts.proofs.Moved.{IsMoved, gone_kept, opened-row}
use Rattle.book_counts.proofs.CountLemmas.{stop_is_held}
use Rattle.book_parts.proofs.Held.{handed_of, stands_before, told_room}
use Rattle.book_parts.proofs.Within.{Within}

-- the calls of a leave, by what they answer
pub record Leaves (parts : BookParts) (statuses : List Status) (entries : List Entry) (t k from count : ℕ) (tells : List Status) : Type 0 where
  pub from_is : from ≡ length parts.statuses
  pub count_is : count ≡ length tells
  pub statuses_are : statuses ≡ parts.statuses ++ tells
  pub entries_are : entries ≡ parts.entries ++ entry.Leave (task_no t) k from count ∷ []

entry_is : (s : State) (es es' : List Entry) (ss : List Status) (t k from count : ℕ) (here more : List Status) → ss ≡ s.statuses → from ≡ length ss
    → count ≡ length here → here ≡ more
    → es' ≡ es ++ entry.Leave (task_no t) k from count ∷ [] → es' ≡ es ++ entry.Leave (task_no t) k (length s.statuses) (length more) ∷ []
entry_is s es es' ss t k from count here more are from_is count_is same grown =
    grown ∙ ap (λ (i : ℕ). es ++ entry.Leave (task_no t) k i count ∷ []) (from_is ∙ ap (λ (z : List Status). length z) are)
    ∙ ap (λ (i : ℕ). es ++ entry.Leave (task_no t) k (length s.statuses) i ∷ []) (count_is ∙ ap (λ (z : List Status). length z) same)

-- the task after its leave
abbrev pub left_task : BookParts → ℕ → ℕ → TaskDef → Task → Task
left_task parts t k def was = record was {
  phase = stop def (k + 1);
  copy = advanced def (k + 1) (taken parts.program (state_now parts).exchange t def k was.copy);
}

module _ {parts : BookParts} {held : Record} {t k : ℕ} {def : TaskDef} (i : Within parts held t k def) where
  -- the move
  leave_made : move parts.program (state_now parts) t ≡ leave_move parts.program (state_now parts) t def i.here.was k
  leave_made = move-row parts.program (state_now parts) t def i.here.was (phase.In k) i.here.is_def i.here.is_task i.here.stands.0

  -- there is room for what it tells, which is counted in 32 bits
  pub leave_room : (more : List Status) → KeepsState parts → more ≡ told parts.program (state_now parts).exchange t def k
      → length parts.statuses + length more ≤ parts.status_places
  leave_room more kept is =
      told_room parts t more kept i.may
      (ap (λ (z : Moved). z.state.statuses) leave_made ∙ ap (λ (z : List Status). (state_now parts).statuses ++ z) (sym is))

  -- where the record is left
  pub leave_record : {after : Record}
      → after ≡ record held { phase = phase_before def (k + 1); copy = taken parts.program (state_now parts).exchange t def k i.here.was.copy }
      → after ≡ record_at parts.program (state_now parts) def held (phase.In k)
  leave_record left =
      left ∙ ap (λ (u : ℕ). record held {
        phase = phase_before def (k + 1);
        copy = taken parts.program (state_now parts).exchange u def k i.here.was.copy;
      }) i.here.who
      ∙ ap (λ (z : List ℤ). record held { phase = phase_before def (k + 1); copy = taken parts.program (state_now parts).exchange held.task def k z })
      (sym i.here.stands.1)

-- what was told, as it is read back
pub told_back : (old : List Status) {more seen here : List Status} {from : ℕ} → from ≡ length old → seen ≡ old ++ more → here ≡ drop from seen → here ≡ more
told_back old {more = more} {seen = seen} is grown read =
    read ∙ ap (λ (n : ℕ). drop n seen) is ∙ ap (λ (z : List Status). drop (length old) z) grown ∙ drop-append_seam old more

-- the insides after a leave
abbrev pub parts_left : BookParts → ℕ → Phase → List Status → List Entry → List ReqNo → ℕ → ℕ → ℕ → BookParts
parts_left parts t next statuses entries listed entry_places status_places opened_places = record parts {
  phases = slice_set parts.phases t next;
  entries = entries;
  statuses = statuses;
  opened = listed;
  entry_places = entry_places;
  status_places = status_places;
  opened_places = opened_places;
}

pub leave_moved : {parts : BookParts} {held : Record} {t k from count : ℕ} {def : TaskDef} {tells : List Status} {next : Phase} {statuses : List Status}
    {entries : List Entry} {listed : List ReqNo} {entry_places status_places opened_places : ℕ} → KeepsState parts → (i : Within parts held t k def)
    → Leaves parts statuses entries t k from count tells → tells ≡ told parts.program (state_now parts).exchange t def k
    → next ≡ stop def (k + 1) → listed ≡ [] → parts.entry_places ≤ entry_places → parts.status_places ≤ status_places → parts.opened_places ≤ opened_places
    → IsMoved parts (parts_left parts t next statuses entries listed entry_places status_places opened_places) t i.here.was
    (left_task parts t k def i.here.was) (leave_move parts.program (state_now parts) t def i.here.was k)
leave_moved {parts = parts} {held = held} {t = t} {k = k} {from = from} {count = count} {def = def} {tells = tells} {statuses = statuses} {entries = entries}
    kept i leaves same stops none more more' more'' =
    let s : State = state_now parts in
    record {
      may = i.may;
      moved = leave_made i;
      is_task = i.here.is_task;
      tasks = refl;
      program = refl;
      workers = refl;
      handed = handed_of parts held t def (phase.In k) (phase.In k) kept i.here i.here.stands.0 (λ e. absurd (cc e));
      marks = refl;
      of_program = refl;
      gone = gone_kept parts t i.here.was _ kept i.here.is_task (ap is_released i.here.stands.0) (stop_is_held def (k + 1));
      whole = kept.whole;
      engine = refl;
      exchange = kept.exchange_is;
      phases = ap (slice_set parts.phases t) stops;
      memory = kept.memory_is;
      cells = refl;
      notices = kept.notices_are;
      entries = entry_is s parts.entries entries parts.statuses t k from count _ _ kept.legal.told leaves.from_is leaves.count_is same leaves.entries_are;
      statuses = leaves.statuses_are ∙ ap (λ (z : List Status). z ++ tells) kept.legal.told ∙ ap (λ (z : List Status). s.statuses ++ z) same;
      opened = none ∙ sym (opened-row parts.program s t def i.here.was (phase.In k) i.here.is_def i.here.is_task i.here.stands.0);
      places = record { entries = more; statuses = more'; notices = omega arith; opened = more'' };
    }

pub leave_stands : (parts : BookParts) (held after : Record) (t k : ℕ) (def : TaskDef) (was : Task)
    → after ≡ record held { phase = phase_before def (k + 1); copy = taken parts.program (state_now parts).exchange t def k was.copy }
    → StandsAs def after.phase after.copy (left_task parts t k def was)
leave_stands parts held after t k def was left =
    subst (λ (z : Record). StandsAs def z.phase z.copy (left_task parts t k def was)) (sym left)
    (stands_before def (k + 1) (taken parts.program (state_now parts).exchange t def k was.copy) (left_task parts t k def was) refl refl)
