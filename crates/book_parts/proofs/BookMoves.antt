-- Moves of a task alone, a start and a return among them: what they change of a book, and where they leave the record.
use Rattle.std.proofs.Common.{◌≡◌, ℕ, ◌≤◌, Bool, true, false, List, [], ◌∷◌, ◌++◌, slice_get, slice_set, Some, refl, sym, ap, ◌∙◌, subst, arith}
use Rattle.std.specs.Prelude.{ℤ}
use Rattle.rt_base.specs.declared.data.ReqNo.{ReqNo}
use Rattle.rt_base.specs.declared.data.Phase.{Phase}
use Rattle.rt_base.specs.declared.data.Phase.TheVariants as phase
use Rattle.rt_base.specs.declared.data.Entry.{Entry}
use Rattle.rt_base.specs.declared.data.Entry.TheVariants as entry
use Rattle.rt_base.specs.declared.data.TaskDef.{TaskDef}
use Rattle.rt_base.specs.declared.data.Program.{Program}
use Rattle.rt_base.specs.Operations.{task_no}
use Rattle.rt_base.specs.State.{Task, is_released}
use Rattle.rt_base.specs.MayMove.{MayMove, MayMoveAt}
use Rattle.task_local.specs.Regions.{loaded}
use Rattle.task_local.specs.Local.{advanced, stop}
use Rattle.task_local.specs.Standing.{def_of, phase_before}
use Rattle.task_local.specs.StandsFor.{Record, StandsAs}
use Rattle.task_machine.specs.Machine.{move, start_move, return_move, with_task}
use Rattle.task_machine.specs.Owed.{opened}
use Rattle.book_parts.specs.Ledger.{record_at, record_after}
use Rattle.book_parts.specs.Kept.{BookParts, KeepsState, state_now}
use Rattle.task_machine.proofs.Rows.{move-row}
use Rattle.book_parts.proofs.Moved.{IsMoved, gone_kept, opened-row}
use Rattle.book_counts.proofs.CountLemmas.{stop_is_held}
use Rattle.book_parts.proofs.Held.{Held, handed_of, stands_before}

-- the insides after a move that changes nothing of the exchange, the memory, the notices and the statuses
abbrev pub parts_alone : BookParts → ℕ → Phase → List Entry → List ReqNo → ℕ → ℕ → List ℕ → List (List Bool) → List ℕ → List ℕ → BookParts
parts_alone parts t at entries found places places' waits marks bound incomplete = record parts {
  phases = slice_set parts.phases t at;
  entries = entries;
  opened = found;
  entry_places = places;
  opened_places = places';
  waits = waits;
  marks = marks;
  bound = bound;
  incomplete = incomplete;
}

pub moved_alone : {parts : BookParts} {t : ℕ} {was : Task}
    {at : Phase} {entries : List Entry} {found : List ReqNo} {places places' : ℕ} (now : Task) (e : Entry)
    (waits : List ℕ) (marks : List (List Bool)) (bound incomplete : List ℕ) → KeepsState parts → MayMove parts.program (state_now parts) t
    → move parts.program (state_now parts) t ≡ record { state = with_task (state_now parts) t now; entry = e }
    → slice_get (state_now parts).tasks t ≡ Some was → is_released was.phase ≡ false → is_released now.phase ≡ false
    → slice_get parts.ready.handed t ≡ Some true → at ≡ now.phase → entries ≡ parts.entries ++ e ∷ []
    → found ≡ opened parts.program (state_now parts) t → parts.entry_places ≤ places → parts.opened_places ≤ places'
    → IsMoved parts (parts_alone parts t at entries found places places' waits marks bound incomplete) t was now
    (record { state = with_task (state_now parts) t now; entry = e })
moved_alone {parts = parts} {t = t} {was = was} now e waits marks bound incomplete k may moved is_task held held' handed stops grown opens more more' = record {
  may = may;
  moved = moved;
  is_task = is_task;
  tasks = refl;
  program = refl;
  workers = refl;
  handed = handed;
  marks = refl;
  of_program = refl;
  gone = gone_kept parts t was now k is_task held held';
  whole = k.whole;
  engine = refl;
  exchange = k.exchange_is;
  phases = ap (slice_set parts.phases t) stops;
  memory = k.memory_is;
  cells = refl;
  notices = k.notices_are;
  entries = grown;
  statuses = k.legal.told;
  opened = opens;
  places = record { entries = more; statuses = omega arith; notices = omega arith; opened = more' };
}

-- where a record is left, by where it stands
pub left_as : (parts : BookParts) (held : Record) (t : ℕ) (def : TaskDef) (at : Phase) → Held parts held t def at
    → record_after parts.program (state_now parts) held ≡ record_at parts.program (state_now parts) def held at
left_as parts held t def at h =
    ap (λ (d : TaskDef). record_at parts.program (state_now parts) d held held.phase) h.held_def
    ∙ ap (record_at parts.program (state_now parts) def held) h.place

-- the task after its start
abbrev pub started_task : BookParts → TaskDef → Task → Task
started_task parts def was = record was { phase = stop def 0; copy = advanced def 0 (loaded parts.program def (state_now parts).memory) }

module _ {parts : BookParts} {held : Record} {t : ℕ} {def : TaskDef} (kept : KeepsState parts) (h : Held parts held t def phase.Waiting) where
  pub start_moved : {at : Phase} {entries : List Entry} {found : List ReqNo} {places places' : ℕ} → MayMove parts.program (state_now parts) t
      → slice_get parts.ready.handed t ≡ Some true → at ≡ stop def 0 → entries ≡ parts.entries ++ entry.Start (task_no t) ∷ [] → found ≡ []
      → parts.entry_places ≤ places → parts.opened_places ≤ places'
      → IsMoved parts (parts_alone parts t at entries found places places' parts.waits parts.marks parts.bound parts.incomplete) t h.was
      (started_task parts def h.was) (start_move parts.program (state_now parts) t def h.was)
  start_moved may handed stops grown none more more' =
      moved_alone (started_task parts def h.was) (entry.Start (task_no t)) parts.waits parts.marks parts.bound parts.incomplete kept may
      (move-row parts.program (state_now parts) t def h.was phase.Waiting h.is_def h.is_task h.stands) h.is_task
      (rw h.stands refl) (stop_is_held def 0) handed stops grown
      (none ∙ sym (opened-row parts.program (state_now parts) t def h.was phase.Waiting h.is_def h.is_task h.stands)) more more'

  pub start_left : {loaded_held after : Record} {at : Phase} {memory : List ℤ} {prog : Program} → prog ≡ parts.program → memory ≡ parts.memory
      → loaded_held ≡ record held { copy = loaded prog (def_of held.program held.task) memory } → at ≡ phase_before def 0
      → after ≡ record loaded_held { phase = at } → after ≡ record_at parts.program (state_now parts) def held phase.Waiting
  start_left {at = at} {memory = memory} {prog = prog} same memories load stops go =
      let p : Program = parts.program in
      let copied : loaded prog (def_of held.program held.task) memory ≡ loaded p def (state_now parts).memory =
      ap (λ (z : Program). loaded z (def_of held.program held.task) memory) same ∙ ap (λ (d : TaskDef). loaded p d memory) h.held_def
      ∙ ap (loaded p def) (memories ∙ kept.memory_is) in
      go ∙ ap (λ (z : Record). record z { phase = at }) load
      ∙ ap (λ (q : Phase). record held { copy = loaded prog (def_of held.program held.task) memory; phase = q }) stops
      ∙ ap (λ (cs : List ℤ). record held { copy = cs; phase = phase_before def 0 }) copied

pub start_stands : (parts : BookParts) (held after : Record) (def : TaskDef) (was : Task)
    → after ≡ record_at parts.program (state_now parts) def held phase.Waiting
    → StandsAs def after.phase after.copy (started_task parts def was)
start_stands parts held after def was left =
    subst (λ (z : Record). StandsAs def z.phase z.copy (started_task parts def was)) (sym left)
    (stands_before def 0 (loaded parts.program def (state_now parts).memory) (started_task parts def was) refl refl)

-- a task whose body has ended may return
pub may_return : {parts : BookParts} {held : Record} {t : ℕ} {def : TaskDef} → Held parts held t def phase.Ended → MayMove parts.program (state_now parts) t
may_return {parts = parts} {t = t} {def = def} h = record {
  def = def;
  task = h.was;
  is_def = h.is_def;
  is_task = h.is_task;
  enabled = subst (MayMoveAt parts.program (state_now parts).tasks (state_now parts).exchange t def h.was) (sym h.stands.0) tt;
}

abbrev pub returned_task : Task → Task
returned_task was = record was { phase = phase.Returned }

pub ret_moved : {parts : BookParts} {held : Record} {t : ℕ} {def : TaskDef} {entries : List Entry} {found : List ReqNo} {places places' : ℕ} (waits : List ℕ)
    → KeepsState parts → (h : Held parts held t def phase.Ended)
    → entries ≡ parts.entries ++ entry.Return (task_no t) ∷ [] → found ≡ [] → parts.entry_places ≤ places → parts.opened_places ≤ places'
    → IsMoved parts (parts_alone parts t phase.Returned entries found places places' waits parts.marks parts.bound parts.incomplete) t h.was
    (returned_task h.was) (return_move (state_now parts) t h.was)
ret_moved {parts = parts} {held = held} {t = t} {def = def} waits kept h grown none more more' =
    moved_alone (returned_task h.was) (entry.Return (task_no t)) waits parts.marks parts.bound parts.incomplete kept (may_return h)
    (move-row parts.program (state_now parts) t def h.was phase.Ended h.is_def h.is_task h.stands.0) h.is_task
    (rw h.stands.0 refl) refl (handed_of parts held t def phase.Ended phase.Ended kept h h.stands.0 (λ e. absurd (cc e))) refl grown
    (none ∙ sym (opened-row parts.program (state_now parts) t def h.was phase.Ended h.is_def h.is_task h.stands.0)) more more'
