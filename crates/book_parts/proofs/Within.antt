-- A task that is in an operation.
use Rattle.std.proofs.Common.{◌≡◌, ℕ, ◌<◌, true, List, length, slice_get, Some}
use Rattle.std.proofs.Common.{sym, ap, ◌∙◌, subst}
use Rattle.std.specs.Prelude.{ℤ}
use Rattle.std.proofs.lemmas.Option.{slice_get_within, same_Some}
use Rattle.rt_base.specs.declared.data.Phase.TheVariants as phase
use Rattle.rt_base.specs.declared.data.TaskDef.{TaskDef}
use Rattle.rt_base.specs.declared.data.Program.{Program}
use Rattle.rt_base.specs.Operations.{awaited}
use Rattle.rt_base.specs.State.{State, Task}
use Rattle.rt_base.specs.MayMove.{MayMove, MayMoveAt, AreComplete}
use Rattle.task_local.specs.StandsFor.{Record, StandsFor}
use Rattle.task_local.specs.Standing.{def_of}
use Rattle.task_machine.specs.Legal.{final}
use Rattle.task_machine.specs.Laws.{is_blocking_call}
use Rattle.book_parts.specs.Ledger.{Ledger}
use Rattle.run_bounds.specs.Fits.{MayStand}
use Rattle.run_bounds.proofs.Tells.{blocking_there}
use Rattle.book_parts.specs.Kept.{BookParts, KeepsState, state_now}
use Rattle.book_parts.proofs.Moved.{fits_now, ledger_of}
use Rattle.book_parts.proofs.Held.{Held, held_at, may_move}

-- a task that is in an operation, as its record and the machine's state have it
pub record Within (parts : BookParts) (held : Record) (t k : ℕ) (def : TaskDef) : Type 0 where
  pub here : Held parts held t def (phase.In k)
  pub may : MayMove parts.program (state_now parts) t
  pub blocking : is_blocking_call (slice_get def.body.items k) ≡ true

is_blocked : {parts : BookParts} {held : Record} {t k : ℕ} {def : TaskDef} → KeepsState parts → Held parts held t def (phase.In k)
    → is_blocking_call (slice_get def.body.items k) ≡ true
is_blocked {parts = parts} {t = t} {def = def} kept here =
    subst (MayStand def) here.stands.0 ((fits_now parts kept).placed t def here.was here.is_def here.is_task)

pub is_within : (parts : BookParts) (held : Record) (t k : ℕ) (def : TaskDef) (l : Ledger) (prog : Program) → KeepsState parts → ledger_of parts ≡ l
    → prog ≡ l.program → StandsFor prog held (final prog l.history) → MayMove prog (final prog l.history) held.task → t ≡ held.task
    → slice_get prog.tasks.items t ≡ Some def → held.phase ≡ phase.In k → Within parts held t k def
is_within parts held t k def l prog kept view same stands may who is_def place =
    let here = held_at parts held t def (phase.In k) l prog view same stands who is_def place in
    record { here = here; may = may_move parts held t l prog view same may who; blocking = is_blocked kept here }

module _ {parts : BookParts} {held : Record} {t k : ℕ} {def : TaskDef} (w : Within parts held t k def) where
  pub within_body : k < length def.body.items
  within_body =
      let there = blocking_there (slice_get def.body.items k) w.blocking in
      slice_get_within def.body.items k there.0 there.1

  -- the task's move, as it stands in the operation
  pub enabled_in : AreComplete parts.program (state_now parts).exchange (awaited t def k)
  enabled_in =
      let p : Program = parts.program in
      let s : State = state_now parts in
      let was : Task = w.here.was in
      let one_def : w.may.def ≡ def = same_Some w.may.def def (sym w.may.is_def ∙ w.here.is_def) in
      let one_task : w.may.task ≡ was = same_Some w.may.task was (sym w.may.is_task ∙ w.here.is_task) in
      subst (MayMoveAt p s.tasks s.exchange t def was) w.here.stands.0
      (subst (λ (z : Task). MayMoveAt p s.tasks s.exchange t def z z.phase) one_task
      (subst (λ (d : TaskDef). MayMoveAt p s.tasks s.exchange t d w.may.task w.may.task.phase) one_def w.may.enabled))

-- the record after cells are stored
pub stored_def : (held stored : Record) (def : TaskDef) (copy : List ℤ) → def_of held.program held.task ≡ def → stored ≡ record held { copy = copy }
    → def_of stored.program stored.task ≡ def
stored_def held stored def copy held_def went = ap (λ (z : Record). def_of z.program z.task) went ∙ held_def
