-- A task that is before a call.
use Rattle.std.proofs.Common.{◌≡◌, ℕ, false, slice_get, Some, sym, ap, ◌∙◌, subst}
use Rattle.rt_base.specs.declared.data.Op.{Op}
use Rattle.rt_base.specs.declared.data.Phase.TheVariants as phase
use Rattle.rt_base.specs.declared.data.TaskDef.{TaskDef}
use Rattle.rt_base.specs.declared.data.Program.{Program}
use Rattle.rt_base.specs.Operations.{is_local}
use Rattle.rt_base.specs.MayMove.{MayMove, MayMoveAt}
use Rattle.task_local.specs.Standing.{def_of}
use Rattle.task_local.specs.StandsFor.{Record, StandsFor}
use Rattle.task_machine.specs.Legal.{final}
use Rattle.run_bounds.proofs.Operations.{advanced_at_call, stop_at_call}
use Rattle.book_parts.specs.Ledger.{Ledger}
use Rattle.book_parts.specs.Kept.{BookParts, state_now}
use Rattle.book_parts.proofs.Moved.{ledger_of}
use Rattle.book_parts.proofs.Held.{Held, held_at}

-- a task that is before a call, as its record and the machine's state have it
pub record Before (parts : BookParts) (held : Record) (t k : ℕ) (def : TaskDef) (x : Op) : Type 0 where
  pub here : Held parts held t def (phase.At k)
  pub is : slice_get def.body.items k ≡ Some x
  pub at : here.was.phase ≡ phase.At k
  pub copy : held.copy ≡ here.was.copy

pub before : (parts : BookParts) (held : Record) (t k : ℕ) (def : TaskDef) (x : Op) (l : Ledger) (prog : Program) → ledger_of parts ≡ l → prog ≡ l.program
    → StandsFor prog held (final prog l.history) → t ≡ held.task → slice_get prog.tasks.items t ≡ Some def → held.phase ≡ phase.At k
    → slice_get (def_of held.program held.task).body.items k ≡ Some x → is_local x ≡ false → Before parts held t k def x
before parts held t k def x l prog view same stands who is_def place is other =
    let here = held_at parts held t def (phase.At k) l prog view same stands who is_def place in
    let own : slice_get def.body.items k ≡ Some x = ap (λ (d : TaskDef). slice_get d.body.items k) (sym here.held_def) ∙ is in
    record {
      here = here;
      is = own;
      at = sym here.stands.0 ∙ stop_at_call def k x own other;
      copy = sym (advanced_at_call def k x held.copy own other) ∙ here.stands.1;
    }

-- the task may make its call
pub before_may : {parts : BookParts} {held : Record} {t k : ℕ} {def : TaskDef} {x : Op} → Before parts held t k def x
    → MayMove parts.program (state_now parts) t
before_may {parts = parts} {t = t} {def = def} b = record {
  def = def;
  task = b.here.was;
  is_def = b.here.is_def;
  is_task = b.here.is_task;
  enabled = subst (MayMoveAt parts.program (state_now parts).tasks (state_now parts).exchange t def b.here.was) (sym b.at) tt;
}
