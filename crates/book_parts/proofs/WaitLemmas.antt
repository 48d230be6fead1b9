-- What the call of a wait owes beside, in terms of a book's fields.
use Rattle.std.proofs.Common.{◌≡◌, ℕ, false, List, slice_get, refl, sym, ap, ◌∙◌, subst}
use Rattle.rt_base.specs.declared.data.Handle.{Handle}
use Rattle.rt_base.specs.declared.data.Op.TheVariants as op
use Rattle.rt_base.specs.declared.data.Phase.TheVariants as phase
use Rattle.rt_base.specs.declared.data.TaskDef.{TaskDef}
use Rattle.rt_base.specs.declared.data.Program.{Program}
use Rattle.rt_base.specs.Operations.{named_requests, awaited}
use Rattle.rt_base.specs.State.{Task}
use Rattle.task_local.specs.StandsFor.{Record, StandsAs}
use Rattle.task_machine.specs.Machine.{open_count}
use Rattle.book_parts.specs.Kept.{BookParts, KeepsState}
use Rattle.book_counts.proofs.Awaiting.{awaited_is}
use Rattle.book_parts.proofs.AwaitLemmas.{AwaitIs, Awaits}

-- what the task awaits in it
pub wait_awaits : (t k : ℕ) (def : TaskDef) (w : AwaitIs false (slice_get def.body.items k)) → awaited t def k ≡ named_requests t w.handles.items
wait_awaits t k def w = awaited_is t def k (op.Await false w.handles w.status) w.is

-- the task after the call
abbrev pub waiting_in : ℕ → Task → Task
waiting_in k was = record was { phase = phase.In k }

module _ {parts : BookParts} {held : Record} {t k : ℕ} {def : TaskDef} {named : List Handle} (kept : KeepsState parts)
    (w : Awaits parts held t k def false named) where
  -- as many as the task awaits in it
  pub count_awaited : {count : ℕ} → count ≡ open_count parts.engine.program parts.engine.exchange (named_requests t named)
      → count ≡ open_count parts.program parts.engine.exchange (awaited t def k)
  count_awaited counted =
      counted ∙ ap (λ (q : Program). open_count q parts.engine.exchange (named_requests t named)) kept.engine_of
      ∙ ap (λ (z : List Handle). open_count parts.program parts.engine.exchange (named_requests t z)) w.names
      ∙ sym (ap (open_count parts.program parts.engine.exchange) (wait_awaits t k def w.asked))

  pub wait_stands : {after : Record} → after ≡ record held { phase = phase.In k } → StandsAs def after.phase after.copy (waiting_in k w.it.here.was)
  wait_stands went = subst (λ (z : Record). StandsAs def z.phase z.copy (waiting_in k w.it.here.was)) (sym went) (refl, w.it.copy)
