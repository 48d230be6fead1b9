use Rattle.std.proofs.Common.{◌≡◌, ℕ, sym, subst, ap, ap₂, ◌∙◌}
use Rattle.rt_base.specs.declared.data.Span.{Span}
use Rattle.rt_base.specs.declared.data.TaskDef.{TaskDef}
use Rattle.rt_base.specs.declared.data.Program.{Program}
use Rattle.rt_base.specs.WellFormed.{IsDeclared}
use Rattle.task_local.specs.Standing.{def, def_of}
use Rattle.task_local.proofs.Samples.{cells_of_a}
use Rattle.task_local.proofs.tests.received_cells_are_stored_in_front.Goals as goal

pub store-requires-clause-declared : goal.store-requires-clause-declared
store-requires-clause-declared g c =
    let here : def c.load.new.self ≡ def_of c.in_ok-program.program 2 =
    ap def c.load.ensures ∙ ap₂ (λ (p : Program) (t : ℕ). def_of p t) c.in_ok-held.ensures.program c.in_ok-held.ensures.task in
    subst (λ (span : Span). IsDeclared (def c.load.new.self).accesses.items span) (sym c.cells_of_a.ensures)
    (subst (λ (task : TaskDef). IsDeclared task.accesses.items (cells_of_a 1 4)) (sym here) c.in_ok-program.ensures.declared)
