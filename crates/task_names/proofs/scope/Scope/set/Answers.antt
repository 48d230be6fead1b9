use Rattle.std.proofs.Common.{slice_get, sym, ap, ◌∙◌}
use Rattle.task_names.proofs.scope.Scope.set.Goals as goal

pub change-requires : goal.change-requires
change-requires c = (c.in-Some.field-0-1.now, ap (λ s. slice_get s.names c.in-Some.place) (sym c.self.view_is) ∙ c.in-Some.ensures.entry)
