use Rattle.std.proofs.Common.{ap, ◌∙◌}
use Rattle.task_local.specs.StandsFor.{Record}
use Rattle.wait_steps.proofs.Samples.{inner_has_places}
use Rattle.wait_steps.proofs.tests.statuses_lie_one_behind_another.Goals as goal

pub store_statuses-requires-clause-declared : goal.store_statuses-requires-clause-declared
store_statuses-requires-clause-declared g c =
    inner_has_places c.in_ok-program.program c.load.new.self c.inner.result c.in_ok-program.ensures.declared
    (ap (λ (held : Record). held.program) c.load.ensures ∙ c.in_ok-held.ensures.program)
    (ap (λ (held : Record). held.task) c.load.ensures ∙ c.in_ok-held.ensures.task) c.inner.ensures
