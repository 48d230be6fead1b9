use Rattle.std.proofs.Common.{ap, ◌∙◌}
use Rattle.task_local.specs.StandsFor.{Record}
use Rattle.wait_steps.proofs.Samples.{inner_has_places}
use Rattle.wait_steps.proofs.tests.a_release_stores_the_statuses_of_null_handles.Goals as goal

pub take_each-requires-clause-declared : goal.take_each-requires-clause-declared
take_each-requires-clause-declared g c =
    inner_has_places c.in_ok-program.program c.load.new.self c.inner.result c.in_ok-program.ensures.declared
    (ap (λ (held : Record). held.program) c.load.ensures ∙ c.in_ok-held.ensures.program)
    (ap (λ (held : Record). held.task) c.load.ensures ∙ c.in_ok-held.ensures.task) c.inner.ensures
