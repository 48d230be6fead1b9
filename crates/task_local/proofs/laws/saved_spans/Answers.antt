use Rattle.task_local.proofs.Saved.{saved_span, others_stay}
use Rattle.task_local.proofs.laws.saved_spans.Goals as goal

pub returns-clause-written : goal.returns-clause-written
returns-clause-written c = saved_span

pub returns-clause-others : goal.returns-clause-others
returns-clause-others c = others_stay
