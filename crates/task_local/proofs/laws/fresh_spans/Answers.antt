use Rattle.task_local.proofs.Fresh.{fresh_span}
use Rattle.task_local.proofs.laws.fresh_spans.Goals as goal

pub returns : goal.returns
returns c = fresh_span
