use Rattle.history_laws.proofs.Tracing.{in_order}
use Rattle.history_laws.proofs.posted_in_order.Goals as goal

pub returns : goal.returns
returns c = in_order
