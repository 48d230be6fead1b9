use Rattle.history_laws.proofs.Starting.{start_in_order}
use Rattle.history_laws.proofs.tasks_start_in_order.Goals as goal

pub returns : goal.returns
returns c = start_in_order
