use Rattle.task_local.proofs.Stands.{stands_after_moved_on, stands_before_moved_on}
use Rattle.task_local.proofs.laws.local_operations.Goals as goal

pub returns : goal.returns
returns c = λ program held state. (stands_after_moved_on program held state, stands_before_moved_on program held state)
