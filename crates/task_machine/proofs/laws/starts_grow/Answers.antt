use Rattle.task_machine.proofs.Growth.{starts_more}
use Rattle.task_machine.proofs.laws.starts_grow.Goals as goal

pub returns : goal.returns
returns c = starts_more
