use Rattle.task_machine.proofs.Others.{enabled_stays}
use Rattle.task_machine.proofs.laws.enabled_stays.Goals as goal

pub returns : goal.returns
returns c = enabled_stays
