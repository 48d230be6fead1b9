use Rattle.task_machine.proofs.Others.{complete_stays}
use Rattle.task_machine.proofs.laws.complete_stays.Goals as goal

pub returns : goal.returns
returns c = complete_stays
