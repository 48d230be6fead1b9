use Rattle.task_machine.proofs.Calls.{others_not_left}
use Rattle.task_machine.proofs.laws.others_are_not_left.Goals as goal

pub returns : goal.returns
returns c = others_not_left
