use Rattle.task_machine.proofs.Fronts.{front_legal}
use Rattle.task_machine.proofs.laws.fronts_are_legal.Goals as goal

pub returns : goal.returns
returns c = front_legal
