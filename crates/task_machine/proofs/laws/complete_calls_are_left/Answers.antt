use Rattle.task_machine.proofs.Calls.{complete_left}
use Rattle.task_machine.proofs.laws.complete_calls_are_left.Goals as goal

pub returns : goal.returns
returns c = complete_left
