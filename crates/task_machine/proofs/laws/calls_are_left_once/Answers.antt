use Rattle.task_machine.proofs.Calls.{left_once}
use Rattle.task_machine.proofs.laws.calls_are_left_once.Goals as goal

pub returns : goal.returns
returns c = left_once
