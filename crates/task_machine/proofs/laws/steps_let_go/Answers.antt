use Rattle.task_machine.proofs.Growth.{step_lets_go}
use Rattle.task_machine.proofs.laws.steps_let_go.Goals as goal

pub returns : goal.returns
returns c = step_lets_go
