use Rattle.task_machine.proofs.Fronts.{legal_run}
use Rattle.task_machine.proofs.laws.runs_are_legal.Goals as goal

pub returns : goal.returns
returns c = legal_run
