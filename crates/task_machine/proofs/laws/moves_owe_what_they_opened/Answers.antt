use Rattle.task_machine.proofs.Owing.{move_owes}
use Rattle.task_machine.proofs.laws.moves_owe_what_they_opened.Goals as goal

pub returns : goal.returns
returns c = move_owes
