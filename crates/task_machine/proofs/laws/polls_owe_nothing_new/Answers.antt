use Rattle.task_machine.proofs.Owing.{poll_owes}
use Rattle.task_machine.proofs.laws.polls_owe_nothing_new.Goals as goal

pub returns : goal.returns
returns c = poll_owes
