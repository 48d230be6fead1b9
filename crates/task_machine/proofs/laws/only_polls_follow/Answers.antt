use Rattle.task_machine.proofs.Others.{polls_follow}
use Rattle.task_machine.proofs.laws.only_polls_follow.Goals as goal

pub returns : goal.returns
returns c = polls_follow
