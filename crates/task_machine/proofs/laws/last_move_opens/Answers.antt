use Rattle.task_machine.proofs.Opened.{last_opened-push, last_opened-poll}
use Rattle.task_machine.proofs.laws.last_move_opens.Goals as goal

pub returns-clause-moves : goal.returns-clause-moves
returns-clause-moves c = last_opened-push

pub returns-clause-polls : goal.returns-clause-polls
returns-clause-polls c = last_opened-poll
