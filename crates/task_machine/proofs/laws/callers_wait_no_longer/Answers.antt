use Rattle.task_machine.proofs.Others.{callers_started}
use Rattle.task_machine.proofs.laws.callers_wait_no_longer.Goals as goal

pub returns : goal.returns
returns c = callers_started
