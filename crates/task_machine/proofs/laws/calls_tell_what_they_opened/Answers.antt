use Rattle.task_machine.proofs.Owing.{calls_tell}
use Rattle.task_machine.proofs.laws.calls_tell_what_they_opened.Goals as goal

pub returns : goal.returns
returns c = calls_tell
