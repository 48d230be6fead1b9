use Rattle.task_machine.proofs.Others.{leaves_others}
use Rattle.task_machine.proofs.laws.steps_leave_others.Goals as goal

pub returns : goal.returns
returns c = leaves_others
