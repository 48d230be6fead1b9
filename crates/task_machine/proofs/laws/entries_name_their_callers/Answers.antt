use Rattle.rt_base.specs.State.{opening}
use Rattle.task_machine.proofs.Fronts.{callers_of_run}
use Rattle.task_machine.proofs.laws.entries_name_their_callers.Goals as goal

pub returns : goal.returns
returns c = λ p w cs runs. callers_of_run p w (opening p) cs runs
