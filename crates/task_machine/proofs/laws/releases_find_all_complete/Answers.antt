use Rattle.task_machine.proofs.Releasing.{releases_find}
use Rattle.task_machine.proofs.laws.releases_find_all_complete.Goals as goal

pub returns : goal.returns
returns c = releases_find
