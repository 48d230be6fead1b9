use Rattle.task_local.proofs.Releases.{statuses_alone}
use Rattle.task_local.proofs.laws.released_statuses_in_a_row.Goals as goal

pub returns : goal.returns
returns c = statuses_alone
