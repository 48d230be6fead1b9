use Rattle.task_local.proofs.Rows.{statuses_in_a_row}
use Rattle.task_local.proofs.laws.statuses_in_a_row.Goals as goal

pub returns : goal.returns
returns c = statuses_in_a_row
