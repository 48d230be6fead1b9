use Rattle.shared_lists.proofs.Since.{still_since, stands_on}
use Rattle.shared_lists.proofs.laws.others_leave_tasks.Goals as goal

pub returns-clause-tasks : goal.returns-clause-tasks
returns-clause-tasks c = still_since

pub returns-clause-records : goal.returns-clause-records
returns-clause-records c = stands_on
