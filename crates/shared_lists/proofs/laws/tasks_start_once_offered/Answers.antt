use Rattle.shared_lists.proofs.Since.{new_waits}
use Rattle.shared_lists.proofs.Offers.{started_offered}
use Rattle.shared_lists.proofs.laws.tasks_start_once_offered.Goals as goal

pub returns-clause-new : goal.returns-clause-new
returns-clause-new c = new_waits

pub returns-clause-offered : goal.returns-clause-offered
returns-clause-offered c = started_offered
