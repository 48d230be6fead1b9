use Rattle.tidy_runs.proofs.Telling.{opened_owed}
use Rattle.tidy_runs.proofs.laws.opened_are_owed.Goals as goal

pub returns : goal.returns
returns c = opened_owed
