use Rattle.tidy_runs.proofs.Telling.{expected_stays}
use Rattle.tidy_runs.proofs.laws.expected_stays.Goals as goal

pub returns : goal.returns
returns c = expected_stays
