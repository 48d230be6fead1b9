use Rattle.tidy_runs.proofs.Telling.{bound_opened}
use Rattle.tidy_runs.proofs.laws.bound_were_opened.Goals as goal

pub returns : goal.returns
returns c = bound_opened
