use Rattle.tidy_runs.proofs.Tidying.{runs_are_tidy}
use Rattle.tidy_runs.proofs.laws.runs_are_tidy.Goals as goal

pub returns : goal.returns
returns c = runs_are_tidy
