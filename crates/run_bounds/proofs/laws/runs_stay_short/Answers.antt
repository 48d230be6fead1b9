use Rattle.run_bounds.proofs.Runs.{runs_short}
use Rattle.run_bounds.proofs.laws.runs_stay_short.Goals as goal

pub returns : goal.returns
returns c = runs_short
