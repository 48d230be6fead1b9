use Rattle.run_bounds.proofs.Runs.{runs_fit}
use Rattle.run_bounds.proofs.laws.runs_fit.Goals as goal

pub returns : goal.returns
returns c = runs_fit
