use Rattle.tidy_runs.proofs.Telling.{moves_open}
use Rattle.tidy_runs.proofs.laws.moves_open.Goals as goal

pub returns : goal.returns
returns c = moves_open
