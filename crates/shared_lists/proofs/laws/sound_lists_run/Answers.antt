use Rattle.shared_lists.proofs.Fronts.{sound_runs}
use Rattle.shared_lists.proofs.laws.sound_lists_run.Goals as goal

pub returns : goal.returns
returns c = sound_runs
