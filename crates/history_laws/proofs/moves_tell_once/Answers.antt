use Rattle.history_laws.proofs.Told.{moves_tell}
use Rattle.history_laws.proofs.moves_tell_once.Goals as goal

pub returns : goal.returns
returns c = moves_tell
