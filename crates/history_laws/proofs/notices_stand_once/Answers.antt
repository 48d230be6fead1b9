use Rattle.history_laws.proofs.Standing.{stands_once}
use Rattle.history_laws.proofs.notices_stand_once.Goals as goal

pub returns : goal.returns
returns c = stands_once
