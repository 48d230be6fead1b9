use Rattle.history_laws.proofs.Told.{until_told}
use Rattle.history_laws.proofs.owed_until_told.Goals as goal

pub returns : goal.returns
returns c = until_told
