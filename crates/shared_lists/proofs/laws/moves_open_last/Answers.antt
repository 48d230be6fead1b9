use Rattle.shared_lists.proofs.Pairs.{opens_last}
use Rattle.shared_lists.proofs.laws.moves_open_last.Goals as goal

pub returns : goal.returns
returns c = opens_last
