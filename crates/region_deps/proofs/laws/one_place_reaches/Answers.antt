use Rattle.region_deps.proofs.ChainLemmas.{reached_at}
use Rattle.region_deps.proofs.laws.one_place_reaches.Goals as goal

pub returns : goal.returns
returns c = reached_at
