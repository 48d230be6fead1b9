use Rattle.region_deps.proofs.ChainLemmas.{reached}
use Rattle.region_deps.proofs.laws.each_clash_is_reached.Goals as goal

pub returns : goal.returns
returns c = reached
