use Rattle.region_deps.proofs.ChainLemmas.{suffices}
use Rattle.region_deps.proofs.laws.links_suffice.Goals as goal

pub returns : goal.returns
returns c = suffices
