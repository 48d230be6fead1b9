use Rattle.match_engine.proofs.Leftovers.{nothing_law}
use Rattle.match_engine.proofs.laws.nothing_that_matches_is_left.Goals as goal

pub returns : goal.returns
returns c = nothing_law
