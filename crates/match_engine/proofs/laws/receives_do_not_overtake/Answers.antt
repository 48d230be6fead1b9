use Rattle.match_engine.proofs.Overtaking.{receives_law}
use Rattle.match_engine.proofs.laws.receives_do_not_overtake.Goals as goal

pub returns : goal.returns
returns c = receives_law
