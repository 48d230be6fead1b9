use Rattle.match_engine.proofs.Matched.{receives_order}
use Rattle.match_engine.proofs.laws.receives_keep_order.Goals as goal

pub returns : goal.returns
returns c = receives_order
