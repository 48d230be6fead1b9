use Rattle.match_engine.proofs.Matched.{messages_order}
use Rattle.match_engine.proofs.laws.messages_keep_order.Goals as goal

pub returns : goal.returns
returns c = messages_order
