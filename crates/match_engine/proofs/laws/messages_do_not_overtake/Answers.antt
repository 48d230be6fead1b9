use Rattle.match_engine.proofs.Overtaking.{messages_law}
use Rattle.match_engine.proofs.laws.messages_do_not_overtake.Goals as goal

pub returns : goal.returns
returns c = messages_law
