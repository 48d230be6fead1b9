use Rattle.history_laws.proofs.Ordering.{messages_kept}
use Rattle.history_laws.proofs.messages_keep_their_order.Goals as goal

pub returns : goal.returns
returns c = messages_kept c.matches_are_posted.ensures c.messages_keep_order.ensures
