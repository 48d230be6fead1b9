use Rattle.history_laws.proofs.Ordering.{receives_kept}
use Rattle.history_laws.proofs.receives_keep_their_order.Goals as goal

pub returns : goal.returns
returns c = receives_kept c.matches_are_posted.ensures c.receives_keep_order.ensures
