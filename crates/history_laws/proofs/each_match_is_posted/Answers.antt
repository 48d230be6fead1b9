use Rattle.history_laws.proofs.Ordering.{each_posted}
use Rattle.history_laws.proofs.each_match_is_posted.Goals as goal

pub returns : goal.returns
returns c = each_posted c.matches_are_posted.ensures
