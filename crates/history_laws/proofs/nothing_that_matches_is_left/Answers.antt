use Rattle.history_laws.proofs.Tracing.{none_left}
use Rattle.history_laws.proofs.nothing_that_matches_is_left.Goals as goal

pub returns : goal.returns
returns c = none_left c.nothing_that_matches_is_left.ensures
