use Rattle.match_engine.proofs.Matched.{posted_law}
use Rattle.match_engine.proofs.laws.matches_are_posted.Goals as goal

pub returns : goal.returns
returns c = posted_law
