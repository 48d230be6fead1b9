use Rattle.shared_lists.proofs.Since.{quiet_since}
use Rattle.shared_lists.proofs.laws.quiet_stays.Goals as goal

pub returns : goal.returns
returns c = quiet_since
