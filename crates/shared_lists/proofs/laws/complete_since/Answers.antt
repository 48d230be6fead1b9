use Rattle.shared_lists.proofs.Since.{complete_since as complete_on}
use Rattle.shared_lists.proofs.laws.complete_since.Goals as goal

pub returns : goal.returns
returns c = complete_on
