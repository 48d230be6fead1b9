use Rattle.shared_lists.proofs.Numbers.{has_few}
use Rattle.shared_lists.proofs.laws.sound_lists_have_few.Goals as goal

pub returns : goal.returns
returns c = has_few
