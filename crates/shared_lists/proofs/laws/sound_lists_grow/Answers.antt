use Rattle.shared_lists.proofs.Fronts.{sound_push}
use Rattle.shared_lists.proofs.laws.sound_lists_grow.Goals as goal

pub returns : goal.returns
returns c = sound_push
