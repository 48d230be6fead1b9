use Rattle.shared_lists.proofs.Fronts.{sound_fronts, sound_longer}
use Rattle.shared_lists.proofs.laws.fronts_are_sound.Goals as goal

pub returns-clause-fronts : goal.returns-clause-fronts
returns-clause-fronts c = sound_fronts

pub returns-clause-longer : goal.returns-clause-longer
returns-clause-longer c = sound_longer
