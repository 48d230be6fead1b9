use Rattle.run_bounds.proofs.Rooms.{bounds_few}
use Rattle.run_bounds.proofs.laws.bounds_are_few.Goals as goal

pub returns : goal.returns
returns c = bounds_few
