use Rattle.wait_steps.proofs.Marking.{is_marked-all}
use Rattle.wait_steps.proofs.laws.bound_are_marked.Goals as goal

pub returns : goal.returns
returns c = is_marked-all
