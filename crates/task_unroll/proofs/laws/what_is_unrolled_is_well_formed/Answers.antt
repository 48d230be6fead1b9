use Rattle.task_unroll.proofs.WholeProgram.{all_well_formed}
use Rattle.task_unroll.proofs.laws.what_is_unrolled_is_well_formed.Goals as goal

pub returns : goal.returns
returns c = all_well_formed
