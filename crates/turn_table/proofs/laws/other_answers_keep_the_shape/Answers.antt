use Rattle.turn_table.proofs.Beside.{keeps_the_shape}
use Rattle.turn_table.proofs.laws.other_answers_keep_the_shape.Goals as goal

pub returns : goal.returns
returns c = keeps_the_shape
