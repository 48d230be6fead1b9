use Rattle.task_tree.proofs.Complete.{one_reading}
use Rattle.task_tree.proofs.laws.one_expression.Goals as goal

pub returns : goal.returns
returns c = λ c d tokens a b i j. one_reading tokens i j
