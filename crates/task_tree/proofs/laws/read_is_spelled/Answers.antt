use Rattle.task_tree.proofs.Sound.{finds}
use Rattle.task_tree.proofs.laws.read_is_spelled.Goals as goal

pub returns : goal.returns
returns c = λ tokens. finds tokens
