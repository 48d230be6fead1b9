use Rattle.task_tree.proofs.Complete.{is_read}
use Rattle.task_tree.proofs.laws.spelled_is_read.Goals as goal

pub returns : goal.returns
returns c = λ depth front rest e i h. is_read front rest i h
