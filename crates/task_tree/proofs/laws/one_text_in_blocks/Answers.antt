use Rattle.task_tree.proofs.Written.{one_block}
use Rattle.task_tree.proofs.laws.one_text_in_blocks.Goals as goal

pub returns : goal.returns
returns c = one_block
