use Rattle.task_parse.proofs.StatementLemmas.{shape_is_the_fault}
use Rattle.task_parse.proofs.laws.shape_is_the_fault.Goals as goal

pub returns : goal.returns
returns c = shape_is_the_fault
