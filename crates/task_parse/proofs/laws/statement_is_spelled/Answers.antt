use Rattle.task_parse.proofs.StatementLemmas.{statement_is_spelled}
use Rattle.task_parse.proofs.laws.statement_is_spelled.Goals as goal

pub returns : goal.returns
returns c = statement_is_spelled
