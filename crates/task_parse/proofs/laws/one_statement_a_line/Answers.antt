use Rattle.task_parse.proofs.StatementLemmas.{one_statement_a_line}
use Rattle.task_parse.proofs.laws.one_statement_a_line.Goals as goal

pub returns : goal.returns
returns c = one_statement_a_line
