use Rattle.task_parse.proofs.Outcomes.{one_outcome}
use Rattle.task_parse.proofs.laws.one_outcome_a_text.Goals as goal

pub returns : goal.returns
returns c = one_outcome
