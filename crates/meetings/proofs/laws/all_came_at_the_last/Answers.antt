use Rattle.meetings.proofs.LogLemmas.{all_came}
use Rattle.meetings.proofs.laws.all_came_at_the_last.Goals as goal

pub returns : goal.returns
returns c = all_came
