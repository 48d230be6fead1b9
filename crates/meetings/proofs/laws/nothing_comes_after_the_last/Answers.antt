use Rattle.meetings.proofs.LogLemmas.{some_are_due}
use Rattle.meetings.proofs.laws.nothing_comes_after_the_last.Goals as goal

pub returns : goal.returns
returns c = some_are_due
