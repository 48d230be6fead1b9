use Rattle.meetings.proofs.LogLemmas.{issues_add_one as add_one}
use Rattle.meetings.proofs.laws.issues_add_one.Goals as goal

pub returns : goal.returns
returns c = add_one
