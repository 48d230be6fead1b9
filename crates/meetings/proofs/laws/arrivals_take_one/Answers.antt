use Rattle.meetings.proofs.LogLemmas.{arrivals_take_one as take_one}
use Rattle.meetings.proofs.laws.arrivals_take_one.Goals as goal

pub returns : goal.returns
returns c = take_one
