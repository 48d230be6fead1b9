use Rattle.hall_rounds.proofs.Ending.{arrive_ends}
use Rattle.hall_rounds.proofs.party.arrive.Goals as goal

pub returns : goal.returns
returns c = arrive_ends _ c.args.ticket _ _ c.requires c.arrive.ensures.last
