use Rattle.hall_rounds.proofs.Ending.{park_ends}
use Rattle.hall_rounds.proofs.party.park.Goals as goal

pub returns : goal.returns
returns c = park_ends _ c.args.holder _ _ c.requires c.park.ensures.last
