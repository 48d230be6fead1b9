use Rattle.std.proofs.Common.{ap}
use Rattle.ready_bag.proofs.Deals.{gathers}
use Rattle.ready_bag.proofs.close.QueueBag+T.take_over.Goals as goal

pub absorb-requires-clause-rule : goal.absorb-requires-clause-rule
absorb-requires-clause-rule g c = gathers _ _ _ _ (ap (λ v. v.dealt) c.requires.dealt)
