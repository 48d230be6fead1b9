use Rattle.ready_bag.proofs.Deals.{opens}
use Rattle.ready_bag.proofs.Steps.{fair}
use Rattle.ready_bag.proofs.queue_bag.QueueBag+T.named.Goals as goal

pub another-without_account-requires-clause-rule : goal.another-without_account-requires-clause-rule
another-without_account-requires-clause-rule g c = opens _ _ _ c.in_ok-queue.ensures.3

pub invariant_of-bag : goal.invariant_of-bag
invariant_of-bag g c = (c.requires.workers, fair)

pub invariant_of-bag-2 : goal.invariant_of-bag-2
invariant_of-bag-2 g c = (c.requires.workers, fair)
