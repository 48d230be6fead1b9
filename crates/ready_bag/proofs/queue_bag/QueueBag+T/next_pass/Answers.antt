use Rattle.std.proofs.Common.{ap, ◌∙◌}
use Rattle.ready_bag.proofs.Deals.{deals, dealt_out}
use Rattle.ready_bag.proofs.queue_bag.QueueBag+T.next_pass.Goals as goal

pub another-own-requires-clause-rule : goal.another-own-requires-clause-rule
another-own-requires-clause-rule g c = deals _ _ (ap (λ v. v.dealt) c.requires.accounts)

pub returns-clause-accounts : goal.returns-clause-accounts
returns-clause-accounts g c = c.another-own.ensures.rule.0 ∙ dealt_out _ _ _ c.requires.accounts c.requires.worker
