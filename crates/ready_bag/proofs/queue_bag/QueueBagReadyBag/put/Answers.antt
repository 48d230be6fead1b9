use Rattle.ready_bag.proofs.Steps.{puts, learns}
use Rattle.ready_bag.proofs.queue_bag.QueueBagReadyBag.put.Goals as goal

pub push_as-answer-requires-clause-rule : goal.push_as-answer-requires-clause-rule
push_as-answer-requires-clause-rule g c =
    let kept = c.self.invariant.1 in
    let mine = c.pass.invariant.1 in (puts _ kept _ _ _ _ _ mine, learns _ kept _ _ _ mine)
