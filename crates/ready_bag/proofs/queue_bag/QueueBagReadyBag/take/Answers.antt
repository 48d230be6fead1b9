use Rattle.std.proofs.Common.{ap}
use Rattle.ready_bag.proofs.Steps.{takes, learns, taken_if}
use Rattle.ready_bag.proofs.queue_bag.QueueBagReadyBag.take.Goals as goal

pub pop_as-answer-requires-clause-rule : goal.pop_as-answer-requires-clause-rule
pop_as-answer-requires-clause-rule g c =
    let kept = c.self.invariant.1 in
    let mine = c.pass.invariant.1 in (takes _ kept _ _ _ mine, learns _ kept _ _ _ mine)

pub returns-in-Some-clause-taken : goal.returns-in-Some-clause-taken
returns-in-Some-clause-taken g c = taken_if _ _ _ _ _ _ c.pass.invariant.1 (ap (λ p. p.account) c.pass.view_is) c.pop_as-answer.ensures.rule
