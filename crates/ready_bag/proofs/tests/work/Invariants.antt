use Rattle.ready_bag.specs.Passes.{IsPassOfBag}
use Rattle.ready_bag.proofs.tests.work.Given as goal

abbrev pub invariant-loop-number : goal.invariant-loop-number
invariant-loop-number g l = IsPassOfBag l.pass l.bag
