use Rattle.ready_bag.proofs.tests.put_all.Given as goal

abbrev pub invariant-loop-number : goal.invariant-loop-number
invariant-loop-number g l = g.B.ReadyBag.IsOf l.pass l.bag
