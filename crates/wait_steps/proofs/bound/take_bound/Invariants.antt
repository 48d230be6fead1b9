use Rattle.std.specs.Prelude.{vec_capacity}
use Rattle.wait_steps.proofs.BoundLoop.{Taking}
use Rattle.wait_steps.proofs.bound.take_bound.Given as goal

-- what the operations that are left store and tell makes the copy and the list whole
abbrev pub invariant-loop-operation : goal.invariant-loop-operation
invariant-loop-operation l =
    Taking l.engine.program l.engine.exchange l.own l.operation-index l.fn.rec l.rec l.fn.statuses.items l.statuses.items (vec_capacity l.fn.statuses)
    (vec_capacity l.statuses)
