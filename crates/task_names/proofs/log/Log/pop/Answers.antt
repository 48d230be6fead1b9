use Rattle.std.proofs.Common.{arith}
use Rattle.task_names.proofs.Noting.{noted_past}
use Rattle.task_names.proofs.log.Log.pop.Goals as goal

pub invariant_of-self-else-change-len : goal.invariant_of-self-else-change-len
invariant_of-self-else-change-len c =
    noted_past c.self.inside.changes.items c.pop.new.self.items c.in_ok-change.change c.self.inside.noted.items c.in_ok-change.ensures.items c.self.invariant
    (omega (arith, c.len.ensures, c.if-change-len.false))
