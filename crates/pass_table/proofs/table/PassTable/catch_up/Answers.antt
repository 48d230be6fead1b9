use Rattle.std.proofs.Common.{sym, ◌∙◌, arith}
use Rattle.pass_table.proofs.Stepping.{looks}
use Rattle.pass_table.proofs.table.PassTable.catch_up.Goals as goal

pub load-requires : goal.load-requires
load-requires c = (c.hold-seat.ensures.table ∙ sym c.self.view_is, omega (arith, c.self.invariant), looks _ _ c.hold-seat.result.me)
