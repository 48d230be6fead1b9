use Rattle.std.proofs.Common.{sym, ◌∙◌, ap, arith}
use Rattle.pass_table.proofs.Stepping.{looks}
use Rattle.pass_table.proofs.table.PassTable.meet.Goals as goal

pub load-requires : goal.load-requires
load-requires c =
    let here = c.join_seat.ensures.0 ∙ (ap (λ p. p.table) c.pass.view_is ∙ (c.requires.pass ∙ sym c.self.view_is)) in
    (here, omega (arith, c.self.invariant), looks _ _ c.join_seat.new.seat.me)
