use Rattle.std.proofs.Common.{length, ap, sym, ◌∙◌, arith}
use Rattle.pass_table.proofs.Parts.{both_after}
use Rattle.pass_table.proofs.Stepping.{appends}
use Rattle.pass_table.proofs.table.PassTable.append_as.Goals as goal

pub fetch_add-requires : goal.fetch_add-requires
fetch_add-requires g c =
    let held = c.hold-seat.ensures.seat in (
      c.hold-seat.ensures.table ∙ sym c.self.view_is,
      omega (arith, c.self.invariant),
      appends _ _ c.hold-seat.result.me g.W.Saying.what held.is_pen held.is_pass (omega (arith, ap length held.seen, c.requires.room)),
    )

pub part-requires-clause-seat : goal.part-requires-clause-seat
part-requires-clause-seat g c =
    both_after c.args.pen c.args.pass g.W.Saying.what c.pass.inside.caller c.hold-seat.result.me c.fetch_add.new.seat.me
    c.hold-seat.ensures.seat c.fetch_add.ensures.2 (sym (ap (λ p. p.caller) c.pass.view_is))
