use Rattle.std.proofs.Common.{◌<◌, count_by, nat_eq, arith}
use Rattle.cell_spans.specs.Bags.{without}
use Rattle.cell_spans.proofs.BagLemmas.{left_and_gone}
use Rattle.cell_spans.proofs.number_bag.NumberBag.remove.Goals as goal

pub returns-then-count_of : goal.returns-then-count_of
returns-then-count_of c some test = rw (c.forget.ensures, ← c.self.view_is) (
    omega (
      arith,
      c.take_out.ensures.taken test,
      left_and_gone c.take_out.new.removed c.take_out.new.added c.take_out.ensures.part test,
      left_and_gone c.self.inside.removed c.self.inside.added c.self.invariant test,
    ))

pub returns-else-count_of : goal.returns-else-count_of
returns-else-count_of c some =
    let there : 0 < count_by (nat_eq c.args.number) (without c.self.inside.removed c.self.inside.added) = rw c.self.view_is some in
    absurd (omega (
      arith,
      c.if-count_of.false,
      c.count_of.ensures,
      c.count_of-2.ensures,
      there,
      left_and_gone c.self.inside.removed c.self.inside.added c.self.invariant (nat_eq c.args.number),
    ))
