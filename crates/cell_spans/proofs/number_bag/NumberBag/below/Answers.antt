use Rattle.std.proofs.Common.{nat_lt, arith}
use Rattle.cell_spans.proofs.BagLemmas.{left_and_gone}
use Rattle.cell_spans.proofs.number_bag.NumberBag.below.Goals as goal

pub overflow_sub-result : goal.overflow_sub-result
overflow_sub-result c =
    omega (
      arith,
      c.below.ensures,
      c.below-2.ensures,
      left_and_gone c.self.inside.removed c.self.inside.added c.self.invariant (λ number. nat_lt number c.args.limit),
    )

pub returns : goal.returns
returns c = rw (← c.self.view_is) (
    omega (
      arith,
      c.below.ensures,
      c.below-2.ensures,
      left_and_gone c.self.inside.removed c.self.inside.added c.self.invariant (λ number. nat_lt number c.args.limit),
    ))
