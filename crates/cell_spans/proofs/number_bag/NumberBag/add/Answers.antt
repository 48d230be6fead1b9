use Rattle.std.proofs.Common.{nat_eq, arith}
use Rattle.cell_spans.specs.Bags.{IsPart}
use Rattle.cell_spans.proofs.BagLemmas.{left_and_gone}
use Rattle.cell_spans.proofs.number_bag.NumberBag.add.Goals as goal

-- none was added, or one more
pub invariant_of-self : goal.invariant_of-self
invariant_of-self c = rw c.in_err-add.ensures.unchanged c.self.invariant

more_is_part : (c : goal.In_ok-add) → IsPart c.self.inside.removed c.add.new.self
more_is_part c number = omega (arith, c.self.invariant number, c.in_ok-add.ensures.added (nat_eq number))

pub invariant_of-self-2 : goal.invariant_of-self-2
invariant_of-self-2 c = more_is_part c

pub returns-clause-added : goal.returns-clause-added
returns-clause-added c test = rw (← c.self.view_is) (
    omega (
      arith,
      c.in_ok-add.ensures.added test,
      left_and_gone c.self.inside.removed c.add.new.self (more_is_part c) test,
      left_and_gone c.self.inside.removed c.self.inside.added c.self.invariant test,
    ))
