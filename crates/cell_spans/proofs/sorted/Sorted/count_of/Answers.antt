use Rattle.std.proofs.Common.{arith}
use Rattle.cell_spans.proofs.BagLemmas.{counted_between}
use Rattle.cell_spans.proofs.sorted.Sorted.count_of.Goals as goal

pub overflow_sub-result : goal.overflow_sub-result
overflow_sub-result c = rw (
  c.count_up_to.ensures.count,
  c.count_below.ensures.count,
  c.deref.ensures.value,
  c.deref-2.ensures.value,
) (omega (arith, counted_between c.args.number c.self.inside.numbers.items))

pub returns-clause-count : goal.returns-clause-count
returns-clause-count c = rw (
  ← c.self.view_is,
  c.count_up_to.ensures.count,
  c.count_below.ensures.count,
  c.deref.ensures.value,
  c.deref-2.ensures.value,
) (omega (arith, counted_between c.args.number c.self.inside.numbers.items))
