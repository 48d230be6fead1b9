use Rattle.std.proofs.Common.{arith}
use Rattle.cell_spans.proofs.BagLemmas.{all_at_most}
use Rattle.cell_spans.proofs.sorted.count_up_to.Goals as goal

pub returns-in-None-clause-count : goal.returns-in-None-clause-count
returns-in-None-clause-count c = all_at_most c.args.number c.args.numbers.now (λ k inside. omega (
  arith,
  c.type_inv.numbers k,
  c.in-None.ensures,
  c.ranges.number.fits,
))
