use Rattle.std.proofs.Common.{arith}
use Rattle.cell_spans.proofs.sorted.Sorted.len.Goals as goal

pub returns-clause-few : goal.returns-clause-few
returns-clause-few c = omega (arith, c.len.ensures, c.self.inside.numbers.ok.1, c.self.inside.numbers.small)
