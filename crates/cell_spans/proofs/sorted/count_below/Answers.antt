use Rattle.std.proofs.Common.{nat_lt, arith}
use Rattle.std.proofs.lemmas.Bool.{lt-ltb, le-ltb}
use Rattle.cell_spans.proofs.CountLemmas.{count_split}
use Rattle.cell_spans.proofs.sorted.count_below.Goals as goal

pub returns-clause-count : goal.returns-clause-count
returns-clause-count c =
    count_split (λ number. nat_lt number c.args.limit) c.args.numbers.now c.loop-low.low (omega (
      arith,
      c.loop-low.invariant.ordered,
      c.loop-low.invariant.within,
    ))
    (λ k below. lt-ltb _ _ (c.loop-low.invariant.before k below)) (λ k low high. le-ltb _ _ (c.loop-low.invariant.after k (omega (
      arith,
      c.loop-low-test.false,
    )) high))
