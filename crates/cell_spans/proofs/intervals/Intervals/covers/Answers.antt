use Rattle.std.proofs.Common.{arith}
use Rattle.std.proofs.lemmas.Bool.{le-leb, leb-true}
use Rattle.cell_spans.specs.Intervals.{end_at}
use Rattle.cell_spans.proofs.IntervalLemmas.{last_covers}
use Rattle.cell_spans.proofs.intervals.Intervals.covers.Goals as goal

pub returns-then-last-interval : goal.returns-then-last-interval
returns-then-last-interval c =
    let same = last_covers (end_at c.args.self.now) c.in-Some.ensures.apart c.args.interval.begin c.args.interval.end c.in-Some.last.begin c.in-Some.last.end
    c.requires c.in-Some.ensures.last
    in (λ h. same.0 (c.if-last-interval.true, leb-true _ _ h), λ all. le-leb _ _ (same.1 all).1)

pub returns-else-last-interval : goal.returns-else-last-interval
returns-else-last-interval c =
    let same = last_covers (end_at c.args.self.now) c.in-Some.ensures.apart c.args.interval.begin c.args.interval.end c.in-Some.last.begin c.in-Some.last.end
    c.requires c.in-Some.ensures.last
    in (λ h. absurd (omega (arith, leb-true _ _ h)), λ all. absurd (omega (arith, (same.1 all).0)))
