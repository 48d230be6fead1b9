use Rattle.cell_spans.specs.Intervals.{end_at}
use Rattle.cell_spans.proofs.IntervalLemmas.{last_meets}
use Rattle.cell_spans.proofs.intervals.Intervals.meets.Goals as goal

pub returns-in-Some : goal.returns-in-Some
returns-in-Some c =
    last_meets (end_at c.args.self.now) c.in-Some.ensures.apart c.args.interval.begin c.args.interval.end c.in-Some.last.begin c.in-Some.last.end c.requires
    c.in-Some.ensures.last
