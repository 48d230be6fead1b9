use Rattle.cell_spans.proofs.IntervalLemmas.{is_less, not_less, less_is, is_there}
use Rattle.cell_spans.proofs.intervals.Intervals.last_before.Goals as goal

pub returns-clause-last : goal.returns-clause-last
returns-clause-last c = rw (← c.self.view_is) (record {
  is = ((c.range.ensures.in_range tt).3 _ _ c.in_ok-begin.ensures.steps).1;
  before = less_is _ _ ((c.range.ensures.in_range tt).3 _ _ c.in_ok-begin.ensures.steps).0.1;
  last = λ other to below is. not_less _ _ ((c.range.ensures.in_range tt).4 _ _ c.in_ok-begin.ensures.steps other (tt, is_less _ _ below) (is_there _ _ is));
})
