use Rattle.std.proofs.Common.{◌∙◌, refl, arith}
use Rattle.cell_spans.specs.Intervals.{end_at}
use Rattle.cell_spans.proofs.IntervalLemmas.{IsAdded, apart_after, those_after, same_key, other_key}
use Rattle.cell_spans.proofs.intervals.Intervals.add.Goals as goal

-- the map after both steps
added : (c : goal.After-remove-taken_in)
    → IsAdded (end_at c.self.inside.ends.entries) (end_at c.remove-taken_in.new.self.entries) c.args.interval.begin c.args.interval.end
    c.joined_begin-begin.result c.joined_end-end.result
added c = record {
  some = c.requires.some;
  clear = rw c.self.view_is c.requires.apart;
  start = rw c.self.view_is c.joined_begin-begin.ensures;
  stop = rw c.self.view_is c.joined_end-end.ensures;
  at_begin =
      c.remove-taken_in.ensures.updates.0 c.joined_begin-begin.result
      ∙ other_key c.args.interval.end c.joined_begin-begin.result _ _ (λ same. omega (arith, c.joined_begin-begin.ensures.low, c.requires.some))
      ∙ c.in_ok-_replaced.ensures.updates.0 c.joined_begin-begin.result
      ∙ same_key _ c.joined_begin-begin.result _ _ refl;
  at_end = c.remove-taken_in.ensures.updates.0 c.args.interval.end ∙ same_key _ c.args.interval.end _ _ refl;
  others = λ other no_begin no_end.
      c.remove-taken_in.ensures.updates.0 other ∙ other_key c.args.interval.end other _ _ no_end
      ∙ c.in_ok-_replaced.ensures.updates.0 other ∙ other_key c.joined_begin-begin.result other _ _ no_begin;
}

pub invariant_of-self-2 : goal.invariant_of-self-2
invariant_of-self-2 c = apart_after _ _ _ _ _ _ c.self.invariant (added c)

pub returns-clause-added : goal.returns-clause-added
returns-clause-added c = rw (← c.self.view_is) (those_after _ _ _ _ _ _ c.self.invariant (added c))
