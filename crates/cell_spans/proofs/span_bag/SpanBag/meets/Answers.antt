use Rattle.std.proofs.Common.{sym}
use Rattle.cell_spans.proofs.CoveringLemmas.{no_interval}
use Rattle.cell_spans.proofs.MarkLemmas.{meets_answer, nothing_shared}
use Rattle.cell_spans.proofs.span_bag.SpanBag.meets.Goals as goal

pub returns-in-Some : goal.returns-in-Some
returns-in-Some c spans marks =
    meets_answer c.args.span spans _ _ c.in-Some.interval c.below.result c.below-in-Some.result c.in-Some.ensures.interval c.in-Some.ensures.small marks
    c.below.ensures c.below-in-Some.ensures

pub returns-in-None : goal.returns-in-None
returns-in-None c spans marks = sym (nothing_shared c.args.span spans (no_interval c.args.span c.in-None.ensures.interval))
