use Rattle.std.proofs.Common.{sym}
use Rattle.cell_spans.proofs.CoveringLemmas.{overlap_answer, nothing_overlaps, no_interval}
use Rattle.cell_spans.proofs.declared.Declared.overlaps.Goals as goal

pub returns-in-Some : goal.returns-in-Some
returns-in-Some c =
    rw (← c.self.view_is) (overlap_answer c.args.span _ _ c.in-Some.interval c.meets.result c.in-Some.ensures.interval c.in-Some.ensures.small
    c.self.invariant.small c.self.invariant.declared c.meets.ensures)

pub returns-in-None : goal.returns-in-None
returns-in-None c = sym (nothing_overlaps c.args.span c.args.self.now (no_interval c.args.span c.in-None.ensures.interval))
