use Rattle.std.proofs.Common.{sym}
use Rattle.cell_spans.proofs.CoveringLemmas.{declared_answer, nothing_declared, no_interval}
use Rattle.cell_spans.proofs.declared.Declared.is_declared.Goals as goal

pub returns-in-Some : goal.returns-in-Some
returns-in-Some c =
    rw (← c.self.view_is) (declared_answer c.args.span _ _ c.in-Some.interval c.covers.result c.in-Some.ensures.interval c.in-Some.ensures.small
    c.self.invariant.small c.self.invariant.declared c.covers.ensures)

pub returns-in-None : goal.returns-in-None
returns-in-None c = sym (nothing_declared _ _ (no_interval c.args.span c.in-None.ensures.interval))
