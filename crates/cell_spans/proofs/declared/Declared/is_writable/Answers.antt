use Rattle.std.proofs.Common.{sym}
use Rattle.cell_spans.proofs.CoveringLemmas.{writable_answer, nothing_writable, no_interval}
use Rattle.cell_spans.proofs.declared.Declared.is_writable.Goals as goal

pub returns-in-Some : goal.returns-in-Some
returns-in-Some c =
    rw (← c.self.view_is) (writable_answer c.args.span _ _ c.in-Some.interval c.covers.result c.in-Some.ensures.interval c.in-Some.ensures.small
    c.self.invariant.small c.self.invariant.written c.covers.ensures)

pub returns-in-None : goal.returns-in-None
returns-in-None c = sym (nothing_writable _ _ (no_interval c.args.span c.in-None.ensures.interval))
