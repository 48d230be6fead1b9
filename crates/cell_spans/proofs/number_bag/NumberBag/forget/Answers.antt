use Rattle.std.proofs.Common.{◌∙◌, sym, arith}
use Rattle.cell_spans.proofs.BagLemmas.{spent}
use Rattle.cell_spans.proofs.number_bag.NumberBag.forget.Goals as goal

pub returns-then-len : goal.returns-then-len
returns-then-len c =
    c.clear.ensures ∙ sym (sym c.self.view_is
    ∙ spent c.self.inside.removed c.self.inside.added c.self.invariant (omega (arith, c.if-len.true, c.len.ensures, c.len-2.ensures)))
