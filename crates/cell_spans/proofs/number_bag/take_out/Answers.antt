use Rattle.std.proofs.Common.{arith}
use Rattle.cell_spans.proofs.BagLemmas.{one_more_gone, one_less_there}
use Rattle.cell_spans.proofs.number_bag.take_out.Goals as goal

pub returns-in-Ok-clause-part : goal.returns-in-Ok-clause-part
returns-in-Ok-clause-part c =
    one_more_gone c.args.number c.args.removed.now c.add.new.self c.args.added.now c.requires.part c.requires.there c.in-Ok.ensures.added

pub returns-in-Err-clause-part : goal.returns-in-Err-clause-part
returns-in-Err-clause-part c = rw c.in-Err.ensures.unchanged (
    one_less_there c.args.number c.args.removed.now c.remove.new.self c.args.added.now c.requires.part c.requires.there (c.remove.ensures (omega (
      arith,
      c.requires.there,
    ))))
