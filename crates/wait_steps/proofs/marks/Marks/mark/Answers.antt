use Rattle.std.proofs.Common.{vec_items, refl}
use Rattle.wait_steps.proofs.Marking.{marked_in}
use Rattle.wait_steps.proofs.marks.Marks.mark.Goals as goal

pub returns : goal.returns
returns c =
    marked_in vec_items c.self.inside.rows.items _ c.index_mut.result.now c.args.self.now c.args.req c.self.view_is c.requires c.index_mut.ensures.value refl
