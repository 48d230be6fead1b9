use Rattle.std.proofs.Common.{vec_items, refl}
use Rattle.match_engine.proofs.Counts.{marked_in}
use Rattle.match_engine.proofs.slots.Slots.mark.Goals as goal

pub returns : goal.returns
returns c =
    marked_in vec_items c.self.inside.rows.items _ c.index_mut.result.now c.args.self.now c.args.req c.get-slot.result c.args.progress c.self.view_is
    c.get-slot.ensures
    c.index_mut.ensures.value refl
