use Rattle.std.proofs.Common.{vec_items, refl}
use Rattle.shared_tasks.proofs.Lying.{written_in}
use Rattle.shared_tasks.proofs.tickets.Tickets.put.Goals as goal

pub returns : goal.returns
returns c =
    written_in vec_items c.self.inside.rows.items _ c.index_mut.result.now c.args.self.now c.args.req _ c.self.view_is c.requires c.index_mut.ensures.value
    refl
