use Rattle.std.proofs.Common.{Option, None, vec_items, slice_set, ap}
use Rattle.meet_hall.specs.Holders.{TicketIs}
use Rattle.shared_tasks.proofs.Lying.{written_in}
use Rattle.shared_tasks.proofs.tickets.Tickets.take.Goals as goal

pub returns-clause-rest : goal.returns-clause-rest
returns-clause-rest c =
    written_in vec_items c.self.inside.rows.items _ c.index_mut.result.now c.args.self.now c.args.req None c.self.view_is c.requires
    c.index_mut.ensures.value
    (ap (λ (lies : Option TicketIs). slice_set (vec_items c.index_mut.result.now) c.args.req.nth lies) c.take.ensures.after)
