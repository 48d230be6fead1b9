use Rattle.std.proofs.Common.{◌≡◌, List, [], ◌∷◌, Option, None, map, replicate, ap, ap₂, ◌∙◌}
use Rattle.rt_base.specs.declared.data.Op.{Op}
use Rattle.rt_base.specs.declared.data.TaskDef.{TaskDef}
use Rattle.rt_base.specs.Operations.{postings}
use Rattle.meet_hall.specs.Holders.{TicketIs}
use Rattle.shared_tasks.specs.Owing.{no_tickets_for}
use Rattle.shared_tasks.proofs.tests.two_receives.Goals as goal

pub returns : goal.returns
returns c =
    ap (map no_tickets_for) (c.from_vec-3.ensures.items ∙ c.in_ok-vec-4.ensures.items)
    ∙ ap (λ (body : List Op). replicate {A = Option TicketIs} (postings body) None ∷ [])
    (c.from_vec.ensures.items ∙ c.in_ok-vec-2.ensures.items ∙ ap₂ (λ (o other : Op). o ∷ other ∷ []) c.receive.ensures c.receive-2.ensures)
