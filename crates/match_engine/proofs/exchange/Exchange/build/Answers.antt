use Rattle.std.proofs.Common.{ℕ, List, get_or, ap, ◌∙◌, zero-add}
use Rattle.std.proofs.lemmas.List.FromFn.{get_or-map-range_with_len}
use Rattle.match_engine.specs.Slots.{slots_that, is_due}
use Rattle.match_engine.proofs.exchange.Exchange.build.Goals as goal

pub returns-clause-queues : goal.returns-clause-queues
returns-clause-queues c = λ side rank below.
    ap (λ (rooms : List ℕ). get_or rooms rank 0) (c.in_ok-queues_of.ensures.room side)
    ∙ get_or-map-range_with_len (λ r. slots_that (is_due side r) c.args.slots.now) 0 c.args.ranks rank rank 0 below (zero-add rank)
