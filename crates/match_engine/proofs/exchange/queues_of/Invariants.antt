use Rattle.std.proofs.Common.{◌≡◌, map, take, replicate}
use Rattle.std.specs.List.{range_with_len}
use Rattle.rt_base.specs.Exchange.{no_mail}
use Rattle.match_lanes.specs.Shelves.{Shelf}
use Rattle.match_engine.specs.declared.slots.Side.{Side}
use Rattle.match_engine.specs.Queues.{room_in}
use Rattle.match_engine.specs.Slots.{slots_that, is_due}
use Rattle.match_engine.proofs.exchange.queues_of.Given as goal

-- the queues of the ranks so far
abbrev pub invariant-loop-rank : goal.invariant-loop-rank
invariant-loop-rank l =
    (map (λ (shelf : Shelf). shelf.mailbox) l.queues.items ≡ replicate l.rank no_mail)
    × ((side : Side) → map (room_in side) l.queues.items ≡ map (λ rank. slots_that (is_due side rank) l.slots) (range_with_len 0 l.rank))
    × (map (λ (shelf : Shelf). shelf.keys) l.queues.items ≡ take l.rank l.keys)
