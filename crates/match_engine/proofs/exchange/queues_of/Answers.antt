use Rattle.std.proofs.Common.{arith, ◌∙◌}
use Rattle.match_engine.specs.Slots.{slots_that, is_due}
use Rattle.match_engine.proofs.Traffics.{one_rank_more, rooms_are}
use Rattle.match_engine.proofs.exchange.queues_of.Goals as goal

pub loop-rank-preserved : goal.loop-rank-preserved
loop-rank-preserved c =
    one_rank_more _ _ c.in_ok-with_room.field-0 c.loop-rank.rank (λ side rank. slots_that (is_due side rank) c.args.slots.now) c.args.keys.now
    c.index-keys-rank.result c.in_ok-push.ensures.items c.in_ok-with_room.ensures.empty
    (rooms_are c.in_ok-with_room.field-0 (λ side. slots_that (is_due side c.loop-rank.rank) c.args.slots.now)
    (c.in_ok-with_room.ensures.messages ∙ c.due-messages.ensures) (c.in_ok-with_room.ensures.receives ∙ c.due-receives.ensures))
    c.in_ok-with_room.ensures.keys c.index-keys-rank.is (omega (arith, c.requires.ranks, c.loop-rank-test.true)) c.loop-rank.invariant
