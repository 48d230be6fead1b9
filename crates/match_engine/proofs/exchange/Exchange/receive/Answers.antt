use Rattle.std.proofs.Common.{arith}
use Rattle.rt_base.specs.Exchange.{Asked}
use Rattle.match_engine.specs.declared.slots.Side.TheVariants.{Receives}
use Rattle.match_engine.proofs.Traffics.{exchange_asked, asked_spent, spent_at, here_taken, no_match, one_match, room_here}
use Rattle.match_engine.proofs.Ways.{has_lane, lane_here}
use Rattle.match_engine.proofs.exchange.Exchange.receive.Goals as goal

pub returns-in_err-made-clause-exchange : goal.returns-in_err-made-clause-exchange
returns-in_err-made-clause-exchange c =
    exchange_asked _ _ c.args.at _ c.args.wish c.index_mut.result.now c.receive.new.self _ _ c.self.view_is c.wish.view_is c.requires.rank
    c.index_mut.ensures.value
    c.in_err-made.ensures.lists c.note.ensures.items (no_match _ _ c.in_err-made.ensures.made)

pub returns-clause-exchange : goal.returns-clause-exchange
returns-clause-exchange c =
    exchange_asked _ _ c.args.at _ c.args.wish c.index_mut.result.now c.receive.new.self _ _ c.self.view_is c.wish.view_is c.requires.rank
    c.index_mut.ensures.value
    c.in_ok-made.ensures.lists c.note.ensures.items (one_match _ _ _ _ c.in_ok-made.ensures.made c.note-2.ensures.items)

pub returns-in_err-made-clause-room : goal.returns-in_err-made-clause-room
returns-in_err-made-clause-room c =
    spent_at _ _ c.args.at c.index_mut.result.now c.receive.new.self _ _ (Asked c.args.at c.args.wish) c.self.view_is c.requires.rank c.index_mut.ensures.value
    (asked_spent c.args.at c.args.wish c.index_mut.result.now c.receive.new.self c.in_err-made.ensures.room c.in_err-made.ensures.others)
    c.in_err-made.ensures.keys c.note.ensures.room (omega arith)

pub returns-clause-room : goal.returns-clause-room
returns-clause-room c =
    spent_at _ _ c.args.at c.index_mut.result.now c.receive.new.self _ _ (Asked c.args.at c.args.wish) c.self.view_is c.requires.rank c.index_mut.ensures.value
    (asked_spent c.args.at c.args.wish c.index_mut.result.now c.receive.new.self c.in_ok-made.ensures.room c.in_ok-made.ensures.others)
    c.in_ok-made.ensures.keys c.note.ensures.room (omega (arith, c.note-2.ensures.room))

pub lane-requires : goal.lane-requires
lane-requires c = has_lane _ _ c.args.at c.args.wish c.requires.way

pub receive-requires : goal.receive-requires
receive-requires c =
    record {
      lane = lane_here _ _ c.args.at c.index_mut.result.now c.args.wish c.args.way c.lane.result c.self.view_is c.requires.rank
          c.index_mut.ensures.value c.requires.way c.lane.ensures;
      room = room_here _ _ Receives c.args.at c.index_mut.result.now (Asked c.args.at c.args.wish) c.self.view_is c.requires.rank c.index_mut.ensures.value
          (here_taken c.args.at) c.requires.room;
    }
