use Rattle.std.proofs.Common.{arith}
use Rattle.rt_base.specs.Exchange.{Sent}
use Rattle.match_engine.specs.declared.slots.Side.TheVariants.{Messages}
use Rattle.match_engine.proofs.Traffics.{exchange_sent, sent_spent, spent_at, here_taken, no_match, one_match, room_here}
use Rattle.match_engine.proofs.Ways.{has_doors, doors_here}
use Rattle.match_engine.proofs.exchange.Exchange.send.Goals as goal

pub returns-in_err-made-clause-exchange : goal.returns-in_err-made-clause-exchange
returns-in_err-made-clause-exchange c =
    exchange_sent _ _ c.args.to _ c.args.message c.index_mut.result.now c.send.new.self _ _ c.self.view_is c.message.view_is c.requires.rank
    c.index_mut.ensures.value
    c.in_err-made.ensures.lists c.note.ensures.items (no_match _ _ c.in_err-made.ensures.made)

pub returns-clause-exchange : goal.returns-clause-exchange
returns-clause-exchange c =
    exchange_sent _ _ c.args.to _ c.args.message c.index_mut.result.now c.send.new.self _ _ c.self.view_is c.message.view_is c.requires.rank
    c.index_mut.ensures.value
    c.in_ok-made.ensures.lists c.note.ensures.items (one_match _ _ _ _ c.in_ok-made.ensures.made c.note-2.ensures.items)

pub returns-in_err-made-clause-room : goal.returns-in_err-made-clause-room
returns-in_err-made-clause-room c =
    spent_at _ _ c.args.to c.index_mut.result.now c.send.new.self _ _ (Sent c.args.to c.args.message) c.self.view_is c.requires.rank c.index_mut.ensures.value
    (sent_spent c.args.to c.args.message c.index_mut.result.now c.send.new.self c.in_err-made.ensures.room c.in_err-made.ensures.others)
    c.in_err-made.ensures.keys c.note.ensures.room (omega arith)

pub returns-clause-room : goal.returns-clause-room
returns-clause-room c =
    spent_at _ _ c.args.to c.index_mut.result.now c.send.new.self _ _ (Sent c.args.to c.args.message) c.self.view_is c.requires.rank c.index_mut.ensures.value
    (sent_spent c.args.to c.args.message c.index_mut.result.now c.send.new.self c.in_ok-made.ensures.room c.in_ok-made.ensures.others)
    c.in_ok-made.ensures.keys c.note.ensures.room (omega (arith, c.note-2.ensures.room))

pub doors-requires : goal.doors-requires
doors-requires c = has_doors _ _ c.args.to c.args.message c.requires.way

pub send-requires : goal.send-requires
send-requires c =
    record {
      doors = doors_here _ _ c.args.to c.index_mut.result.now c.args.message c.args.way c.doors.result c.self.view_is c.requires.rank
          c.index_mut.ensures.value c.requires.way c.doors.ensures;
      room = room_here _ _ Messages c.args.to c.index_mut.result.now (Sent c.args.to c.args.message) c.self.view_is c.requires.rank c.index_mut.ensures.value
          (here_taken c.args.to) c.requires.room;
    }
