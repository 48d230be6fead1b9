use Rattle.match_engine.proofs.Replies.{finds_send, placed_for, room_for, partner_slot, kept_for, exchange_for, partner_for, before_for, completed_for}
use Rattle.match_engine.proofs.Ways.{send_has_way, serves_send, routed_after}
use Rattle.match_engine.proofs.engine.Engine.post_send.Goals as goal

pub post_send-partner-requires-clause-rank : goal.post_send-partner-requires-clause-rank
post_send-partner-requires-clause-rank c =
    let found = finds_send c.self.inside.program.value c.self.inside.eager c.self.inside.exchange c.self.inside.slots c.args.req c.get-slot.result
    c.args.cells.items c.args.self.now c.self.invariant.0 c.self.view_is
    c.get-slot.ensures c.requires.new c.requires.send in
    placed_for c.self.inside.program.value c.self.inside.eager c.self.inside.exchange c.self.inside.slots c.args.req c.get-slot.result c.args.cells.items _
    found

pub get-way-requires : goal.get-way-requires
get-way-requires c =
    send_has_way c.self.inside.program.value _ c.self.inside.exchange c.self.inside.routes c.args.req _ c.args.self.now c.self.invariant.1 c.self.view_is
    c.requires.send

pub post_send-partner-requires-clause-way : goal.post_send-partner-requires-clause-way
post_send-partner-requires-clause-way c =
    serves_send c.self.inside.program.value c.self.inside.eager c.self.inside.exchange c.self.inside.slots c.self.inside.routes c.args.req c.get-slot.result
    c.get-way.result c.args.cells.items c.args.self.now c.self.invariant.0 c.self.invariant.1 c.self.view_is c.get-slot.ensures c.get-way.ensures
    c.requires.send

pub post_send-partner-requires-clause-room : goal.post_send-partner-requires-clause-room
post_send-partner-requires-clause-room c =
    let found = finds_send c.self.inside.program.value c.self.inside.eager c.self.inside.exchange c.self.inside.slots c.args.req c.get-slot.result
    c.args.cells.items c.args.self.now c.self.invariant.0 c.self.view_is
    c.get-slot.ensures c.requires.new c.requires.send in
    room_for c.self.inside.program.value c.self.inside.eager c.self.inside.exchange c.self.inside.slots c.args.req c.get-slot.result c.args.cells.items _ found

pub settle-requires-clause-partner : goal.settle-requires-clause-partner
settle-requires-clause-partner c =
    let found = finds_send c.self.inside.program.value c.self.inside.eager c.self.inside.exchange c.self.inside.slots c.args.req c.get-slot.result
    c.args.cells.items c.args.self.now c.self.invariant.0 c.self.view_is
    c.get-slot.ensures c.requires.new c.requires.send in
    partner_slot c.self.inside.program.value c.self.inside.eager c.self.inside.exchange c.self.inside.slots c.args.req c.get-slot.result c.args.cells.items _
    c.post_send-partner.result found c.post_send-partner.ensures.partner

pub invariant_of-self : goal.invariant_of-self
invariant_of-self c =
    let found = finds_send c.self.inside.program.value c.self.inside.eager c.self.inside.exchange c.self.inside.slots c.args.req c.get-slot.result
    c.args.cells.items c.args.self.now c.self.invariant.0 c.self.view_is
    c.get-slot.ensures c.requires.new c.requires.send in (
      kept_for c.self.inside.program.value c.self.inside.eager c.self.inside.exchange c.post_send-partner.new.self c.self.inside.slots c.settle.new.self
          c.args.req c.get-slot.result c.args.cells.items _ c.post_send-partner.result c.matched-place.result found c.post_send-partner.ensures.exchange
          c.post_send-partner.ensures.room c.post_send-partner.ensures.partner c.matched-place.ensures c.settle.ensures,
      routed_after c.self.inside.program.value c.self.inside.exchange c.post_send-partner.new.self c.self.inside.routes _ c.self.invariant.1
          c.post_send-partner.ensures.room,
    )

pub returns-clause-exchange : goal.returns-clause-exchange
returns-clause-exchange c =
    let found = finds_send c.self.inside.program.value c.self.inside.eager c.self.inside.exchange c.self.inside.slots c.args.req c.get-slot.result
    c.args.cells.items c.args.self.now c.self.invariant.0 c.self.view_is
    c.get-slot.ensures c.requires.new c.requires.send in
    exchange_for c.self.inside.program.value c.self.inside.eager c.self.inside.exchange c.post_send-partner.new.self c.self.inside.slots c.args.req
    c.get-slot.result c.args.cells.items _ c.args.self.now found c.self.view_is c.post_send-partner.ensures.exchange

pub returns-clause-partner : goal.returns-clause-partner
returns-clause-partner c =
    let found = finds_send c.self.inside.program.value c.self.inside.eager c.self.inside.exchange c.self.inside.slots c.args.req c.get-slot.result
    c.args.cells.items c.args.self.now c.self.invariant.0 c.self.view_is
    c.get-slot.ensures c.requires.new c.requires.send in
    partner_for c.self.inside.program.value c.self.inside.eager c.self.inside.exchange c.self.inside.slots c.args.req c.get-slot.result c.args.cells.items _
    c.post_send-partner.result c.args.self.now found c.self.view_is c.post_send-partner.ensures.partner

pub returns-clause-before : goal.returns-clause-before
returns-clause-before c =
    let found = finds_send c.self.inside.program.value c.self.inside.eager c.self.inside.exchange c.self.inside.slots c.args.req c.get-slot.result
    c.args.cells.items c.args.self.now c.self.invariant.0 c.self.view_is
    c.get-slot.ensures c.requires.new c.requires.send in
    before_for c.self.inside.program.value c.self.inside.eager c.self.inside.exchange c.self.inside.slots c.args.req c.get-slot.result c.args.cells.items _
    c.post_send-partner.result c.args.self.now found c.self.view_is c.post_send-partner.ensures.partner

pub returns-clause-completed : goal.returns-clause-completed
returns-clause-completed c =
    let found = finds_send c.self.inside.program.value c.self.inside.eager c.self.inside.exchange c.self.inside.slots c.args.req c.get-slot.result
    c.args.cells.items c.args.self.now c.self.invariant.0 c.self.view_is
    c.get-slot.ensures c.requires.new c.requires.send in
    completed_for c.self.inside.program.value c.self.inside.eager c.self.inside.exchange c.post_send-partner.new.self c.self.inside.slots c.args.req
    c.get-slot.result c.args.cells.items _ c.post_send-partner.result found c.post_send-partner.ensures.exchange c.post_send-partner.ensures.partner
