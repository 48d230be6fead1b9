use Rattle.std.proofs.Common.{[]}
use Rattle.match_engine.proofs.Replies.{finds_receive, room_for, partner_slot, kept_for, exchange_for, partner_for, before_for, completed_for}
use Rattle.match_engine.proofs.Ways.{receive_has_way, serves_receive, routed_after}
use Rattle.match_engine.proofs.engine.Engine.post_recv.Goals as goal

pub get-way-requires : goal.get-way-requires
get-way-requires c =
    receive_has_way c.self.inside.program.value _ c.self.inside.exchange c.self.inside.routes c.args.req c.args.self.now c.self.invariant.1 c.self.view_is
    c.requires.receive

pub post_receive-partner-requires-clause-way : goal.post_receive-partner-requires-clause-way
post_receive-partner-requires-clause-way c =
    serves_receive c.self.inside.program.value c.self.inside.eager c.self.inside.exchange c.self.inside.slots c.self.inside.routes c.args.req c.get-slot.result
    c.get-way.result c.args.self.now c.self.invariant.0 c.self.invariant.1 c.self.view_is c.get-slot.ensures c.get-way.ensures c.requires.receive

pub post_receive-partner-requires-clause-room : goal.post_receive-partner-requires-clause-room
post_receive-partner-requires-clause-room c =
    let found = finds_receive c.self.inside.program.value c.self.inside.eager c.self.inside.exchange c.self.inside.slots c.args.req c.get-slot.result
    c.args.self.now c.self.invariant.0 c.self.view_is
    c.get-slot.ensures c.requires.new c.requires.receive in
    room_for c.self.inside.program.value c.self.inside.eager c.self.inside.exchange c.self.inside.slots c.args.req c.get-slot.result [] _ found

pub settle-requires-clause-partner : goal.settle-requires-clause-partner
settle-requires-clause-partner c =
    let found = finds_receive c.self.inside.program.value c.self.inside.eager c.self.inside.exchange c.self.inside.slots c.args.req c.get-slot.result
    c.args.self.now c.self.invariant.0 c.self.view_is
    c.get-slot.ensures c.requires.new c.requires.receive in
    partner_slot c.self.inside.program.value c.self.inside.eager c.self.inside.exchange c.self.inside.slots c.args.req c.get-slot.result [] _
    c.post_receive-partner.result found c.post_receive-partner.ensures.partner

pub invariant_of-self : goal.invariant_of-self
invariant_of-self c =
    let found = finds_receive c.self.inside.program.value c.self.inside.eager c.self.inside.exchange c.self.inside.slots c.args.req c.get-slot.result
    c.args.self.now c.self.invariant.0 c.self.view_is
    c.get-slot.ensures c.requires.new c.requires.receive in (
      kept_for c.self.inside.program.value c.self.inside.eager c.self.inside.exchange c.post_receive-partner.new.self c.self.inside.slots c.settle.new.self
          c.args.req c.get-slot.result [] _ c.post_receive-partner.result c.matched-place.result found c.post_receive-partner.ensures.exchange
          c.post_receive-partner.ensures.room c.post_receive-partner.ensures.partner c.matched-place.ensures c.settle.ensures,
      routed_after c.self.inside.program.value c.self.inside.exchange c.post_receive-partner.new.self c.self.inside.routes _ c.self.invariant.1
          c.post_receive-partner.ensures.room,
    )

pub returns-clause-exchange : goal.returns-clause-exchange
returns-clause-exchange c =
    let found = finds_receive c.self.inside.program.value c.self.inside.eager c.self.inside.exchange c.self.inside.slots c.args.req c.get-slot.result
    c.args.self.now c.self.invariant.0 c.self.view_is
    c.get-slot.ensures c.requires.new c.requires.receive in
    exchange_for c.self.inside.program.value c.self.inside.eager c.self.inside.exchange c.post_receive-partner.new.self c.self.inside.slots c.args.req
    c.get-slot.result [] _ c.args.self.now found c.self.view_is c.post_receive-partner.ensures.exchange

pub returns-clause-partner : goal.returns-clause-partner
returns-clause-partner c =
    let found = finds_receive c.self.inside.program.value c.self.inside.eager c.self.inside.exchange c.self.inside.slots c.args.req c.get-slot.result
    c.args.self.now c.self.invariant.0 c.self.view_is
    c.get-slot.ensures c.requires.new c.requires.receive in
    partner_for c.self.inside.program.value c.self.inside.eager c.self.inside.exchange c.self.inside.slots c.args.req c.get-slot.result [] _
    c.post_receive-partner.result c.args.self.now found c.self.view_is c.post_receive-partner.ensures.partner

pub returns-clause-before : goal.returns-clause-before
returns-clause-before c =
    let found = finds_receive c.self.inside.program.value c.self.inside.eager c.self.inside.exchange c.self.inside.slots c.args.req c.get-slot.result
    c.args.self.now c.self.invariant.0 c.self.view_is
    c.get-slot.ensures c.requires.new c.requires.receive in
    before_for c.self.inside.program.value c.self.inside.eager c.self.inside.exchange c.self.inside.slots c.args.req c.get-slot.result [] _
    c.post_receive-partner.result c.args.self.now found c.self.view_is c.post_receive-partner.ensures.partner

pub returns-clause-completed : goal.returns-clause-completed
returns-clause-completed c =
    let found = finds_receive c.self.inside.program.value c.self.inside.eager c.self.inside.exchange c.self.inside.slots c.args.req c.get-slot.result
    c.args.self.now c.self.invariant.0 c.self.view_is
    c.get-slot.ensures c.requires.new c.requires.receive in
    completed_for c.self.inside.program.value c.self.inside.eager c.self.inside.exchange c.post_receive-partner.new.self c.self.inside.slots c.args.req
    c.get-slot.result [] _ c.post_receive-partner.result found c.post_receive-partner.ensures.exchange c.post_receive-partner.ensures.partner
