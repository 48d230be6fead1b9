-- The matching engine may move to another thread.
use denote.Param.Send.{IsSend, sendable}
use denote.Enum.Enum.{Enum}
use denote.Struct.Struct.{Struct}
use denote.Enum.Declared as enum
use denote.Struct.Declared as struct
use Rattle.std.proofs.Crossing.{crosses}
use Rattle.rt_base.proofs.Sent.{req_no_send, listed_send}
use Rattle.match_lanes.proofs.Sent.{match_send, queues_send}
use Rattle.match_engine.specs.contracts.slots.Slot as slot
use Rattle.match_engine.specs.contracts.slots.Slots as slots
use Rattle.match_engine.specs.contracts.routes.Way as way
use Rattle.match_engine.specs.contracts.routes.Routes as routes
use Rattle.match_engine.specs.contracts.exchange.Exchange as exchange
use Rattle.match_engine.specs.contracts.engine.Engine as engine

pub slot_send : IsSend (Struct (struct.shape slot.the_type))
slot_send = search (sendable, crosses) depth 20

pub slots_send : IsSend slots.the_row
slots_send = search (sendable, crosses, slot_send) depth 20

pub way_send : IsSend (Enum (enum.shape way.the_type))
way_send = search (sendable, crosses) depth 20

pub routes_send : IsSend routes.the_row
routes_send = search (sendable, crosses, way_send) depth 20

pub exchange_send : IsSend exchange.the_row
exchange_send = search (sendable, crosses, listed_send, req_no_send, match_send, queues_send) depth 20

pub engine_send : IsSend engine.the_row
engine_send = search (sendable, crosses, exchange_send, slots_send, routes_send) depth 20
