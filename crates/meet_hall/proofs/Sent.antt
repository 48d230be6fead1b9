-- A hall may be shared between threads, and holders, tickets and answers may move to another thread, where what is left in the hall may.
use denote.RattleType.{RattleType}
use denote.Enum.Enum.{Enum}
use denote.Enum.Declared.{shape}
use denote.Param.Send.{IsSend, IsSync, sendable, enum_send}
use Rattle.std.proofs.Crossing.{crosses}
use Rattle.atomic_table.proofs.badge.Badge.TheSendSync as badge
use Rattle.atomic_table.proofs.shared.Shared.TheSendSync as steps
use Rattle.atomic_table.proofs.send_lease.SendLease.TheSendSync as lease
use Rattle.meet_hall.specs.declared.guest.Guest.{Ghosts}
use Rattle.meet_hall.specs.contracts.lists.Lists as lists
use Rattle.meet_hall.specs.contracts.slot.Slot as slot
use Rattle.meet_hall.specs.contracts.party.Holder as holder
use Rattle.meet_hall.specs.contracts.party.Ticket as ticket
use Rattle.meet_hall.specs.contracts.party.Stub as stub
use Rattle.meet_hall.specs.contracts.party.Met as met
use Rattle.meet_hall.specs.contracts.hall.Hall as hall

pub lists_send : IsSend lists.the_row
lists_send = search (sendable, crosses) depth 20

pub holder_send : IsSend holder.the_row
holder_send = search (sendable, crosses, badge.the_send, lists_send) depth 20

pub ticket_send : IsSend ticket.the_row
ticket_send = search (sendable, crosses, badge.the_send) depth 20

pub stub_send : IsSend stub.the_row
stub_send = search (sendable, crosses, badge.the_send) depth 20

pub slot_send : (R N : RattleType) → IsSend R → IsSend N → IsSend (slot.the_row R N)
slot_send R N r n = search (sendable, crosses, lists_send) depth 20

pub hall_send : (R N : RattleType) (g : Ghosts R.Denot) (h : Ghosts N.Denot) → IsSend R → IsSend N → IsSend (hall.the_row R N g h)
hall_send R N g h r n = search (sendable, crosses, steps.the_send, lease.the_send, slot_send) depth 20

pub hall_sync : (R N : RattleType) (g : Ghosts R.Denot) (h : Ghosts N.Denot) → IsSend R → IsSend N → IsSync (hall.the_row R N g h)
hall_sync R N g h r n = search (sendable, crosses, steps.the_sync, lease.the_sync, slot_send) depth 20

pub met_send : (R : RattleType) → IsSend R → IsSend (met.the_row R)
met_send R r =
    let inner : IsSend (Enum (shape (met.the_type R))) = enum_send (shape (met.the_type R)) ((stub_send, tt), ((holder_send, (r, tt)), tt)) in
    search (sendable, inner) depth 20
