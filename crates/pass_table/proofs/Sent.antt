-- A table may be shared between threads, and a pen, a pass or a note may move to another thread.
use denote.Param.Send.{IsSend, IsSync, sendable}
use Rattle.std.proofs.Crossing.{crosses}
use Rattle.atomic_table.proofs.shared.Seat.TheSendSync as seat
use Rattle.atomic_table.proofs.shared.Shared.TheSendSync as steps
use Rattle.atomic_table.proofs.send_lease.SendLease.TheSendSync as lease
use Rattle.pass_table.specs.contracts.pen.Pen as pen
use Rattle.pass_table.specs.contracts.pass.Pass as pass
use Rattle.pass_table.specs.contracts.note.Note as note
use Rattle.pass_table.specs.contracts.table.PassTable as table

pub pen_send : IsSend pen.the_row
pen_send = search (sendable, seat.the_send) depth 20

pub pass_send : IsSend pass.the_row
pass_send = search (sendable, seat.the_send) depth 20

pub note_send : IsSend note.the_row
note_send = search (sendable, seat.the_send) depth 20

pub table_send : IsSend table.the_row
table_send = search (sendable, crosses, steps.the_send, lease.the_send) depth 20

pub table_sync : IsSync table.the_row
table_sync = search (sendable, crosses, steps.the_sync, lease.the_sync) depth 20
