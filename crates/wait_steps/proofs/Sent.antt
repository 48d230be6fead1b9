-- Marks of requests may move to another thread.
use denote.Param.Send.{IsSend, sendable}
use Rattle.std.proofs.Crossing.{crosses}
use Rattle.wait_steps.specs.contracts.marks.Marks as marks

pub marks_send : IsSend marks.the_row
marks_send = search (sendable, crosses) depth 20
