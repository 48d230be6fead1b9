-- The record of a task may move to another thread.
use denote.Param.Send.{IsSend, sendable}
use Rattle.std.proofs.Crossing.{crosses}
use Rattle.rt_base.proofs.Sent.{task_no_send, phase_send}
use Rattle.task_local.specs.contracts.index.RegionIndex as index
use Rattle.task_local.specs.contracts.record.TaskRec as record_of

pub index_send : IsSend index.the_row
index_send = search (sendable, crosses) depth 20

pub record_send : IsSend record_of.the_row
record_send = search (sendable, crosses, index_send, task_no_send, phase_send) depth 20
