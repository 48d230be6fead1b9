-- A program may be read by several threads at once, and the parts of a history and of a state may move from one thread to another.
use denote.RattleType.{RattleType}
use denote.Param.Send.{IsSend, IsSync, sendable}
use denote.Enum.Enum.{Enum}
use denote.Struct.Struct.{Struct}
use denote.Enum.Declared as enum
use denote.Struct.Declared as struct
use Rattle.std.proofs.Crossing.{crosses}
use Rattle.rt_base.specs.contracts.listed.Listed as listed
use Rattle.rt_base.specs.contracts.name.Name as name
use Rattle.rt_base.specs.contracts.data.TaskNo as task_no
use Rattle.rt_base.specs.contracts.data.ReqNo as req_no
use Rattle.rt_base.specs.contracts.data.Op as op
use Rattle.rt_base.specs.contracts.data.TaskDef as task_def
use Rattle.rt_base.specs.contracts.data.Program as program
use Rattle.rt_base.specs.contracts.data.Status as status
use Rattle.rt_base.specs.contracts.data.Entry as entry
use Rattle.rt_base.specs.contracts.data.History as history
use Rattle.rt_base.specs.contracts.data.Phase as phase

pub listed_send : (T : RattleType) → IsSend T → IsSend (listed.the_row T)
listed_send T t = search (sendable, crosses) depth 20

pub listed_sync : (T : RattleType) → IsSync T → IsSync (listed.the_row T)
listed_sync T t = search (sendable, crosses) depth 20

pub task_no_send : IsSend (Struct (struct.shape task_no.the_type))
task_no_send = search (sendable, crosses) depth 20

pub req_no_send : IsSend (Struct (struct.shape req_no.the_type))
req_no_send = search (sendable, crosses, task_no_send) depth 20

pub status_send : IsSend (Struct (struct.shape status.the_type))
status_send = search (sendable, crosses) depth 20

pub phase_send : IsSend (Enum (enum.shape phase.the_type))
phase_send = search (sendable, crosses) depth 20

pub entry_send : IsSend (Enum (enum.shape entry.the_type))
entry_send = search (sendable, crosses, task_no_send, req_no_send) depth 20

pub history_send : IsSend (Struct (struct.shape history.the_type))
history_send = search (sendable, crosses, listed_send, entry_send, status_send) depth 20

pub name_sync : IsSync name.the_row
name_sync = search (sendable, crosses) depth 20

pub op_sync : IsSync (Enum (enum.shape op.the_type))
op_sync = search (sendable, crosses) depth 30

pub task_def_sync : IsSync (Struct (struct.shape task_def.the_type))
task_def_sync = search (sendable, crosses, listed_sync, op_sync) depth 30

pub program_sync : IsSync (Struct (struct.shape program.the_type))
program_sync = search (sendable, crosses, listed_sync, name_sync, task_def_sync) depth 30
