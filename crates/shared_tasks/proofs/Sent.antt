-- Tasks that are ready, started or paused, completions on their way, and tickets may move to another thread.
use denote.RattleType.{RattleType}
use denote.Enum.Enum.{Enum}
use denote.Enum.Declared.{shape}
use denote.Struct.Struct.{Struct}
use denote.Struct.Declared as struct
use denote.Param.Send.{IsSend, sendable, enum_send}
use Rattle.std.proofs.Crossing.{crosses}
use Rattle.rt_base.proofs.Sent.{task_no_send, req_no_send}
use Rattle.task_local.proofs.Sent.{record_send}
use Rattle.pass_table.proofs.Sent.{pass_send, note_send}
use Rattle.meet_hall.proofs.Sent.{holder_send, ticket_send, stub_send}
use Rattle.shared_tasks.specs.declared.names.Run as run
use Rattle.shared_tasks.specs.declared.names.Site as site
use Rattle.turn_table.specs.contracts.hands.Door as door
use Rattle.shared_tasks.specs.contracts.fresh.Fresh as fresh
use Rattle.shared_tasks.specs.contracts.live.Live as live
use Rattle.shared_tasks.specs.contracts.parked.Parked as parked
use Rattle.shared_tasks.specs.contracts.arrival.Arrival as arrival
use Rattle.shared_tasks.specs.contracts.notice.Notice as notice
use Rattle.shared_tasks.specs.contracts.rest.Rest as rest
use Rattle.shared_tasks.specs.contracts.tickets.Tickets as tickets

pub door_send : IsSend (Enum (shape door.the_type))
door_send = search (sendable, crosses) depth 20

pub fresh_send : (K H : RattleType) (g : run.Ghosts K.Denot) (h : site.Ghosts H.Denot) → IsSend K → IsSend H → IsSend (fresh.the_row K H g h)
fresh_send K H g h k s = search (sendable, crosses, task_no_send, pass_send, holder_send) depth 20

pub live_send : (K H : RattleType) (g : run.Ghosts K.Denot) (h : site.Ghosts H.Denot) → IsSend K → IsSend H → IsSend (live.the_row K H g h)
live_send K H g h k s = search (sendable, crosses, record_send, pass_send, holder_send) depth 20

pub parked_send : (K : RattleType) (g : run.Ghosts K.Denot) → IsSend K → IsSend (parked.the_row K g)
parked_send K g k = search (sendable, crosses, record_send, pass_send, holder_send, door_send) depth 20

pub arrival_send : (K : RattleType) (g : run.Ghosts K.Denot) → IsSend K → IsSend (arrival.the_row K g)
arrival_send K g k = search (sendable, crosses, req_no_send, note_send) depth 20

pub notice_send : (K H : RattleType) (g : run.Ghosts K.Denot) (h : site.Ghosts H.Denot) → IsSend K → IsSend H → IsSend (notice.the_row K H g h)
notice_send K H g h k s = search (sendable, crosses, req_no_send, ticket_send, note_send) depth 20

pub tickets_send : IsSend tickets.the_row
tickets_send = search (sendable, crosses, ticket_send) depth 20
