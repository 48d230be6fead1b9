-- What waits at a rank may move to another thread.
use denote.Param.Send.{IsSend, sendable}
use denote.Struct.Struct.{Struct}
use denote.Struct.Declared as struct
use Rattle.std.proofs.Crossing.{crosses}
use Rattle.rt_base.proofs.Sent.{req_no_send}
use Rattle.match_lanes.specs.contracts.mail.Message as message
use Rattle.match_lanes.specs.contracts.mail.Receive as receive
use Rattle.match_lanes.specs.contracts.mail.Match as found
use Rattle.match_lanes.specs.contracts.lanes.Hook as hook
use Rattle.match_lanes.specs.contracts.lanes.Lanes as lanes
use Rattle.match_lanes.specs.contracts.mails.Mails as mails
use Rattle.match_lanes.specs.contracts.wishes.Wishes as wishes
use Rattle.match_lanes.specs.contracts.queues.Queues as queues

pub message_send : IsSend message.the_row
message_send = search (sendable, crosses, req_no_send) depth 20

pub receive_send : IsSend receive.the_row
receive_send = search (sendable, crosses, req_no_send) depth 20

pub match_send : IsSend found.the_row
match_send = search (sendable, crosses, message_send, receive_send) depth 20

pub hook_send : IsSend (Struct (struct.shape hook.the_type))
hook_send = search (sendable, crosses) depth 20

pub lanes_send : IsSend lanes.the_row
lanes_send = search (sendable, crosses, hook_send) depth 20

pub mails_send : IsSend mails.the_row
mails_send = search (sendable, crosses, message_send, lanes_send) depth 20

pub wishes_send : IsSend wishes.the_row
wishes_send = search (sendable, crosses, receive_send, lanes_send) depth 20

pub queues_send : IsSend queues.the_row
queues_send = search (sendable, crosses, mails_send, wishes_send) depth 20
