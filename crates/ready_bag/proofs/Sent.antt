-- A bag may be shared by threads and sent to one, and a pass may be sent, where the items may be sent.
use denote.RattleType.{RattleType}
use denote.Param.Send.{IsSend, IsSync, sendable}
use Rattle.std.proofs.Crossing.{crosses}
use Rattle.atomic_table.proofs.shared.Seat.TheSendSync as seat
use Rattle.atomic_table.proofs.shared.Shared.TheSendSync as steps
use Rattle.atomic_table.proofs.send_lease.SendLease.TheSendSync as lease
use Rattle.crossbeam_queue.specs.declared.protocol.Protocol.{Ghosts}
use Rattle.ready_bag.specs.declared.account.Knows.{Knows}
use Rattle.ready_bag.specs.contracts.pass.QueuePass as pass
use Rattle.ready_bag.specs.contracts.queue_bag.QueueBag as bag

pub pass_send : (T : RattleType) → IsSend T → IsSend (pass.the_row T)
pass_send T sent = search (sendable, seat.the_send) depth 20

pub bag_send : (T : RattleType) → IsSend T → (P : RattleType) (rule : Ghosts P.Denot T.Denot (Knows T.Denot)) → IsSend (bag.the_row T P rule)
bag_send T sent P rule = search (sendable, crosses, steps.the_send, lease.the_send) depth 20

pub bag_sync : (T : RattleType) → IsSend T → (P : RattleType) (rule : Ghosts P.Denot T.Denot (Knows T.Denot)) → IsSync (bag.the_row T P rule)
bag_sync T sent P rule = search (sendable, crosses, steps.the_sync, lease.the_sync) depth 20
