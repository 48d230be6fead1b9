-- What a worker holds, its hand, and the items of the ready queue may move to another thread.
use denote.RattleType.{RattleType}
use denote.Enum.Enum.{Enum}
use denote.Enum.Declared.{shape}
use denote.Param.Send.{IsSend, sendable}
use Rattle.std.proofs.Crossing.{crosses}
use Rattle.pass_table.proofs.Sent.{pass_send}
use Rattle.meet_hall.proofs.Sent.{stub_send}
use Rattle.shared_tasks.specs.declared.names.Run as run
use Rattle.shared_tasks.specs.declared.names.Site as site
use Rattle.shared_tasks.proofs.Sent.{door_send, fresh_send, live_send, notice_send}
use Rattle.tampi_calls.specs.contracts.able.Able as able
use Rattle.tampi_calls.specs.contracts.item.Item as item
use Rattle.tampi_calls.specs.contracts.held.Held as held
use Rattle.tampi_calls.specs.contracts.hand.Hand as hand

pub able_send : (K H : RattleType) (g : run.Ghosts K.Denot) (h : site.Ghosts H.Denot) → IsSend K → IsSend H → IsSend (able.the_row K H g h)
able_send K H g h k s = search (sendable, crosses, live_send) depth 20

pub item_send : (K H : RattleType) (g : run.Ghosts K.Denot) (h : site.Ghosts H.Denot) → IsSend K → IsSend H → IsSend (Enum (shape (item.the_type K H g h)))
item_send K H g h k s = search (sendable, crosses, fresh_send, able_send) depth 20

pub held_send : (K H : RattleType) (g : run.Ghosts K.Denot) (h : site.Ghosts H.Denot) → IsSend K → IsSend H → IsSend (Enum (shape (held.the_type K H g h)))
held_send K H g h k s = search (sendable, crosses, fresh_send, live_send, notice_send, door_send) depth 20

pub hand_send : (K H P : RattleType) (g : run.Ghosts K.Denot) (h : site.Ghosts H.Denot)
    → IsSend K → IsSend H → IsSend P → IsSend (hand.the_row K H P g h)
hand_send K H P g h k s p = search (sendable, crosses, pass_send, stub_send, held_send) depth 20
