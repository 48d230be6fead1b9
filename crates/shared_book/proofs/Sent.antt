-- What lies under the lock may move to another thread, and the shared book may be shared between threads.
use denote.RattleType.{RattleType}
use denote.Struct.Struct.{Struct}
use denote.Struct.Declared as struct
use denote.Param.Send.{IsSend, IsSync, sendable}
use Rattle.std.proofs.Crossing.{crosses}
use Rattle.pass_table.proofs.Sent.{table_send, table_sync}
use Rattle.meet_hall.proofs.Sent.{holder_send}
use Rattle.listed_book.proofs.Sent.{listed_send}
use Rattle.shared_tasks.specs.declared.names.Run as run
use Rattle.shared_tasks.specs.declared.names.Site as site
use Rattle.shared_tasks.proofs.Sent.{tickets_send}
use Rattle.shared_book.specs.contracts.pairs.Pair as pair
use Rattle.shared_book.specs.contracts.section.Section as section
use Rattle.shared_book.specs.contracts.shared.SharedBook as shared

pub pair_send : IsSend (Struct (struct.shape pair.the_type))
pair_send = search (sendable, crosses, holder_send) depth 20

pub section_send : (K H : RattleType) (g : run.Ghosts K.Denot) (h : site.Ghosts H.Denot) → IsSend K → IsSend H → IsSend (section.the_row K H g h)
section_send K H g h k s = search (sendable, crosses, listed_send, tickets_send, pair_send, holder_send) depth 20

pub shared_sync : (K H : RattleType) (g : run.Ghosts K.Denot) (h : site.Ghosts H.Denot) → IsSend K → IsSend H → IsSync (shared.the_row K H g h)
shared_sync K H g h k s = search (sendable, crosses, section_send, table_sync) depth 20

pub shared_send : (K H : RattleType) (g : run.Ghosts K.Denot) (h : site.Ghosts H.Denot) → IsSend K → IsSend H → IsSend (shared.the_row K H g h)
shared_send K H g h k s = search (sendable, crosses, section_send, table_send) depth 20
