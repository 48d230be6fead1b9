-- Which receive accepts which message.
use Rattle.std.specs.Prelude.{ℕ, Bool, true, false, ◌==◌, ◌&&◌, List, ℤ}
use Rattle.rt_base.specs.declared.data.ReqNo.{ReqNo}
use Rattle.rt_base.specs.declared.data.Peer.{Peer}
use Rattle.rt_base.specs.declared.data.Peer.TheVariants as peer
use Rattle.rt_base.specs.declared.data.TagSel.{TagSel}
use Rattle.rt_base.specs.declared.data.TagSel.TheVariants as tag

-- a message: its envelope, its request, and the cells as they were when it was posted (MPI 4.0, 3.2.3)
pub record Message : Type 0 where
  pub request : ReqNo
  pub comm : ℕ
  pub source : ℕ
  pub tag : ℕ
  pub cells : List ℤ

-- a posted receive: its request, and the messages that it accepts (MPI 4.0, 3.2.4)
pub record Receive : Type 0 where
  pub request : ReqNo
  pub comm : ℕ
  pub source : Peer
  pub tag : TagSel

-- both are one request
abbrev pub same_request : ReqNo → ReqNo → Bool
same_request one other = (one.task.0 == other.task.0) && (one.nth == other.nth)

-- the receive names this source, or any (MPI 4.0, 3.2.4)
abbrev pub names_source : Peer → ℕ → Bool
names_source (peer.Rank rank) source = rank == source
names_source peer.Any source = true
names_source peer.Null source = false

-- the receive names this tag, or any (MPI 4.0, 3.2.4)
abbrev pub names_tag : TagSel → ℕ → Bool
names_tag (tag.Tag wanted) sent = wanted == sent
names_tag tag.Any sent = true

-- the same communicator, and a source and a tag that the receive names (MPI 4.0, 3.2.4; communicators are in chapter 7)
abbrev pub is_match : Receive → Message → Bool
is_match receive message =
    (receive.comm == message.comm) && (names_source receive.source message.source && names_tag receive.tag message.tag)
