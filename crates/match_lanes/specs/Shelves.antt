-- What contracts see of the queues of a rank.
use Rattle.std.specs.Prelude.{ℕ, List, Option}
use Rattle.rt_base.specs.Matching.{Message, Receive}
use Rattle.rt_base.specs.Exchange.{Mailbox}
use Rattle.match_lanes.specs.Waiting.{waiting}
use Rattle.match_lanes.specs.declared.selector.Selector.{Selector}

-- the mailbox of what waits in the two queues
abbrev pub box : List (Option Message) → List (Option Receive) → Mailbox
box mails wishes = record { messages = waiting mails; receives = waiting wishes }

-- the mailbox of a rank, the selectors that its receives may have, and for how many messages and receives more it has memory
pub record Shelf : Type 0 where
  pub mailbox : Mailbox
  pub keys : List Selector
  pub message_room : ℕ
  pub receive_room : ℕ
