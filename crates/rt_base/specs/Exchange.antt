-- The mailboxes of all ranks, what was posted, and what was matched.
use Rattle.std.specs.Prelude.{ℕ, List, [], ◌∷◌, ◌++◌, ℤ, replicate, slice_get, slice_set, slice_index_or, position, remove, Option, Some, None}
use Rattle.std.specs.Prelude.{option_map, option_and_then, option_to_list}
use Rattle.rt_base.specs.declared.data.ReqNo.{ReqNo}
use Rattle.rt_base.specs.declared.data.How.{How}
use Rattle.rt_base.specs.declared.data.How.TheVariants as how
use Rattle.rt_base.specs.declared.data.Peer.{Peer}
use Rattle.rt_base.specs.declared.data.Peer.TheVariants as peer
use Rattle.rt_base.specs.declared.data.TagSel.{TagSel}
use Rattle.rt_base.specs.declared.data.TagSel.TheVariants as tag
use Rattle.rt_base.specs.declared.data.Op.{Op}
use Rattle.rt_base.specs.declared.data.TaskDef.{TaskDef}
use Rattle.rt_base.specs.declared.data.Program.{Program}
use Rattle.rt_base.specs.Operations.{posting_of, posting_parts, given}
use Rattle.rt_base.specs.Matching.{Message, Receive, is_match}

-- the mailbox of a rank: its unmatched messages and its unmatched receives, both in the order of posting (MPI 4.0, 3.5, orders
-- the messages of one sender; that those of different senders stand in the order of their posting too is this project's)
pub record Mailbox : Type 0 where
  pub messages : List Message
  pub receives : List Receive

-- the mailbox before any posting
abbrev pub no_mail : Mailbox
no_mail = record { messages = []; receives = [] }

-- the place of the receive that a message takes: the oldest that accepts it (MPI 4.0, 3.5, order)
abbrev pub place_of_receive : Mailbox → Message → Option ℕ
place_of_receive mailbox message = position (λ receive. is_match receive message) mailbox.receives

-- the place of the message that a receive takes: the oldest that it accepts (MPI 4.0, 3.5, order)
abbrev pub place_of_message : Mailbox → Receive → Option ℕ
place_of_message mailbox receive = position (λ message. is_match receive message) mailbox.messages

-- the mailbox after a message took the receive at this place, or stays unmatched
abbrev pub sent_to : Mailbox → Message → Option ℕ → Mailbox
sent_to mailbox message None = record mailbox { messages = mailbox.messages ++ message ∷ [] }
sent_to mailbox message (Some place) = record mailbox { receives = remove mailbox.receives place }

-- the mailbox after a receive took the message at this place, or stays unmatched
abbrev pub asked_for : Mailbox → Receive → Option ℕ → Mailbox
asked_for mailbox receive None = record mailbox { receives = mailbox.receives ++ receive ∷ [] }
asked_for mailbox receive (Some place) = record mailbox { messages = remove mailbox.messages place }

-- a message arrives at a mailbox (MPI 4.0, 3.5, order)
abbrev pub send : Mailbox → Message → Mailbox
send mailbox message = sent_to mailbox message (place_of_receive mailbox message)

-- a receive is posted at a mailbox (MPI 4.0, 3.5, order)
abbrev pub receive : Mailbox → Receive → Mailbox
receive mailbox wish = asked_for mailbox wish (place_of_message mailbox wish)

-- what a posting does: a message to a rank, a receive at a rank, or nothing, to or from the null process (MPI 4.0, 3.11)
pub data Posting : Type 0 where
  Sent : ℕ → Message → Posting
  Asked : ℕ → Receive → Posting
  Nowhere : Posting

-- a send addresses one rank with one tag (MPI 4.0, 3.2.3)
abbrev pub sent_by : ReqNo → ℕ → Peer → TagSel → ℕ → List ℤ → Posting
sent_by req rank (peer.Rank to) (tag.Tag chosen) comm cells =
    Sent to (record { request = req; comm = comm; source = rank; tag = chosen; cells = cells })
sent_by req rank (peer.Rank to) tag.Any comm cells = Nowhere
sent_by req rank peer.Any selected comm cells = Nowhere
sent_by req rank peer.Null selected comm cells = Nowhere

-- a receive is posted at its own rank (MPI 4.0, 3.2.4)
abbrev pub asked_by : ReqNo → ℕ → Peer → TagSel → ℕ → Posting
asked_by req rank (peer.Rank from) selected comm = Asked rank (record { request = req; comm = comm; source = peer.Rank from; tag = selected })
asked_by req rank peer.Any selected comm = Asked rank (record { request = req; comm = comm; source = peer.Any; tag = selected })
asked_by req rank peer.Null selected comm = Nowhere

-- what each kind of posting of a task of this rank does
abbrev pub posting_by : How → ReqNo → ℕ → Peer → TagSel → ℕ → List ℤ → Posting
posting_by how.Send req rank whom selected comm cells = sent_by req rank whom selected comm cells
posting_by how.Ssend req rank whom selected comm cells = sent_by req rank whom selected comm cells
posting_by how.Recv req rank whom selected comm cells = asked_by req rank whom selected comm
posting_by how.Isend req rank whom selected comm cells = sent_by req rank whom selected comm cells
posting_by how.Issend req rank whom selected comm cells = sent_by req rank whom selected comm cells
posting_by how.Irecv req rank whom selected comm cells = asked_by req rank whom selected comm

-- what an operation of a task of this rank posts, with the cells that a send takes now
abbrev pub posted_by : ReqNo → ℕ → List ℤ → Op → Posting
posted_by req rank cells operation =
    given Nowhere (λ parts. posting_by parts.how req rank parts.peer parts.tag parts.comm cells) (posting_parts operation)

-- the posting that an operation of the program is
abbrev pub posting_or_nowhere : ReqNo → ℕ → List ℤ → Option Op → Posting
posting_or_nowhere req rank cells None = Nowhere
posting_or_nowhere req rank cells (Some operation) = posted_by req rank cells operation

-- the posting that a request of a task is
abbrev pub posting_of_task : Program → ReqNo → List ℤ → Option TaskDef → Posting
posting_of_task program req cells None = Nowhere
posting_of_task program req cells (Some task) = posting_or_nowhere req task.rank cells (posting_of program req)

-- what this request of the program posts, with the cells that a send takes now
unfoldable pub what_is_posted : Program → ReqNo → List ℤ → Posting
what_is_posted program req cells = posting_of_task program req cells (slice_get program.tasks.items req.task.0)

-- a message and the receive that was matched with it
pub record Match : Type 0 where
  pub message : Message
  pub receive : Receive

-- what is under way between the ranks: all postings and all matches so far in order, and a mailbox for each rank
pub record Exchange : Type 0 where
  pub posted : List ReqNo
  pub mailboxes : List Mailbox
  pub matches : List Match

-- nothing is posted
abbrev pub silent : ℕ → Exchange
silent ranks = record { posted = []; mailboxes = replicate ranks no_mail; matches = [] }

-- the mailbox of a rank
abbrev pub mailbox_of : Exchange → ℕ → Mailbox
mailbox_of exchange rank = slice_index_or exchange.mailboxes rank no_mail

-- the item at a place, where there is one
abbrev pub element : {X : Type 0} → List X → Option ℕ → Option X
element xs None = None
element xs (Some place) = slice_get xs place

-- the match that a posting makes, where it finds a partner (MPI 4.0, 3.5, order)
abbrev pub match_made : Exchange → Posting → Option Match
match_made exchange (Sent to message) =
    let mailbox = mailbox_of exchange to in
    option_map (λ found. record { message = message; receive = found }) (element mailbox.receives (place_of_receive mailbox message))
match_made exchange (Asked at wish) =
    let mailbox = mailbox_of exchange at in
    option_map (λ found. record { message = found; receive = wish }) (element mailbox.messages (place_of_message mailbox wish))
match_made exchange Nowhere = None

-- the mailboxes after a posting
abbrev pub mailboxes_after : Exchange → Posting → List Mailbox
mailboxes_after exchange (Sent to message) = slice_set exchange.mailboxes to (send (mailbox_of exchange to) message)
mailboxes_after exchange (Asked at wish) = slice_set exchange.mailboxes at (receive (mailbox_of exchange at) wish)
mailboxes_after exchange Nowhere = exchange.mailboxes

-- the exchange after a request posted this
abbrev pub exchange_after : Exchange → ReqNo → Posting → Exchange
exchange_after exchange req posting = record {
  posted = exchange.posted ++ req ∷ [];
  mailboxes = mailboxes_after exchange posting;
  matches = exchange.matches ++ option_to_list (match_made exchange posting);
}

-- the other request of the match that a posting makes
abbrev pub other_of : Posting → Match → ReqNo
other_of (Sent to message) made = made.receive.request
other_of (Asked at wish) made = made.message.request
other_of Nowhere made = made.message.request

-- the request that a posting completes beside its own: its partner
abbrev pub partner_of : Exchange → Posting → Option ReqNo
partner_of exchange posting = option_map (other_of posting) (match_made exchange posting)

-- the exchange after the program's request is posted with these cells (MPI 4.0, 3.5)
unfoldable pub post : Program → Exchange → ReqNo → List ℤ → Exchange
post program exchange req cells = exchange_after exchange req (what_is_posted program req cells)

-- the request that it completes beside its own
unfoldable pub partner : Program → Exchange → ReqNo → List ℤ → Option ReqNo
partner program exchange req cells = partner_of exchange (what_is_posted program req cells)
