-- What follows from the definition of a posting, whoever computes it.
use Rattle.std.specs.Prelude.{◌≡◌, ℕ, ◌<◌, true, false, List, [], ◌∷◌, ◌++◌, map, Contains, Some, ⊤}
use Rattle.std.specs.List.{position_or_len}
use Rattle.rt_base.specs.declared.data.ReqNo.{ReqNo}
use Rattle.rt_base.specs.Matching.{Message, Receive, is_match, same_request}
use Rattle.rt_base.specs.Exchange.{Exchange, Match, Posting, Sent, Asked, Nowhere, silent, mailbox_of, match_made, exchange_after}
use Rattle.rt_base.specs.Completion.{is_posted}

-- a request, and what it posts
pub record Posted : Type 0 where
  pub request : ReqNo
  pub posting : Posting

-- the message or the receive is the request's own
abbrev pub IsOwn : ReqNo → Posting → Type 0
IsOwn req (Sent to message) = message.request ≡ req
IsOwn req (Asked at wish) = wish.request ≡ req
IsOwn req Nowhere = ⊤

-- the exchange after these postings, one after another
abbrev pub after : Exchange → List Posted → Exchange
after exchange [] = exchange
after exchange (call ∷ calls) = after (exchange_after exchange call.request call.posting) calls

-- each request posts what is its own, and none posts twice
abbrev pub AreNew : Exchange → List Posted → Type 0
AreNew exchange [] = ⊤
AreNew exchange (call ∷ calls) =
    IsOwn call.request call.posting × (is_posted exchange call.request ≡ false) × AreNew (exchange_after exchange call.request call.posting) calls

-- the call that posts this message to the rank, and the one that posts this receive at the rank
abbrev pub sends : ℕ → Message → Posted
sends rank message = record { request = message.request; posting = Sent rank message }

-- the receive as it was posted at its rank
abbrev pub asks : ℕ → Receive → Posted
asks rank wish = record { request = wish.request; posting = Asked rank wish }

-- the one request was posted before the other
abbrev pub IsEarlier : List ReqNo → ReqNo → ReqNo → Type 0
IsEarlier posted one other = position_or_len (same_request one) posted < position_or_len (same_request other) posted

-- the posting goes to the mailbox of this rank
abbrev pub IsAt : ℕ → Posting → Type 0
IsAt rank (Sent to message) = to ≡ rank
IsAt rank (Asked at wish) = at ≡ rank
IsAt rank Nowhere = ⊥

-- no unmatched message matches an unmatched receive of its rank (MPI 4.0, 3.5, progress)
abbrev pub NothingMatchesIsLeft : Type 0
NothingMatchesIsLeft =
    (ranks rank : ℕ) (calls : List Posted) (message : Message) (wish : Receive)
    → Contains (mailbox_of (after (silent ranks) calls) rank).messages message
    → Contains (mailbox_of (after (silent ranks) calls) rank).receives wish
    → is_match wish message ≡ false

-- a match that the next posting makes at a rank, after these postings of new requests
pub record Makes (ranks rank : ℕ) (calls : List Posted) (next : Posted) (made : Match) : Type 0 where
  pub rank_is : rank < ranks
  pub new : AreNew (silent ranks) (calls ++ next ∷ [])
  pub at : IsAt rank next.posting
  pub match : match_made (after (silent ranks) calls) next.posting ≡ Some made

-- the requests that were posted, with the next
abbrev pub posted_with : ℕ → List Posted → Posted → List ReqNo
posted_with ranks calls next = (after (silent ranks) calls).posted ++ next.request ∷ []

-- a message to the rank that the receive of a match accepts, and that was posted earlier than the message of the match,
-- was matched earlier (between messages of one sender MPI 4.0, 3.5, order; that messages of different senders, and of different tasks of one rank,
-- are ordered by the place of their posting is this project's)
abbrev pub MessagesDoNotOvertake : Type 0
MessagesDoNotOvertake =
    (ranks rank : ℕ) (calls : List Posted) (next : Posted) (made : Match) (earlier : Message)
    → Makes ranks rank calls next made
    → Contains calls (sends rank earlier)
    → is_match made.receive earlier ≡ true
    → IsEarlier (posted_with ranks calls next) earlier.request made.message.request
    → Contains (map (λ (m : Match). m.message) (after (silent ranks) calls).matches) earlier

-- a receive at the rank that accepts the message of a match, and that was posted earlier than the receive of the match,
-- was matched earlier (between receives of one task MPI 4.0, 3.5, order; between receives of different tasks of one rank this project's)
abbrev pub ReceivesDoNotOvertake : Type 0
ReceivesDoNotOvertake =
    (ranks rank : ℕ) (calls : List Posted) (next : Posted) (made : Match) (earlier : Receive)
    → Makes ranks rank calls next made
    → Contains calls (asks rank earlier)
    → is_match earlier made.message ≡ true
    → IsEarlier (posted_with ranks calls next) earlier.request made.receive.request
    → Contains (map (λ (m : Match). m.receive) (after (silent ranks) calls).matches) earlier
