-- How the engine keeps the exchange: the queues of each rank, what was posted and what was matched, all with reserved room.
-- No public clause cites this module.
use Rattle.std.specs.Prelude.{◌≡◌, ℕ, ◌+◌, ◌≤◌, ◌<◌, ◌==◌, List, map, slice_index, if◌then◌else◌, ⊤}
use Rattle.rt_base.specs.declared.data.ReqNo.{ReqNo}
use Rattle.rt_base.specs.Listing.{Listing}
use Rattle.rt_base.specs.Exchange.{Match, Exchange, Posting, Sent, Asked, Nowhere}
use Rattle.match_lanes.specs.declared.selector.Selector.{Selector}
use Rattle.match_lanes.specs.Shelves.{Shelf}
use Rattle.match_engine.specs.declared.slots.Side.{Side}
use Rattle.match_engine.specs.declared.slots.Side.TheVariants.{Messages, Receives}

-- the queues of all ranks, all postings and all matches
pub record Traffic : Type 0 where
  pub shelves : List Shelf
  pub posted : Listing ReqNo
  pub matches : Listing Match

-- the exchange that is kept so
abbrev pub exchange_of : Traffic → Exchange
exchange_of traffic = record {
  posted = traffic.posted.items;
  mailboxes = map (λ (shelf : Shelf). shelf.mailbox) traffic.shelves;
  matches = traffic.matches.items;
}

-- for how many postings more a queue has memory
abbrev pub room_in : Side → Shelf → ℕ
room_in Messages shelf = shelf.message_room
room_in Receives shelf = shelf.receive_room

-- for how many postings more this queue of a rank has memory
abbrev pub room_at : Traffic → Side → ℕ → ℕ
room_at traffic side rank = slice_index (map (room_in side) traffic.shelves) rank

-- the selectors that are known at each rank
abbrev pub keys_of : Traffic → List (List Selector)
keys_of traffic = map (λ (shelf : Shelf). shelf.keys) traffic.shelves

-- how many places a posting may take in this queue of a rank
abbrev pub taken_at : Posting → Side → ℕ → ℕ
taken_at (Sent to message) Messages rank = if to == rank then 1 else 0
taken_at (Sent to message) Receives rank = 0
taken_at (Asked at wish) Messages rank = 0
taken_at (Asked at wish) Receives rank = if at == rank then 1 else 0
taken_at Nowhere side rank = 0

-- a posting goes to the mailbox of a rank that exists
abbrev pub IsPlaced : ℕ → Posting → Type 0
IsPlaced ranks (Sent to message) = to < ranks
IsPlaced ranks (Asked at wish) = at < ranks
IsPlaced ranks Nowhere = ⊤

-- there is memory for a posting
pub record HasRoomFor (traffic : Traffic) (posting : Posting) : Type 0 where
  pub posted : 0 < traffic.posted.room
  pub matches : 0 < traffic.matches.room
  pub queues : (side : Side) (rank : ℕ) → taken_at posting side rank ≤ room_at traffic side rank

-- at most the memory of one posting was used, and at each rank what was known is known
pub record HasSpent (old new : Traffic) (posting : Posting) : Type 0 where
  pub posted : old.posted.room ≤ new.posted.room + 1
  pub matches : old.matches.room ≤ new.matches.room + 1
  pub queues : (side : Side) (rank : ℕ) → room_at old side rank ≤ room_at new side rank + taken_at posting side rank
  pub keys : keys_of new ≡ keys_of old
