-- The order of the matches of a legal history: what was posted earlier and fits was matched earlier.
use Rattle.std.specs.Prelude.{◌≡◌, ℕ, ◌<◌, true, List, [], ◌∷◌, map, take, slice_get, Contains, Some}
use Rattle.rt_base.specs.declared.data.Status.{Status}
use Rattle.rt_base.specs.declared.data.Entry.{Entry}
use Rattle.rt_base.specs.declared.data.Program.{Program}
use Rattle.rt_base.specs.Matching.{Message, Receive, is_match}
use Rattle.rt_base.specs.Exchange.{Match}
use Rattle.match_engine.specs.Laws.{Posted, sends, asks}
use Rattle.task_machine.specs.Legal.{final, IsLegal}
use Rattle.history_laws.specs.Postings.{postings_by_entry}

-- the entry at this place of the history is the call that posts this, in the state that the entries before it lead to
pub record PostsAt (program : Program) (entries : List Entry) (place : ℕ) (call : Posted) : Type 0 where
  pub made : Entry
  pub there : slice_get entries place ≡ Some made
  pub posts : postings_by_entry program (final program (take place entries)) made ≡ call ∷ []

-- the matches of a history, in the order in which they were made
abbrev pub matches_of : Program → List Entry → List Match
matches_of program entries = (final program entries).exchange.matches

-- where the parties of a match were posted: one call sent its message to a rank, and one posted its receive there, which accepts the message
pub record HasItsPostings (program : Program) (entries : List Entry) (made : Match) : Type 0 where
  pub rank : ℕ
  pub rank_is : rank < program.ranks
  pub sent_at : ℕ
  pub asked_at : ℕ
  pub sent : PostsAt program entries sent_at (sends rank made.message)
  pub asked : PostsAt program entries asked_at (asks rank made.receive)
  pub accepts : is_match made.receive made.message ≡ true

-- each match of a legal history is one of a message and a receive that it posted (MPI 4.0, 3.2.4)
abbrev pub EachMatchIsPosted : Type 0
EachMatchIsPosted =
    (program : Program) (workers : ℕ) (entries : List Entry) (statuses : List Status) → IsLegal program workers entries statuses
    → (made : Match) → Contains (matches_of program entries) made → HasItsPostings program entries made

-- where a receive was matched with a message, each message to the rank that the receive accepts and whose call stands earlier in the history than that
-- of the matched message stands in an earlier match (between messages of one task MPI 4.0, 3.5, order; that messages of different senders, and of
-- different tasks of one rank, are ordered by the place of their posting is this project's)
abbrev pub HistoriesKeepMessages : Type 0
HistoriesKeepMessages =
    (program : Program) (workers : ℕ) (entries : List Entry) (statuses : List Status) → IsLegal program workers entries statuses
    → (rank i sent_at place : ℕ) (made : Match) (earlier : Message)
    → slice_get (matches_of program entries) i ≡ Some made
    → PostsAt program entries sent_at (sends rank made.message)
    → PostsAt program entries place (sends rank earlier)
    → place < sent_at
    → is_match made.receive earlier ≡ true
    → Contains (map (λ (m : Match). m.message) (take i (matches_of program entries))) earlier

-- where a message was matched with a receive, each receive at the rank that accepts the message and whose call stands earlier in the history than that
-- of the matched receive stands in an earlier match (MPI 4.0, 3.5, order; between receives of different tasks of a rank this project's)
abbrev pub HistoriesKeepReceives : Type 0
HistoriesKeepReceives =
    (program : Program) (workers : ℕ) (entries : List Entry) (statuses : List Status) → IsLegal program workers entries statuses
    → (rank i asked_at place : ℕ) (made : Match) (earlier : Receive)
    → slice_get (matches_of program entries) i ≡ Some made
    → PostsAt program entries asked_at (asks rank made.receive)
    → PostsAt program entries place (asks rank earlier)
    → place < asked_at
    → is_match earlier made.message ≡ true
    → Contains (map (λ (m : Match). m.receive) (take i (matches_of program entries))) earlier
