-- The order of all matches of a list of postings, whoever makes them: what was posted earlier and fits was matched earlier.
use Rattle.std.specs.Prelude.{◌≡◌, ℕ, ◌<◌, true, List, map, take, slice_get, Contains, Some}
use Rattle.rt_base.specs.Matching.{Message, Receive, is_match}
use Rattle.rt_base.specs.Exchange.{Match, silent}
use Rattle.match_engine.specs.Laws.{Posted, after, AreNew, sends, asks}

-- match number i of these postings of new requests: the call at one place sent its message to the rank, and the call at another place
-- posted its receive there
pub record IsMatchAt (ranks rank : ℕ) (calls : List Posted) (i : ℕ) (made : Match) : Type 0 where
  pub rank_is : rank < ranks
  pub new : AreNew (silent ranks) calls
  pub match : slice_get (after (silent ranks) calls).matches i ≡ Some made
  pub sent_at : ℕ
  pub asked_at : ℕ
  pub sent : slice_get calls sent_at ≡ Some (sends rank made.message)
  pub asked : slice_get calls asked_at ≡ Some (asks rank made.receive)
  pub accepts : is_match made.receive made.message ≡ true

-- each match has a message that was sent to a rank and a receive that was posted there, and the receive accepts the message (MPI 4.0, 3.2.4)
abbrev pub MatchesArePosted : Type 0
MatchesArePosted =
    (ranks : ℕ) (calls : List Posted) (i : ℕ) (made : Match) → AreNew (silent ranks) calls → slice_get (after (silent ranks) calls).matches i ≡ Some made
    → (rank : ℕ) × IsMatchAt ranks rank calls i made

-- a message to the rank that the receive of a match accepts, and that was posted earlier than the message of the match, stands in an earlier match
-- (between messages of one sender MPI 4.0, 3.5, order; that messages of different senders, and of different tasks of one rank, are ordered by the
-- place of their posting is this project's)
abbrev pub MessagesKeepOrder : Type 0
MessagesKeepOrder =
    (ranks rank : ℕ) (calls : List Posted) (i j : ℕ) (made : Match) (earlier : Message) → (at : IsMatchAt ranks rank calls i made)
    → slice_get calls j ≡ Some (sends rank earlier) → j < at.sent_at → is_match made.receive earlier ≡ true
    → Contains (map (λ (m : Match). m.message) (take i (after (silent ranks) calls).matches)) earlier

-- a receive at the rank that accepts the message of a match, and that was posted earlier than the receive of the match, stands in an earlier match
-- (between receives of one task MPI 4.0, 3.5, order; between receives of different tasks of one rank this project's)
abbrev pub ReceivesKeepOrder : Type 0
ReceivesKeepOrder =
    (ranks rank : ℕ) (calls : List Posted) (i j : ℕ) (made : Match) (earlier : Receive) → (at : IsMatchAt ranks rank calls i made)
    → slice_get calls j ≡ Some (asks rank earlier) → j < at.asked_at → is_match earlier made.message ≡ true
    → Contains (map (λ (m : Match). m.receive) (take i (after (silent ranks) calls).matches)) earlier
