-- A meeting with the seats of its parties: how one word and its slots stand at a moment. No public clause cites this module.
use Rattle.std.specs.Prelude.{◌≡◌, ℕ, ◌+◌, ◌*◌, ◌%◌, ◌^◌, ◌<◌, ◌≤◌, if◌then◌else◌, ◌==◌, List, []}
use Rattle.atomic_table.specs.Seated.{TableId}
use Rattle.meetings.specs.declared.moves.Move.{Move}
use Rattle.meetings.specs.Meetings.{times, holder_due, count_of}
use Rattle.meetings.specs.Moves.{after, Legal}
use Rattle.meet_hall.specs.Parties.{Party, idle, kept, waits, puts, came, shut, out, due, live, stale, gone, ticket_come, dues}

-- a meeting at a moment: its round, where its holder and its tickets stand, and what was done in this round (this project's)
pub record Seating : Type 0 where
  pub hall : TableId
  pub round : ℕ
  -- the places of the round before whose notes are not taken
  pub left : List ℕ
  -- the place whose note is out with the holder, if any
  pub taking : List ℕ
  pub head : Party
  -- by place
  pub ticket : ℕ → Party
  -- the moves of this round, the newest first
  pub log : List Move

-- one value of a function is another
abbrev pub changed : {A : Type 0} → (ℕ → A) → ℕ → A → ℕ → A
changed f k a j = if j == k then a else f j

-- the places issued in this round
abbrev pub issued_at : Seating → List ℕ
issued_at x = (after x.round x.log).issued

-- how many seats have not come, of a meeting with so many places
abbrev pub count_at : ℕ → Seating → ℕ
count_at places x = due x.head + dues x.ticket places

-- the round in the high half, the count in the low half
abbrev pub word_at : ℕ → Seating → ℕ
word_at places x = x.round % 2 ^ 32 * 2 ^ 32 + count_at places x

-- neither a note of the round before is left, nor one out
abbrev pub NoneLeft : Seating → Type 0
NoneLeft x = (x.left ≡ []) × (x.taking ≡ [])

-- how the holder may stand: it comes only where no note is left, and a seat is the last exactly where the count is 0
abbrev pub HeadMay : ℕ → Seating → Party → Type 0
HeadMay places x idle = ⊥
HeadMay places x kept = ⊥
HeadMay places x (waits i) = Unit {0}
HeadMay places x (puts i) = NoneLeft x
HeadMay places x came = NoneLeft x
HeadMay places x (shut i) = NoneLeft x × (count_at places x ≡ 0)
HeadMay places x (out i) = NoneLeft x × (count_at places x ≡ 0)

-- how often a place stands in each list, by its ticket
pub record Tallies (x : Seating) (place : ℕ) (t : Party) : Type 0 where
  pub issued : times place (issued_at x) ≡ live t
  pub left : times place x.left ≡ stale t
  pub taking : times place x.taking ≡ gone t

-- the holder and each ticket stand as the lists of the meeting count them, and none is beyond its places
pub record Orderly (places : ℕ) (x : Seating) : Type 0 where
  pub head : HeadMay places x x.head
  pub tallies : (p : ℕ) → p < places → Tallies x p (x.ticket p)
  pub within : (p : ℕ) → places ≤ p → (times p (issued_at x) ≡ 0) × (times p x.left ≡ 0)

-- the log is that of a meeting whose parties came as the seats did
pub record Logged (places : ℕ) (x : Seating) : Type 0 where
  pub legal : Legal x.round x.log
  pub tally : count_of (after x.round x.log) ≡ count_at places x
  pub holder : holder_due (after x.round x.log).parked ≡ due x.head
  pub tickets : (p : ℕ) → p < places → times p (after x.round x.log).came ≡ ticket_come (x.ticket p)
