-- What follows from the definitions of a meeting.
use Rattle.std.specs.Prelude.{◌≡◌, ℕ, ◌+◌, ◌≤◌, List, ◌∷◌, IsSome}
use Rattle.meetings.specs.declared.moves.Move.{Move}
use Rattle.meetings.specs.declared.moves.Move.TheVariants.{Issue, Park, Arrive}
use Rattle.meetings.specs.Meetings.{count_of, next_round, times}
use Rattle.meetings.specs.Moves.{after, Legal}

-- a ticket that is handed out is one party more
abbrev pub IssuesAddOne : Type 0
IssuesAddOne = (round place : ℕ) (log : List Move) → Legal round (Issue place ∷ log)
    → count_of (after round (Issue place ∷ log)) ≡ count_of (after round log) + 1

-- the holder or a ticket that comes is one party less
abbrev pub ArrivalsTakeOne : Type 0
ArrivalsTakeOne =
    ((round : ℕ) (log : List Move) → Legal round (Park ∷ log) → count_of (after round (Park ∷ log)) + 1 ≡ count_of (after round log))
    × ((round place : ℕ) (log : List Move) → Legal round (Arrive place ∷ log) → count_of (after round (Arrive place ∷ log)) + 1 ≡ count_of (after round log))

-- a move comes only where some party has not come
abbrev pub NothingAfterTheLast : Type 0
NothingAfterTheLast = (round : ℕ) (move : Move) (log : List Move) → Legal round (move ∷ log) → 1 ≤ count_of (after round log)

-- the count is 0 only where all came: the holder, and the ticket of each place as often as it was issued
abbrev pub AllCameAtTheLast : Type 0
AllCameAtTheLast = (round : ℕ) (log : List Move) → Legal round log → count_of (after round log) ≡ 0
    → IsSome (after round log).parked × ((place : ℕ) → times place (after round log).came ≡ times place (after round log).issued)

-- the last is the holder of the next round, and its one party
abbrev pub RoundsBeginWithOne : Type 0
RoundsBeginWithOne = (round : ℕ) (log : List Move) → count_of (next_round (after round log)) ≡ 1
