-- The log of a round: its moves, the newest first, each of which might come where it stands (this project's). What is parked is not told in it.
use Rattle.std.specs.Prelude.{ℕ, List, [], ◌∷◌}
use Rattle.meetings.specs.declared.moves.Move.{Move}
use Rattle.meetings.specs.declared.moves.Move.TheVariants.{Issue, Park, Arrive}
use Rattle.meetings.specs.Meetings.{Meeting, opening, issuing, parking, arriving, MayIssue, MayPark, MayArrive}

-- the meeting after a move
abbrev pub moved : Move → Meeting (Unit {0}) → Meeting (Unit {0})
moved (Issue place) x = issuing place x
moved Park x = parking tt x
moved (Arrive place) x = arriving place x

-- the move may come at this meeting
abbrev pub May : Move → Meeting (Unit {0}) → Type 0
May (Issue place) x = MayIssue place x
May Park x = MayPark x
May (Arrive place) x = MayArrive place x

-- the meeting in this round after all moves of the log
abbrev pub after : ℕ → List Move → Meeting (Unit {0})
after round [] = opening round
after round (move ∷ log) = moved move (after round log)

-- each move of the log might come where it stands
abbrev pub Legal : ℕ → List Move → Type 0
Legal round [] = Unit {0}
Legal round (move ∷ log) = Legal round log × May move (after round log)
