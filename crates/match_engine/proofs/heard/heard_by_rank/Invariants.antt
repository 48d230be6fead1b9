use Rattle.std.proofs.Common.{◌≡◌, ℕ, ◌<◌, length}
use Rattle.match_engine.specs.Routes.{known_at, AreHeard}
use Rattle.match_engine.proofs.heard.heard_by_rank.Given as goal

-- the receives of the ranks so far are heard
abbrev pub invariant-loop-rank : goal.invariant-loop-rank
invariant-loop-rank l =
    (length l.keys.items ≡ l.rank) × ((rank : ℕ) → rank < l.rank → AreHeard rank (known_at l.keys.items rank) l.slots)
