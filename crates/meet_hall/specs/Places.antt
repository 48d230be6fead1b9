-- Lists of places.
use Rattle.std.specs.Prelude.{◌≡◌, ℕ, ◌≤◌, if◌then◌else◌, ◌==◌, List, [], ◌∷◌}
use Rattle.meetings.specs.Meetings.{times}

-- the list without the first of these places
abbrev pub without : ℕ → List ℕ → List ℕ
without place [] = []
without place (p ∷ ps) = if p == place then ps else p ∷ without place ps

-- each place below the bound stands there once at most, and no other
abbrev pub AreSpread : ℕ → List ℕ → Type 0
AreSpread most places = ((p : ℕ) → times p places ≤ 1) × ((p : ℕ) → most ≤ p → times p places ≡ 0)

-- the lists of a holder: issued in its round, left of the round before, and how many places there are
pub record ListsAre : Type 0 where
  pub issued : List ℕ
  pub left : List ℕ
  pub places : ℕ
