-- How a set of places is kept: as intervals that don't touch, each by where it begins. No public clause cites this module.
use Rattle.std.specs.Prelude.{◌≡◌, ℕ, ◌<◌, ◌≤◌, ◌↔◌, Bool, true, List, Option, Some}
use Rattle.std.specs.Map.{lookup}
use Rattle.std.specs.Ordering.{nat_cmp}
use Rattle.std.specs.BTreeMap.{is_at}

-- where the interval ends that begins here
abbrev pub end_at : List (ℕ × ℕ) → ℕ → Option ℕ
end_at entries begin = lookup (is_at (nat_cmp begin)) entries

-- the place belongs to the set whose intervals end there
abbrev pub Has : (ℕ → Option ℕ) → ℕ → Type 0
Has ends spot = (begin : ℕ) × (end : ℕ) × (ends begin ≡ Some end) × (begin ≤ spot) × (spot < end)

-- the set has the places that pass the test
abbrev pub AreThose : (ℕ → Option ℕ) → (ℕ → Bool) → Type 0
AreThose ends test = (spot : ℕ) → Has ends spot ↔ (test spot ≡ true)

-- no interval is empty, and between two of them lies a place of none
pub record AreApart (ends : ℕ → Option ℕ) : Type 0 where
  pub some : (begin end : ℕ) → ends begin ≡ Some end → begin < end
  pub apart : (begin end later other : ℕ) → ends begin ≡ Some end → ends later ≡ Some other → begin < later → end < later

-- of the intervals that begin before the place, this is the last
pub record IsLast (ends : ℕ → Option ℕ) (spot begin end : ℕ) : Type 0 where
  pub is : ends begin ≡ Some end
  pub before : begin < spot
  pub last : (other to : ℕ) → other < spot → ends other ≡ Some to → other ≤ begin

-- where an interval begins that takes in the one which ends where it begins itself, if there is one
pub record IsJoinedBegin (ends : ℕ → Option ℕ) (from begin : ℕ) : Type 0 where
  pub low : begin ≤ from
  pub joined : begin < from → ends begin ≡ Some from
  pub alone : begin ≡ from → (other to : ℕ) → other < from → ends other ≡ Some to → to < from
