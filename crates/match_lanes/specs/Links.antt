-- How lanes are linked. No public clause cites this module.
use Rattle.std.specs.Prelude.{◌≡◌, ℕ, ◌≤◌, ◌<◌, Bool, true, false, List, length, map, slice_index_or, slice_set, Option, Some, None, if◌then◌else◌}
use Rattle.match_lanes.specs.declared.lanes.Hook.{Hook}
use Rattle.match_lanes.specs.declared.lanes.Ends.{Ends}
use Rattle.match_lanes.specs.Hung.{is_lane}

-- the lane in which a hook was hung
abbrev pub lane_of : Hook → Option ℕ
lane_of hook = Some hook.lane.value

-- the same, and None where it is gone
abbrev pub shown : Hook → Option ℕ
shown hook = if hook.gone then None else Some hook.lane.value

-- the place that follows on the lane
abbrev pub next_of : Hook → ℕ
next_of hook = hook.next

-- the place is in this lane
abbrev pub is_on : ℕ → List (Option ℕ) → ℕ → Bool
is_on lane lanes place = is_lane lane (slice_index_or lanes place None)

-- n is the next place after this one that passes the test, or this one, where none does
pub record IsNext (test : ℕ → Bool) (place n : ℕ) : Type 0 where
  pub later : place ≤ n
  pub passes : test n ≡ true
  pub between : (q : ℕ) → place < q → q < n → test q ≡ false
  pub ends : n ≡ place → (q : ℕ) → place < q → test q ≡ false

-- a place that was in a lane, and before which all of the lane is gone
pub record IsFront (was is : ℕ → Bool) (place : ℕ) : Type 0 where
  pub hung : was place ≡ true
  pub before : (q : ℕ) → q < place → is q ≡ false

-- the ends of a lane
pub record AreEnds (was is : ℕ → Bool) (ends : Ends) : Type 0 where
  pub front : IsFront was is ends.front
  pub last : was ends.last ≡ true
  pub after : (q : ℕ) → ends.last < q → was q ≡ false

-- a lane has these ends, or nothing was hung in it
abbrev pub HasEnds : (ℕ → Bool) → (ℕ → Bool) → Option Ends → Type 0
HasEnds was is None = (q : ℕ) → was q ≡ false
HasEnds was is (Some ends) = AreEnds was is ends

-- `was` has the lane in which each place was hung, `is` has None in place of those that are gone
pub record AreLinked (was is : List (Option ℕ)) (nexts : List ℕ) (ends : List (Option Ends)) : Type 0 where
  pub long : length is ≡ length was
  pub nexts_long : length nexts ≡ length was
  pub known : (lane q : ℕ) → is_on lane was q ≡ true → lane < length ends
  pub less : (lane q : ℕ) → is_on lane was q ≡ false → is_on lane is q ≡ false
  pub next : (lane p : ℕ) → is_on lane was p ≡ true → IsNext (is_on lane was) p (slice_index_or nexts p 0)
  pub ends_are : (lane : ℕ) → HasEnds (is_on lane was) (is_on lane is) (slice_index_or ends lane None)

-- hooks and ends belong together
abbrev pub AreHooked : List Hook → List (Option Ends) → Type 0
AreHooked hooks ends = AreLinked (map lane_of hooks) (map shown hooks) (map next_of hooks) ends

-- each hook leads to the next of its lane
abbrev pub AreNexts : List Hook → Type 0
AreNexts hooks =
    (lane p : ℕ) → is_on lane (map lane_of hooks) p ≡ true → IsNext (is_on lane (map lane_of hooks)) p (slice_index_or (map next_of hooks) p 0)

-- the place was in the lane, and before it all of the lane is gone
abbrev pub IsFrontOf : List Hook → ℕ → ℕ → Type 0
IsFrontOf hooks lane place = IsFront (is_on lane (map lane_of hooks)) (is_on lane (map shown hooks)) place

-- what hangs at the place is not gone, or the place is the last of its lane
abbrev pub IsStop : List Hook → ℕ → Type 0
IsStop hooks place =
    (lane : ℕ) → is_on lane (map lane_of hooks) place ≡ true → is_on lane (map shown hooks) place ≡ false
    → slice_index_or (map next_of hooks) place 0 ≡ place

-- what was hung at the place is not gone, or it is
abbrev pub IsKept : List Hook → ℕ → Type 0
IsKept hooks place = (lane : ℕ) → is_on lane (map lane_of hooks) place ≡ true → is_on lane (map shown hooks) place ≡ true

-- a place that stands on no lane
abbrev pub IsGone : List Hook → ℕ → Type 0
IsGone hooks place = (lane : ℕ) → is_on lane (map shown hooks) place ≡ false

-- the links after a place joins a lane with these ends: the last place leads to it
abbrev pub led : List ℕ → Option Ends → ℕ → List ℕ
led nexts None place = nexts
led nexts (Some ends) place = slice_set nexts ends.last place

-- the front of a lane with these ends, after a place joined it
abbrev pub front_with : Option Ends → ℕ → ℕ
front_with None place = place
front_with (Some ends) place = ends.front
