-- How what waits hangs in lanes. No public clause cites this module.
use Rattle.std.specs.Prelude.{◌≡◌, true, ℕ, ◌+◌, ◌*◌, ◌≤◌, ◌<◌, Bool, ◌||◌, List, [], ◌∷◌, length, map, slice_set, Option, Some, None}
use Rattle.rt_base.specs.Matching.{Message, Receive}
use Rattle.match_lanes.specs.declared.selector.Selector.{Selector}
use Rattle.match_lanes.specs.declared.doors.Doors.{Doors}
use Rattle.match_lanes.specs.Hung.{Hung, is_lane}
use Rattle.match_lanes.specs.Selectors.{lane_of_receive, doors_of}
use Rattle.match_lanes.specs.Links.{is_on}

-- the lane of what entered as a receive
abbrev pub wish_lane : List Selector → Option Receive → Option ℕ
wish_lane keys None = None
wish_lane keys (Some wish) = lane_of_receive keys wish

-- each receive that waits hangs in its lane, which is known
pub record AreWishes (keys : List Selector) (items : List (Option Receive)) (lanes : Hung) (room : ℕ) : Type 0 where
  pub hang : lanes.lanes ≡ map (wish_lane keys) items
  pub known : (lane place : ℕ) → is_on lane lanes.lanes place ≡ true → lane < length keys
  pub count : lanes.count ≡ length keys + 1
  pub fits : room ≤ lanes.room

-- the four lanes of a message, and four times none where it was taken
abbrev pub four_lanes : List Selector → List (Option Message) → List (Option ℕ)
four_lanes keys [] = []
four_lanes keys (None ∷ items) = None ∷ None ∷ None ∷ None ∷ four_lanes keys items
four_lanes keys (Some message ∷ items) =
    let doors = doors_of keys message in
    Some doors.exact ∷ Some doors.any_source ∷ Some doors.any_tag ∷ Some doors.anything ∷ four_lanes keys items

-- each message that waits hangs in its four lanes
pub record AreMails (keys : List Selector) (items : List (Option Message)) (lanes : Hung) (room : ℕ) : Type 0 where
  pub hang : lanes.lanes ≡ four_lanes keys items
  pub count : lanes.count ≡ length keys + 1
  pub fits : 4 * room ≤ lanes.room

-- these are lanes
pub record AreLanes (count : ℕ) (doors : Doors) : Type 0 where
  pub exact : doors.exact < count
  pub any_source : doors.any_source < count
  pub any_tag : doors.any_tag < count
  pub anything : doors.anything < count

-- what hangs there hangs in one of four lanes
abbrev pub is_any_lane : Doors → Option ℕ → Bool
is_any_lane doors hung = (is_lane doors.exact hung || is_lane doors.any_source hung) || (is_lane doors.any_tag hung || is_lane doors.anything hung)

-- the four hooks of a message with these doors
abbrev pub four_doors : Doors → List (Option ℕ)
four_doors doors = Some doors.exact ∷ Some doors.any_source ∷ Some doors.any_tag ∷ Some doors.anything ∷ []

-- four hooks from this place on are gone
abbrev pub four_gone : List (Option ℕ) → ℕ → List (Option ℕ)
four_gone lanes hook = slice_set (slice_set (slice_set (slice_set lanes hook None) (hook + 1) None) (hook + 2) None) (hook + 3) None
