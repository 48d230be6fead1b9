-- What receives are sought by, and the lane of each selector.
use Rattle.std.specs.Prelude.{◌≡◌, ℕ, ◌<◌, ◌==◌, ◌&&◌, Bool, true, false, List, [], ◌∷◌, ◌++◌, length, Option, Some, None, option_map, if◌then◌else◌}
use Rattle.std.specs.List.{position_or_len, list_any}
use Rattle.rt_base.specs.declared.data.Peer.{Peer}
use Rattle.rt_base.specs.declared.data.Peer.TheVariants as peer
use Rattle.rt_base.specs.declared.data.TagSel.{TagSel}
use Rattle.rt_base.specs.declared.data.TagSel.TheVariants as tag
use Rattle.rt_base.specs.Matching.{Message, Receive}
use Rattle.match_lanes.specs.declared.selector.Wanted.{Wanted}
use Rattle.match_lanes.specs.declared.selector.Wanted.TheVariants as wanted
use Rattle.match_lanes.specs.declared.selector.Selector.{Selector}
use Rattle.match_lanes.specs.declared.doors.Doors.{Doors}

-- the source that a receive names, or any; the null process is no source (MPI 4.0, 3.2.4 and 3.11)
abbrev pub wanted_source : Peer → Option Wanted
wanted_source (peer.Rank rank) = Some (wanted.Only rank)
wanted_source peer.Any = Some wanted.Any
wanted_source peer.Null = None

-- the tag that a receive names, or any (MPI 4.0, 3.2.4)
abbrev pub wanted_tag : TagSel → Wanted
wanted_tag (tag.Tag chosen) = wanted.Only chosen
wanted_tag tag.Any = wanted.Any

-- the selector of a receive (this project's)
abbrev pub selector_by : ℕ → Peer → TagSel → Option Selector
selector_by comm source selected = option_map (λ from. record { comm = comm; source = from; tag = wanted_tag selected }) (wanted_source source)

-- the selector of a receive; one from no process has none (MPI 4.0, 3.2.4 and 3.10)
abbrev pub selector_of : Receive → Option Selector
selector_of wish = selector_by wish.comm wish.source wish.tag

-- the four selectors that accept a message of this communicator, source and tag (MPI 4.0, 3.2.4)
abbrev pub exact : ℕ → ℕ → ℕ → Selector
exact comm source sent = record { comm = comm; source = wanted.Only source; tag = wanted.Only sent }

-- any source with this tag (MPI 4.0, 3.2.4)
abbrev pub any_source : ℕ → ℕ → Selector
any_source comm sent = record { comm = comm; source = wanted.Any; tag = wanted.Only sent }

-- any tag from this source (MPI 4.0, 3.2.4)
abbrev pub any_tag : ℕ → ℕ → Selector
any_tag comm source = record { comm = comm; source = wanted.Only source; tag = wanted.Any }

-- any source with any tag of a communicator (MPI 4.0, 3.2.4)
abbrev pub anything : ℕ → Selector
anything comm = record { comm = comm; source = wanted.Any; tag = wanted.Any }

-- both name the same
abbrev pub is_same_wanted : Wanted → Wanted → Bool
is_same_wanted (wanted.Only one) (wanted.Only other) = one == other
is_same_wanted (wanted.Only one) wanted.Any = false
is_same_wanted wanted.Any (wanted.Only other) = false
is_same_wanted wanted.Any wanted.Any = true

-- whether two selectors are one
abbrev pub is_same : Selector → Selector → Bool
is_same one other = (one.comm == other.comm) && (is_same_wanted one.source other.source && is_same_wanted one.tag other.tag)

-- the lane of a selector: its place among the known ones, and the lane behind them all where it isn't known (this project's)
abbrev pub lane_in : List Selector → Selector → ℕ
lane_in keys selector = position_or_len (is_same selector) keys

-- the known selectors, and this one, unless it is known
abbrev pub with_selector : List Selector → Selector → List Selector
with_selector keys selector = if list_any (is_same selector) keys then keys else keys ++ selector ∷ []

-- the lanes in which a message hangs
abbrev pub doors_by : List Selector → ℕ → ℕ → ℕ → Doors
doors_by keys comm source sent = record {
  exact = lane_in keys (exact comm source sent);
  any_source = lane_in keys (any_source comm sent);
  any_tag = lane_in keys (any_tag comm source);
  anything = lane_in keys (anything comm);
}

-- the lanes of a message: at most one for each of the four kinds of selectors that accept it
abbrev pub doors_of : List Selector → Message → Doors
doors_of keys message = doors_by keys message.comm message.source message.tag

-- the lane in which a receive hangs
abbrev pub lane_of_receive : List Selector → Receive → Option ℕ
lane_of_receive keys wish = option_map (lane_in keys) (selector_of wish)

-- the selector of the receive is known, and this is its lane
pub record IsItsLane (keys : List Selector) (wish : Receive) (lane : ℕ) : Type 0 where
  pub is : lane_of_receive keys wish ≡ Some lane
  pub known : lane < length keys
