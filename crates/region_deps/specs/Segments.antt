-- The last writer of a segment and the readers since, and what a region adds to them. No public clause cites this module.
use Rattle.std.specs.Prelude.{◌≡◌, ℕ, ◌<◌, ◌≤◌, Bool, true, false, ◌⊎◌, List, [], ◌∷◌, ◌++◌, Contains, length, slice_index_or, Option, Some, None}
use Rattle.std.specs.Option.{option_to_list}
use Rattle.region_deps.specs.declared.graph.Link.{Link}

-- the region that wrote the segment last, and those that read it since
pub record Since : Type 0 where
  pub writer : Option ℕ
  pub readers : List ℕ

-- the segment before any region
abbrev pub untouched : Since
untouched = record { writer = None; readers = [] }

-- whom a region that writes or reads the segment has to wait for
abbrev pub sources : Since → Bool → List ℕ
sources since true = option_to_list since.writer ++ since.readers
sources since false = option_to_list since.writer

-- the segment after the region with this number
abbrev pub touched : Since → ℕ → Bool → Since
touched since region true = record { writer = Some region; readers = [] }
touched since region false = record { writer = since.writer; readers = since.readers ++ region ∷ [] }

-- the segment with this number
abbrev pub since_at : List Since → ℕ → Since
since_at segments at = slice_index_or segments at untouched

-- a link to the task from one whom it has to wait for in these segments
pub record IsAsked (segments : List Since) (from upto task : ℕ) (writes : Bool) (l : Link) : Type 0 where
  pub at : ℕ
  pub behind : from ≤ at
  pub before : at < upto
  pub to_task : l.task ≡ task
  pub source : Contains (sources (since_at segments at) writes) l.source

-- a region touched the segments from the one number up to the other, and made the links that it asks for
pub record IsTouched (segments segments' : List Since) (from upto region task : ℕ) (writes : Bool) (links links' : List Link) : Type 0 where
  pub long : length segments' ≡ length segments
  pub inside : (at : ℕ) → from ≤ at → at < upto → since_at segments' at ≡ touched (since_at segments at) region writes
  pub outside : (at : ℕ) → (at < from) ⊎ (upto ≤ at) → since_at segments' at ≡ since_at segments at
  pub kept : (l : Link) → Contains links l → Contains links' l
  pub made : (l : Link) → IsAsked segments from upto task writes l → Contains links' l
  pub only : (l : Link) → Contains links' l → Contains links l ⊎ IsAsked segments from upto task writes l
