-- One place of the line: for whom a region has to wait there, and how links over that place alone lead from region to region.
-- Besides the laws no public clause cites this module.
use Rattle.std.specs.Prelude.{◌≡◌, ℕ, ◌<◌, true, false, ◌⊎◌, List, Contains, length}
use Rattle.region_deps.specs.declared.graph.Link.{Link}
use Rattle.region_deps.specs.declared.segments.Region.{Region}
use Rattle.region_deps.specs.Links.{link}
use Rattle.region_deps.specs.Clashes.{region_at, task_at, Lies}

-- both regions cover the place, the one comes first, and one of them at least writes it (OmpSs-2, task dependences)
pub record ClashAt (regions : List Region) (at k j : ℕ) : Type 0 where
  pub earlier : k < j
  pub one : Lies (region_at regions k) at
  pub other : Lies (region_at regions j) at
  pub written : ((region_at regions k).writes ≡ true) ⊎ ((region_at regions j).writes ≡ true)

-- the region covers the place, and none behind it and before that number writes the place
pub record IsRecent (regions : List Region) (at k upto : ℕ) : Type 0 where
  pub earlier : k < upto
  pub covers : Lies (region_at regions k) at
  pub unwritten : (m : ℕ) → k < m → m < upto → Lies (region_at regions m) at → (region_at regions m).writes ≡ false

-- the one is a region for which the other has to wait at the place: the last writer before it or, where it writes, a reader since
pub record WaitsAt (regions : List Region) (at k j : ℕ) : Type 0 where
  pub clash : ClashAt regions at k j
  pub recent : IsRecent regions at k j

-- the links that the place asks for are there: to the task of each region, from those for which it has to wait at the place
abbrev pub IsLinkedAt : List Region → List Link → ℕ → Type 0
IsLinkedAt regions links at = (k j : ℕ) → WaitsAt regions at k j → Contains links (link k (task_at regions j))

-- a region begins at the place
pub record IsBeginning (regions : List Region) (at : ℕ) : Type 0 where
  pub region : ℕ
  pub within : region < length regions
  pub begins : (region_at regions region).from ≡ at

-- the links that each place where a region begins asks for are there
abbrev pub IsLinkedAll : List Region → List Link → Type 0
IsLinkedAll regions links = (at : ℕ) → IsBeginning regions at → IsLinkedAt regions links at

-- a link from the one region to the task of the other, which both cover the place
pub record IsLinkOver (regions : List Region) (links : List Link) (at k j : ℕ) : Type 0 where
  pub one : Lies (region_at regions k) at
  pub other : Lies (region_at regions j) at
  pub linked : Contains links (link k (task_at regions j))

-- a chain of links over the place, one or more, leads from the region to the task of region j
pub data Reaches (regions : List Region) (links : List Link) (at j : ℕ) : ℕ → Type 0 where
  last : {k : ℕ} → IsLinkOver regions links at k j → Reaches regions links at j k
  on : {k m : ℕ} → IsLinkOver regions links at k m → Reaches regions links at j m → Reaches regions links at j k

-- the regions clash at a place over which the one reaches the task of the other
pub record IsReached (regions : List Region) (links : List Link) (k j : ℕ) : Type 0 where
  pub at : ℕ
  pub clash : ClashAt regions at k j
  pub reaches : Reaches regions links at j k
