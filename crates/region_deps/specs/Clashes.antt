-- Regions on one line, which of them clash, and which links an order of them asks for. Besides the laws no public clause cites this module.
use Rattle.std.specs.Prelude.{◌≡◌, ℕ, ◌<◌, ◌≤◌, Bool, true, false, ◌⊎◌, List, Contains, length, slice_index_or}
use Rattle.region_deps.specs.declared.graph.Link.{Link}
use Rattle.region_deps.specs.declared.segments.Region.{Region}
use Rattle.region_deps.specs.Links.{link, IsLetIn}

-- the region beyond all others
abbrev pub nothing : Region
nothing = record { task = 0; from = 0; to = 0; writes = false }

-- the region with this number
abbrev pub region_at : List Region → ℕ → Region
region_at regions k = slice_index_or regions k nothing

-- the task of the region with this number
abbrev pub task_at : List Region → ℕ → ℕ
task_at regions k = (region_at regions k).task

-- the place lies in the region
abbrev pub Lies : Region → ℕ → Type 0
Lies region at = (region.from ≤ at) × (at < region.to)

-- the regions share a place
pub record Meets (one other : Region) : Type 0 where
  pub one_first : one.from < one.to
  pub other_first : other.from < other.to
  pub one_reaches : other.from < one.to
  pub other_reaches : one.from < other.to

-- the regions share a place, the one comes first, and one of them at least is written (OmpSs-2, task dependences)
pub record Clash (regions : List Region) (k j : ℕ) : Type 0 where
  pub earlier : k < j
  pub within : j < length regions
  pub meets : Meets (region_at regions k) (region_at regions j)
  pub written : ((region_at regions k).writes ≡ true) ⊎ ((region_at regions j).writes ≡ true)

-- a region of the task clashes with an earlier one
pub record WaitsFor (regions : List Region) (k task : ℕ) : Type 0 where
  pub region : ℕ
  pub of_task : task_at regions region ≡ task
  pub clash : Clash regions k region

-- what is gone was let in first
abbrev pub IsClosed : List Region → List Link → (ℕ → Bool) → Type 0
IsClosed regions links gone = (k j : ℕ) → j < length regions → Contains links (link k (task_at regions j)) → gone j ≡ true → gone k ≡ true

-- of the regions so far: where a task is let in, every earlier region that clashes with one of its own is gone
abbrev pub IsFullUpto : List Region → List Link → ℕ → Type 0
IsFullUpto regions links done = (gone : ℕ → Bool) → IsClosed regions links gone →
    (k j : ℕ) → j < done → Clash regions k j → IsLetIn links gone (task_at regions j) → gone k ≡ true

-- the same of all regions: the links suffice
abbrev pub IsFull : List Region → List Link → Type 0
IsFull regions links = IsFullUpto regions links (length regions)

-- no link is there for nothing
abbrev pub IsSound : List Region → List Link → Type 0
IsSound regions links = (k task : ℕ) → Contains links (link k task) → WaitsFor regions k task
