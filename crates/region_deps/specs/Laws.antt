-- What follows from the last writer and the readers since, for any regions in order: first at one place, then over all of them.
use Rattle.std.specs.Prelude.{ℕ, List}
use Rattle.region_deps.specs.declared.graph.Link.{Link}
use Rattle.region_deps.specs.declared.segments.Region.{Region}
use Rattle.region_deps.specs.Clashes.{Clash, IsFull}
use Rattle.region_deps.specs.Chains.{ClashAt, IsLinkedAt, IsLinkedAll, Reaches, IsReached}

-- at one place whose links are there an earlier region that clashes with a later one reaches the later one's task, through links over that place alone
abbrev pub OnePlaceReaches : Type 0
OnePlaceReaches =
    (regions : List Region) (links : List Link) (at : ℕ) → IsLinkedAt regions links at
    → (k j : ℕ) → ClashAt regions at k j → Reaches regions links at j k

-- over all places: of any two regions that clash the earlier so reaches the later one's task, over a place that both cover
abbrev pub EachClashIsReached : Type 0
EachClashIsReached =
    (regions : List Region) (links : List Link) → IsLinkedAll regions links
    → (k j : ℕ) → Clash regions k j → IsReached regions links k j

-- so, where a region is gone only once each one linked to its task is, a task is let in only where each earlier region that clashes
-- with one of its own is gone
abbrev pub LinksSuffice : Type 0
LinksSuffice = (regions : List Region) (links : List Link) → IsLinkedAll regions links → IsFull regions links
