-- Links from sources to the tasks that wait for them, and what a graph of them is seen as. Besides the laws no public clause cites this module.
use Rattle.std.specs.Prelude.{◌≡◌, ◌==◌, ℕ, ◌<◌, Bool, true, false, not, ◌&&◌, List, Contains, slice_get, slice_index_or, Some}
use Rattle.region_deps.specs.declared.graph.Link.{Link}

-- the task waits until the source is gone
abbrev pub link : ℕ → ℕ → Link
link source task = record { source = source; task = task }

-- the source is gone
abbrev pub is_gone : List Bool → ℕ → Bool
is_gone gone source = slice_index_or gone source false

-- the link leads to this task
abbrev pub is_to : ℕ → Link → Bool
is_to task l = l.task == task

-- the link leads from this source to this task
abbrev pub is_between : ℕ → ℕ → Link → Bool
is_between source task l = (l.source == source) && (l.task == task)

-- the link leads to this task from a source that isn't gone
abbrev pub holds : List Bool → ℕ → Link → Bool
holds gone task l = (l.task == task) && not (is_gone gone l.source)

-- every source that is linked to the task is gone
abbrev pub IsLetIn : List Link → (ℕ → Bool) → ℕ → Type 0
IsLetIn links gone task = (source : ℕ) → Contains links (link source task) → gone source ≡ true

-- the links, which sources are gone, and which tasks were handed out
pub record Waiting : Type 0 where
  pub links : List Link
  pub gone : List Bool
  pub handed : List Bool

-- a task that was not handed out and that every source has let in
pub record IsOpen (waiting : Waiting) (task : ℕ) : Type 0 where
  pub waits : slice_get waiting.handed task ≡ Some false
  pub let_in : IsLetIn waiting.links (is_gone waiting.gone) task

-- both ends of a link exist
pub record IsWithin (sources tasks : ℕ) (l : Link) : Type 0 where
  pub source : l.source < sources
  pub task : l.task < tasks
