-- How the graph keeps its links, its counts and its list of startable tasks. No public clause cites this module.
use Rattle.std.specs.Prelude.{◌≡◌, ◌==◌, ℕ, zero, suc, ◌+◌, ◌<◌, ◌≤◌, Bool, true, false, cond, List, [], ◌∷◌, All, length, count_by, slice_index_or}
use Rattle.std.specs.Prelude.{slice_range}
use Rattle.region_deps.specs.declared.graph.Link.{Link}
use Rattle.region_deps.specs.Links.{is_to, is_between, holds, IsWithin}

-- how often a task stands in the list of startable tasks: once where nothing holds it and it was not handed out
abbrev pub due : ℕ → Bool → ℕ
due zero handed = cond handed 0 1
due (suc left) handed = 0

-- whether something is still waited for, of so many things
abbrev pub is_waited_for : ℕ → Bool
is_waited_for zero = false
is_waited_for (suc left) = true

-- the task, where nothing holds it
abbrev pub offered : ℕ → ℕ → List ℕ
offered task zero = task ∷ []
offered task (suc left) = []

-- the list has each startable task once and nothing else
pub record IsQueued (left : List ℕ) (handed : List Bool) (startable : List ℕ) : Type 0 where
  pub each : (task : ℕ) → task < length left →
      count_by (λ x. x == task) startable ≡ due (slice_index_or left task 1) (slice_index_or handed task true)
  pub started : (task : ℕ) → task < length left → slice_index_or handed task true ≡ true → slice_index_or left task 1 ≡ 0
  pub within : All (λ task. task < length left) startable
  pub lengths : length handed ≡ length left

-- the list has room for each task that still waits
abbrev pub HasRoom : List ℕ → List ℕ → ℕ → Type 0
HasRoom left startable capacity = length startable + count_by is_waited_for left ≤ capacity

-- the links of the source stand together, from its place up to that of the next source
pub record HasPlace (links : List Link) (first : List ℕ) (source : ℕ) : Type 0 where
  pub order : slice_index_or first source 0 ≤ slice_index_or first (source + 1) 0
  pub inside : slice_index_or first (source + 1) 0 ≤ length links
  pub parts : (task : ℕ) → count_by (is_to task) (slice_range links (slice_index_or first source 0) (slice_index_or first (source + 1) 0)) ≡ count_by
      (is_between source task) links

-- the links of lower sources stand before this place, and the others from it on
pub record IsPlace (links : List Link) (source place : ℕ) : Type 0 where
  pub within : place ≤ length links
  pub below : (k : ℕ) (d : Link) → k < place → (slice_index_or links k d).source < source
  pub above : (k : ℕ) (d : Link) → place ≤ k → k < length links → source ≤ (slice_index_or links k d).source

-- what a graph keeps of its links
pub record IsGraph (links : List Link) (first : List ℕ) (gone handed : List Bool) (left startable : List ℕ) (capacity : ℕ) : Type 0 where
  pub ends : All (IsWithin (length gone) (length handed)) links
  pub places : length first ≡ length gone + 1
  pub place : (source : ℕ) → source < length gone → HasPlace links first source
  pub counted : (task : ℕ) → task < length left → slice_index_or left task 1 ≡ count_by (holds gone task) links
  pub queued : IsQueued left handed startable
  pub room : HasRoom left startable capacity
  pub numbered : length handed < 4294967296
