-- How the dependency graph keeps what the order of tasks asks. No public clause cites this module.
use Rattle.std.specs.Prelude.{◌≡◌, ◌==◌, ℕ, ◌+◌, ◌<◌, ◌≤◌, Bool, true, false, ◌⊎◌, List, All, AllPairs, Contains, length, sum_by, slice_get}
use Rattle.std.specs.Prelude.{slice_index, slice_index_or, Some}
use Rattle.rt_base.specs.declared.data.TaskDef.{TaskDef}
use Rattle.rt_base.specs.WellFormed.{InOrder}
use Rattle.region_deps.specs.declared.graph.Link.{Link}
use Rattle.region_deps.specs.Links.{is_gone, IsLetIn, Waiting}
use Rattle.region_deps.specs.Clashes.{task_at, WaitsFor, IsFull}
use Rattle.region_deps.specs.Lines.{regions_from, access_count, accesses_before, IsSmallTask, IsApart}
use Rattle.region_deps.specs.Epochs.{IsGrouped, IsBarrier, held_of}

-- what the graph asks of the tasks: they and their accesses can be numbered, the accesses of one task share no cell,
-- and the tasks stand in the order of rank and epoch
pub record IsOrderly (tasks : List TaskDef) : Type 0 where
  pub few : sum_by access_count tasks + length tasks < 4294967296
  pub apart : All IsApart tasks
  pub order : AllPairs InOrder tasks

-- how many accesses the tasks have
abbrev pub region_count : List TaskDef → ℕ
region_count tasks = length (regions_from 0 tasks)

-- the sources of a range are gone, and all else is as before
pub record IsGone (before after : Waiting) (from upto : ℕ) : Type 0 where
  pub links : after.links ≡ before.links
  pub handed : after.handed ≡ before.handed
  pub long : length after.gone ≡ length before.gone
  pub inside : (source : ℕ) → from ≤ source → source < upto → is_gone after.gone source ≡ true
  pub outside : (source : ℕ) → (source < from) ⊎ (upto ≤ source) → is_gone after.gone source ≡ is_gone before.gone source

-- the source is gone where this is so, and all else is as before
pub record IsGoneIf (before after : Waiting) (source : ℕ) (now : Bool) : Type 0 where
  pub links : after.links ≡ before.links
  pub handed : after.handed ≡ before.handed
  pub long : length after.gone ≡ length before.gone
  pub goes : now ≡ true → is_gone after.gone source ≡ true
  pub stays : now ≡ false → is_gone after.gone source ≡ is_gone before.gone source
  pub outside : (other : ℕ) → (other ≡ source → ⊥) → is_gone after.gone other ≡ is_gone before.gone other

-- the links are those that the program asks for
pub record IsLinkedUp (tasks : List TaskDef) (links : List Link) (heads : List ℕ) : Type 0 where
  pub full : IsFull (regions_from 0 tasks) links
  pub sound : (l : Link) → Contains links l → WaitsFor (regions_from 0 tasks) l.source l.task ⊎ IsBarrier tasks heads (region_count tasks) l
  pub barriers : (l : Link) → IsBarrier tasks heads (region_count tasks) l → Contains links l
  pub grouped : IsGrouped tasks heads

-- the accesses of released tasks are gone, the groups with no task left are gone, and what was handed out was let in
pub record IsUpToDate (tasks : List TaskDef) (w : Waiting) (first heads waiting : List ℕ) (released : List Bool) : Type 0 where
  pub orderly : IsOrderly tasks
  pub small : All IsSmallTask tasks
  pub linked : IsLinkedUp tasks w.links heads
  pub first_long : length first ≡ length tasks + 1
  pub starts : (task : ℕ) → task ≤ length tasks → slice_index first task ≡ accesses_before tasks task
  pub sources : length w.gone ≡ region_count tasks + length tasks
  pub handed_long : length w.handed ≡ length tasks
  pub released_long : length released ≡ length tasks
  pub waiting_long : length waiting ≡ length tasks
  pub regions_gone : (k : ℕ) → k < region_count tasks → is_gone w.gone k ≡ slice_index_or released (task_at (regions_from 0 tasks) k) false
  pub groups_gone : (task : ℕ) → task < length tasks → is_gone w.gone (region_count tasks + slice_index heads task) ≡
      (slice_index waiting (slice_index heads task) == 0)
  pub counted : (head : ℕ) → head < length tasks → slice_index waiting head ≡ held_of head heads released
  pub let_in : (task : ℕ) → slice_get w.handed task ≡ Some true → IsLetIn w.links (is_gone w.gone) task
  pub started : (task : ℕ) → slice_get released task ≡ Some true → slice_get w.handed task ≡ Some true
