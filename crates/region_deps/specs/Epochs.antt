-- The tasks of one rank between two taskwaits as a group, and the links from each group to the next. No public clause cites this module.
use Rattle.std.specs.Prelude.{◌≡◌, ◌==◌, ℕ, ◌+◌, ◌<◌, ◌≤◌, Bool, not, ◌&&◌, cond, ◌⊎◌, List, [], ◌∷◌, Contains, length, map, slice_index}
use Rattle.rt_base.specs.declared.data.TaskDef.{TaskDef}
use Rattle.region_deps.specs.declared.graph.Link.{Link}

-- the rank of a task
abbrev pub rank_at : List TaskDef → ℕ → ℕ
rank_at tasks task = slice_index (map (λ (def : TaskDef). def.rank) tasks) task

-- the epoch of a task
abbrev pub epoch_at : List TaskDef → ℕ → ℕ
epoch_at tasks task = slice_index (map (λ (def : TaskDef). def.epoch) tasks) task

-- both tasks are of one rank, and no taskwait stands between them (OmpSs-2, taskwait)
abbrev pub IsOneGroup : List TaskDef → ℕ → ℕ → Type 0
IsOneGroup tasks one other = (rank_at tasks one ≡ rank_at tasks other) × (epoch_at tasks one ≡ epoch_at tasks other)

-- the first task of a task's group, where the tasks of a group stand together: that of the task before, or the task itself
pub record IsHead (tasks : List TaskDef) (heads : List ℕ) (task head : ℕ) : Type 0 where
  pub low : head ≤ task
  pub goes_on : (before : ℕ) → task ≡ before + 1 → IsOneGroup tasks before task → head ≡ slice_index heads before
  pub begins : ((before : ℕ) → task ≡ before + 1 → ¬ IsOneGroup tasks before task) → head ≡ task

-- for each task the first task of its group
pub record IsGrouped (tasks : List TaskDef) (heads : List ℕ) : Type 0 where
  pub long : length heads ≡ length tasks
  pub each : (task : ℕ) → task < length tasks → IsHead tasks heads task (slice_index heads task)

-- a link to a task from the group before its own, where that is of the same rank: the group is a source behind those of all accesses
pub record IsBarrier (tasks : List TaskDef) (heads : List ℕ) (accesses : ℕ) (l : Link) : Type 0 where
  pub before : ℕ
  pub exists : l.task < length tasks
  pub next : slice_index heads l.task ≡ before + 1
  pub one_rank : rank_at tasks before ≡ rank_at tasks l.task
  pub source : l.source ≡ accesses + slice_index heads before

-- the links to the tasks so far are added, and no others
pub record HasBarriers (tasks : List TaskDef) (heads : List ℕ) (accesses upto : ℕ) (links links' : List Link) : Type 0 where
  pub kept : (l : Link) → Contains links l → Contains links' l
  pub made : (l : Link) → l.task < upto → IsBarrier tasks heads accesses l → Contains links' l
  pub only : (l : Link) → Contains links' l → Contains links l ⊎ IsBarrier tasks heads accesses l

-- how many tasks of the group are not released
abbrev pub held_of : ℕ → List ℕ → List Bool → ℕ
held_of head [] released = 0
held_of head (first ∷ heads) [] = 0
held_of head (first ∷ heads) (is_released ∷ released) = cond ((first == head) && not is_released) 1 0 + held_of head heads released
