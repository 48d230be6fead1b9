-- Which tasks must be released before a task may start.
use Rattle.std.specs.Prelude.{◌≡◌, ℕ, ◌<◌, Bool, true, ◌||◌, ◌⊎◌, List, length, slice_get, Some, Any, IsTrue}
use Rattle.rt_base.specs.declared.data.Access.{Access}
use Rattle.rt_base.specs.declared.data.TaskDef.{TaskDef}
use Rattle.rt_base.specs.declared.data.Program.{Program}
use Rattle.rt_base.specs.Spans.{Overlaps, is_written}

-- the regions overlap, and at least one of the two is written (OmpSs-2, task dependences)
abbrev pub Conflict : Access → Access → Type 0
Conflict one other = Overlaps one.span other.span × IsTrue (is_written one.mode || is_written other.mode)

-- the region of an earlier task holds the later task back: it conflicts with one of its regions (OmpSs-2, task dependences)
abbrev pub HoldsBack : Access → TaskDef → Type 0
HoldsBack one later = Any (λ other. Conflict one other) later.accesses.items

-- some region of the earlier task holds the later one back
abbrev pub SharesRegions : TaskDef → TaskDef → Type 0
SharesRegions earlier later = Any (λ one. HoldsBack one later) earlier.accesses.items

-- of two tasks in the order in which they were made, the later one has to wait for the earlier one:
-- they are of one rank, and regions conflict or a taskwait stands between them (OmpSs-2, task dependences and taskwait)
abbrev pub ComesBefore : TaskDef → TaskDef → Type 0
ComesBefore earlier later = (earlier.rank ≡ later.rank) × (SharesRegions earlier later ⊎ (earlier.epoch < later.epoch))

-- task u precedes task t (OmpSs-2, task dependences and taskwait)
pub record Precedes (program : Program) (u t : ℕ) : Type 0 where
  pub earlier : TaskDef
  pub later : TaskDef
  pub is_earlier : slice_get program.tasks.items u ≡ Some earlier
  pub is_later : slice_get program.tasks.items t ≡ Some later
  pub order : u < t
  pub before : ComesBefore earlier later

-- what the tasks have let go of so far: whether each is released (this project's)
pub record LetGo : Type 0 where
  pub released : List Bool

-- what was let go of stays so, and more may be (this project's)
pub record GoneMore (old new : LetGo) : Type 0 where
  pub released : (u : ℕ) → slice_get old.released u ≡ Some true → slice_get new.released u ≡ Some true

-- task t is let past task u, which precedes it: u is released (OmpSs-2, task dependences and taskwait)
abbrev pub LetsPass : Program → LetGo → ℕ → ℕ → Type 0
LetsPass program gone u t = slice_get gone.released u ≡ Some true

-- a waiting task may start: every task that precedes it lets it past (OmpSs-2, task dependences and taskwait)
pub record MayStart (program : Program) (gone : LetGo) (t : ℕ) : Type 0 where
  pub exists : t < length program.tasks.items
  pub freed : (u : ℕ) → Precedes program u t → LetsPass program gone u t
