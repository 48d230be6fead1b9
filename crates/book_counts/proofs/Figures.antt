-- What a book keeps of the machine's state, and how a task of that state is read from it.
use Rattle.std.proofs.Common.{◌≡◌, ◌≢◌, ℕ, Bool, true, List, length, slice_get, Some, None, Option, refl, sym, ap, ◌∙◌}
use Rattle.std.specs.Prelude.{option_map}
use Rattle.std.proofs.lemmas.List.{length-map}
use Rattle.rt_base.specs.declared.data.ReqNo.{ReqNo}
use Rattle.rt_base.specs.declared.data.Phase.{Phase}
use Rattle.rt_base.specs.declared.data.Phase.TheVariants as phase
use Rattle.rt_base.specs.declared.data.TaskDef.{TaskDef}
use Rattle.rt_base.specs.declared.data.Program.{Program}
use Rattle.rt_base.specs.Exchange.{Exchange}
use Rattle.rt_base.specs.Precedes.{LetGo}
use Rattle.rt_base.specs.State.{State, Task, let_go}
use Rattle.rt_base.specs.WellFormed.{WellFormed}
use Rattle.task_machine.specs.Machine.{bound_at, or_none}
use Rattle.task_machine.specs.Legal.{phases_of}
use Rattle.task_machine.proofs.Lists.{slice_get-map}
use Rattle.tidy_runs.specs.Tidy.{IsTidy, IsTidyTask}
use Rattle.run_bounds.specs.Fits.{FitsProgram}
use Rattle.book_counts.specs.Counted.{IsBinding, IsCounted, IsNumbered}

-- a state, and what a book keeps of it
pub record Figures : Type 0 where
  pub program : Program
  pub state : State
  pub exchange : Exchange
  pub phases : List Phase
  pub handed : List Bool
  pub unreleased : ℕ
  pub waits : List ℕ
  pub posted : List ℕ
  pub marks : List (List Bool)
  pub bound : List ℕ
  pub incomplete : List ℕ

-- what the tasks have let go of
abbrev pub gone_in : Figures → LetGo
gone_in f = let_go f.state.tasks

-- what a task has bound in a state
abbrev pub bound_by : State → ℕ → List ReqNo
bound_by s t = or_none (bound_at s.tasks t)

-- what each task has bound
abbrev pub bound_of : Figures → ℕ → List ReqNo
bound_of f = bound_by f.state

-- the state is one of a program that may be run, and what is kept of it is what it says
pub record AreKept (f : Figures) : Type 0 where
  pub well : WellFormed f.program
  pub fits : FitsProgram f.program f.state
  pub tidy : IsTidy f.program f.state
  pub long : length f.handed ≡ length f.program.tasks.items
  pub phases_are : f.phases ≡ phases_of f.state.tasks
  pub exchange_is : f.exchange ≡ f.state.exchange
  pub begun : (t : ℕ) (at : Phase) → slice_get f.phases t ≡ Some at → at ≢ phase.Waiting → slice_get f.handed t ≡ Some true
  pub counted : IsCounted f.program (gone_in f) f.handed f.phases (bound_of f) f.exchange f.unreleased f.waits
  pub numbered : IsNumbered f.program f.phases f.posted
  pub binding : IsBinding f.program (bound_of f) f.exchange f.marks f.bound f.incomplete

-- a task, as the program and the state have it
pub record Found (f : Figures) (t : ℕ) (def : TaskDef) (task : Task) : Type 0 where
  pub is_def : slice_get f.program.tasks.items t ≡ Some def
  pub is_task : slice_get f.state.tasks t ≡ Some task

-- the task that stands there
pub record Standing (s : State) (t : ℕ) (at : Phase) : Type 0 where
  pub task : Task
  pub is_task : slice_get s.tasks t ≡ Some task
  pub stands : task.phase ≡ at

standing_of : (found : Option Task) (at : Phase) → option_map (λ (z : Task). z.phase) found ≡ Some at → (task : Task) × (found ≡ Some task) × (task.phase ≡ at)
standing_of None at is = absurd (cc)
standing_of (Some task) at is = (task, refl, cc)

pub standing : (s : State) (phases : List Phase) (t : ℕ) (at : Phase) → phases ≡ phases_of s.tasks → slice_get phases t ≡ Some at → Standing s t at
standing s phases t at are here =
    let found = standing_of (slice_get s.tasks t) at
    (sym (slice_get-map (λ (z : Task). z.phase) s.tasks t) ∙ ap (λ (z : List Phase). slice_get z t) (sym are) ∙ here) in
    record { task = found.0; is_task = found.1; stands = found.2 }

-- where a task stands in the state, the phases say so
pub phase_read : (s : State) (phases : List Phase) (t : ℕ) (task : Task) → phases ≡ phases_of s.tasks → slice_get s.tasks t ≡ Some task
    → slice_get phases t ≡ Some task.phase
phase_read s phases t task are is_task =
    ap (λ (z : List Phase). slice_get z t) are ∙ slice_get-map (λ (z : Task). z.phase) s.tasks t ∙ ap (option_map (λ (z : Task). z.phase)) is_task

-- what is bound to a task that is there
pub bound_at_task : (s : State) (t : ℕ) (task : Task) → slice_get s.tasks t ≡ Some task → bound_by s t ≡ task.bound
bound_at_task s t task is_task = ap (λ (o : Option Task). or_none (option_map (λ (z : Task). z.bound) o)) is_task

-- a phase for each task of the program
pub phases_long : (p : Program) (s : State) (phases : List Phase) → FitsProgram p s → phases ≡ phases_of s.tasks → length phases ≡ length p.tasks.items
phases_long p s phases fits are = ap (λ (z : List Phase). length z) are ∙ length-map s.tasks (λ (z : Task). z.phase) ∙ fits.counted

module _ {f : Figures} (kept : AreKept f) where
  pub read_phase : {t : ℕ} {def : TaskDef} {task : Task} {at : Phase} → Found f t def task → task.phase ≡ at → slice_get f.phases t ≡ Some at
  read_phase {t = t} {task = task} here stands = phase_read f.state f.phases t task kept.phases_are here.is_task ∙ ap Some stands

  pub tidy_of : {t : ℕ} {def : TaskDef} {task : Task} → Found f t def task → IsTidyTask f.program f.state t def task
  tidy_of {t = t} {def = def} {task = task} here = kept.tidy t def task here.is_def here.is_task

  pub as_many : length f.phases ≡ length f.program.tasks.items
  as_many = phases_long f.program f.state f.phases kept.fits kept.phases_are
