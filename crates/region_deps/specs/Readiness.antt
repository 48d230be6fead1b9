-- What contracts see of the dependency graph.
use Rattle.std.specs.Prelude.{◌≡◌, ℕ, Bool, false, List, length, replicate, slice_get, Some}
use Rattle.rt_base.specs.declared.data.Program.{Program}
use Rattle.rt_base.specs.Precedes.{LetGo, MayStart}

-- the program, which of its tasks were handed out, and what they have let go of (this project's)
pub record Readiness : Type 0 where
  pub program : Program
  pub handed : List Bool
  pub gone : LetGo

-- each task of the program has its place in both lists
pub record IsWhole (ready : Readiness) : Type 0 where
  pub handed : length ready.handed ≡ length ready.program.tasks.items
  pub released : length ready.gone.released ≡ length ready.program.tasks.items

-- no task was handed out, and none is released
abbrev pub none_handed_out : Program → Readiness
none_handed_out program = record {
  program = program;
  handed = replicate (length program.tasks.items) false;
  gone = record { released = replicate (length program.tasks.items) false };
}

-- a task that may start was not handed out (this project's)
abbrev pub IsStartable : Readiness → ℕ → Type 0
IsStartable ready t = (slice_get ready.handed t ≡ Some false) × MayStart ready.program ready.gone t
