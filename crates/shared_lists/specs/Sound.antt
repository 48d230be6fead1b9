-- Which lists of steps are sound: each pair may be done after those before it.
use Rattle.std.specs.Prelude.{◌≡◌, ℕ, ◌+◌, ◌^◌, ◌<◌, ◌≤◌, true, false, List, [], ◌∷◌, ◌++◌, length, Some, ⊤}
use Rattle.rt_base.specs.declared.data.Phase.TheVariants as phase
use Rattle.rt_base.specs.declared.data.Program.{Program}
use Rattle.rt_base.specs.Precedes.{MayStart}
use Rattle.rt_base.specs.State.{phase_of, let_go}
use Rattle.task_machine.specs.Machine.{MayStep}
use Rattle.shared_lists.specs.Deeds.{Deed, Move, Offer, Look, Stop, Nothing, deed, state_seen, is_offered, looks, is_stopped}

-- the caller is a poller of so many workers: pollers have the numbers behind the tasks (this project's)
pub record IsPoller (program : Program) (workers : ℕ) (caller : ℕ) : Type 0 where
  pub poller : length program.tasks.items ≤ caller
  pub exists : caller < length program.tasks.items + workers

-- the caller may do this after these pairs. A step is one that the machine allows, and a task starts only after its offer; pollers alone offer, look
-- and stop; a task is offered once, when it may start; there is one stop, and there are at most 2^63 looks
-- (transition systems: an enabled step; OmpSs-2, task dependences)
abbrev pub MayDo : Program → ℕ → List (ℕ × ℕ) → ℕ → Deed → Type 0
MayDo program workers before caller Move =
    MayStep program workers (state_seen program before) caller
    × (phase_of (state_seen program before) caller ≡ Some phase.Waiting → is_offered caller before ≡ true)
MayDo program workers before caller (Offer t) =
    IsPoller program workers caller × MayStart program (let_go (state_seen program before).tasks) t × (is_offered t before ≡ false)
MayDo program workers before caller Look = IsPoller program workers caller × (looks program before < 2 ^ 63)
MayDo program workers before caller Stop = IsPoller program workers caller × (is_stopped program before ≡ false)
MayDo program workers before caller Nothing = ⊥

-- each of the pairs may be done after those before it, where these come first of all
abbrev pub IsSoundAfter : Program → ℕ → List (ℕ × ℕ) → List (ℕ × ℕ) → Type 0
IsSoundAfter program workers before [] = ⊤
IsSoundAfter program workers before (pair ∷ pairs) =
    MayDo program workers before pair.0 (deed (length program.tasks.items) pair.1) × IsSoundAfter program workers (before ++ pair ∷ []) pairs

-- a sound list: each of its pairs may be done after those before it
abbrev pub IsSound : Program → ℕ → List (ℕ × ℕ) → Type 0
IsSound program workers pairs = IsSoundAfter program workers [] pairs
