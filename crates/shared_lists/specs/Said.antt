-- What a call says over the list that its pass has seen.
use Rattle.std.specs.Prelude.{◌≡◌, ◌⊎◌, ℕ, ◌+◌, ◌^◌, true, List, [], ◌∷◌, ◌++◌, slice_get, Some}
use Rattle.rt_base.specs.declared.data.Phase.TheVariants as phase
use Rattle.rt_base.specs.declared.data.Program.{Program}
use Rattle.rt_base.specs.MayMove.{MayMove}
use Rattle.rt_base.specs.Precedes.{MayStart}
use Rattle.rt_base.specs.State.{State, phase_of, let_go}
use Rattle.task_local.specs.StandsFor.{Record, StandsFor}
use Rattle.pass_table.specs.Passes.{TableId, PassIs, times}
use Rattle.shared_lists.specs.Deeds.{state_seen, is_offered, looks, is_stopped, look_number, stop_number}
use Rattle.shared_lists.specs.Sound.{IsSound}

-- from the one state to the other nothing was taken from the task: it stands as it stood, and may move if it might (transition systems)
pub record IsStill (program : Program) (t : ℕ) (old new : State) : Type 0 where
  pub task : slice_get new.tasks t ≡ slice_get old.tasks t
  pub may : MayMove program old t → MayMove program new t

-- the call has put one pair of its caller into the list, with this number: it stands last, behind what the pass had seen and what others have done
-- since, and the pass has made one step more and has seen a sound list
pub record Does (program : Program) (workers : ℕ) (old new : PassIs) (number : ℕ) : Type 0 where
  pub table : new.table ≡ old.table
  pub caller : new.caller ≡ old.caller
  pub steps : new.steps ≡ old.steps + 1
  pub sound : IsSound program workers new.seen
  pub since : List (ℕ × ℕ)
  pub alone : times old.caller since ≡ 0
  pub seen : new.seen ≡ (old.seen ++ since) ++ (old.caller, number) ∷ []

-- the call has put nothing into the list: the pass has seen what others have done since, and has made no step
pub record CatchesUp (program : Program) (workers : ℕ) (old new : PassIs) : Type 0 where
  pub table : new.table ≡ old.table
  pub caller : new.caller ≡ old.caller
  pub steps : new.steps ≡ old.steps
  pub sound : IsSound program workers new.seen
  pub since : List (ℕ × ℕ)
  pub alone : times old.caller since ≡ 0
  pub seen : new.seen ≡ old.seen ++ since

-- a look that is left out, where the list has as many looks as it may have
abbrev pub IsLeftOut : Program → ℕ → PassIs → PassIs → Type 0
IsLeftOut program workers old new = CatchesUp program workers old new × (looks program new.seen ≡ 2 ^ 63)

-- the call is a look: it stands last in the list, or is left out where enough looks stand there
abbrev pub Looks : Program → ℕ → PassIs → PassIs → Type 0
Looks program workers old new = Does program workers old new (look_number program) ⊎ IsLeftOut program workers old new

-- after the call a stop stands in the list: its own, which stands last, or an earlier one
abbrev pub Stops : Program → ℕ → PassIs → PassIs → Type 0
Stops program workers old new =
    Does program workers old new (stop_number program) ⊎ (CatchesUp program workers old new × (is_stopped program new.seen ≡ true))

-- each task that may start after these pairs was offered in them (OmpSs-2, task dependences)
abbrev pub NoneLeft : Program → List (ℕ × ℕ) → Type 0
NoneLeft program pairs = (t : ℕ) → MayStart program (let_go (state_seen program pairs).tasks) t → is_offered t pairs ≡ true

-- the pass of a task that was offered and did not start: it names the task, has made no step, and has seen a sound list with the offer, after which the
-- task waits and may start
pub record IsFreshTask (program : Program) (workers : ℕ) (table : TableId) (t : ℕ) (pass : PassIs) : Type 0 where
  pub table_is : pass.table ≡ table
  pub caller : pass.caller ≡ t
  pub steps : pass.steps ≡ 0
  pub sound : IsSound program workers pass.seen
  pub offered : is_offered t pass.seen ≡ true
  pub waits : phase_of (state_seen program pass.seen) t ≡ Some phase.Waiting
  pub may : MayStart program (let_go (state_seen program pass.seen).tasks) t

-- the pass and the record of a task that a worker has: the pass names the record's task and has seen a sound list, after which the record stands for it
pub record IsLiveTask (program : Program) (workers : ℕ) (table : TableId) (rec : Record) (pass : PassIs) : Type 0 where
  pub table_is : pass.table ≡ table
  pub caller : pass.caller ≡ rec.task
  pub sound : IsSound program workers pass.seen
  pub stands : StandsFor program rec (state_seen program pass.seen)
