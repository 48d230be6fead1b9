-- A task's local operations leave it as it is to all others, and before its next step.
use Rattle.std.proofs.Common.{◌≡◌, ◌⊎◌, ℕ, zero, suc, ◌+◌, List, [], ◌∷◌, drop, slice_get, Option, Some, None, refl, sym, ap, ◌∙◌, subst, inl, inr, drop-drop}
use Rattle.std.specs.Prelude.{ℤ}
use Rattle.rt_base.specs.declared.data.Phase.{Phase}
use Rattle.rt_base.specs.declared.data.Phase.TheVariants as phase
use Rattle.rt_base.specs.declared.data.Op.{Op}
use Rattle.rt_base.specs.declared.data.Op.TheVariants as op
use Rattle.rt_base.specs.declared.data.TaskDef.{TaskDef}
use Rattle.rt_base.specs.declared.data.Program.{Program}
use Rattle.rt_base.specs.State.{State, Task}
use Rattle.rt_base.specs.MayMove.{MayMove, MayMoveAt}
use Rattle.task_local.specs.Local.{stop, stop_at, advanced}
use Rattle.task_local.specs.StandsFor.{Record, StandsFor, StandsAs}
use Rattle.task_local.specs.Standing.{def, moved_on, IsCall}
use Rattle.task_local.proofs.Stands.{stands_after_moved_on}
use Rattle.task_machine.proofs.Items.{same_some}
use Rattle.pass_table.specs.Passes.{TableId, PassIs}
use Rattle.shared_lists.specs.Deeds.{state_seen}
use Rattle.shared_lists.specs.Said.{IsLiveTask}
use Rattle.shared_tasks.specs.Values.{LiveIs}
use Rattle.shared_tasks.specs.Keeping.{Issued, IsLive, IsAble}
use Rattle.worker_acts.specs.Acts.{IsBeforeStep}

-- what stands at the front of the rest of a list
at_drop : {X : Type 0} (xs : List X) (k : ℕ) (x : X) (rest : List X) → drop k xs ≡ x ∷ rest → slice_get xs k ≡ Some x
at_drop [] zero x rest here = absurd (cc)
at_drop [] (suc k) x rest here = absurd (cc)
at_drop (y ∷ ys) zero x rest here = cc
at_drop (y ∷ ys) (suc k) x rest here = at_drop ys k x rest here

rest_after : (k : ℕ) (ops rest : List Op) (x : Op) → drop k ops ≡ x ∷ rest → drop (k + 1) ops ≡ rest
rest_after k ops rest x here = sym (drop-drop 1 k ops) ∙ ap (λ (xs : List Op). drop 1 xs) here

-- local operations end at a call or at the end of the body
stops_before : (def : TaskDef) (k : ℕ) (ops : List Op) → drop k def.body.items ≡ ops → IsBeforeStep def (stop_at k ops)
stops_before def k [] here = tt
stops_before def k (op.Compute kind dst left right value step ∷ ops) here = stops_before def (k + 1) ops
    (rest_after k def.body.items ops (op.Compute kind dst left right value step) here)
stops_before def k (op.Post how span peer tag comm status ∷ ops) here =
    subst IsCall (sym (at_drop def.body.items k (op.Post how span peer tag comm status) ops here)) refl
stops_before def k (op.Await later handles status ∷ ops) here =
    subst IsCall (sym (at_drop def.body.items k (op.Await later handles status) ops here)) refl

stop_before : (def : TaskDef) (k : ℕ) → IsBeforeStep def (stop def k)
unfolding stop
stop_before def k = stops_before def k (drop k def.body.items) refl

-- before a step that is a call or a return, holders have issued what they had before the local operations
issued_stop : (at : Phase) (k : ℕ) (pause events bound : List ℕ) → ((j : ℕ) × (at ≡ phase.At j)) ⊎ (at ≡ phase.Ended)
    → Issued (phase.At k) pause events bound → Issued at pause events bound
issued_stop at k pause events bound (inl (j, is)) issued = subst (λ (p : Phase). Issued p pause events bound) (sym is) issued
issued_stop at k pause events bound (inr is) issued = subst (λ (p : Phase). Issued p pause events bound) (sym is) issued

stops_there : (k : ℕ) (ops : List Op) → ((j : ℕ) × (stop_at k ops ≡ phase.At j)) ⊎ (stop_at k ops ≡ phase.Ended)
stops_there k [] = inr refl
stops_there k (op.Compute kind dst left right value step ∷ ops) = stops_there (k + 1) ops
stops_there k (op.Post how span peer tag comm status ∷ ops) = inl (k, refl)
stops_there k (op.Await later handles status ∷ ops) = inl (k, refl)

stop_there : (def : TaskDef) (k : ℕ) → ((j : ℕ) × (stop def k ≡ phase.At j)) ⊎ (stop def k ≡ phase.Ended)
unfolding stop
stop_there def k = stops_there k (drop k def.body.items)

-- a task that may move is not released
not_released : (p : Program) (s : State) (rec : Record) → StandsFor p rec s → MayMove p s rec.task → rec.phase ≡ phase.Released → ⊥
not_released p s rec stands may released =
    let there = (subst (λ (at : Phase). StandsAs stands.def at rec.copy stands.task) released stands.stands).0 in
    let same : may.task ≡ stands.task = same_some (sym may.is_task ∙ stands.is_task) in
    subst (λ (at : Phase). MayMoveAt p s.tasks s.exchange rec.task may.def may.task at) (ap (λ (x : Task). x.phase) same ∙ there) may.enabled

-- the task with this record is as able as it was, and before its next step
pub record HasRun (p : Program) (workers : ℕ) (table site : TableId) (live : LiveIs) (rec : Record) : Type 0 where
  pub keeps : IsLive p workers table site (record live { rec = rec })
  pub able : IsAble p (record live { rec = rec })
  pub before : IsBeforeStep (def rec) rec.phase

ran : (p : Program) (workers : ℕ) (table site : TableId) (live : LiveIs) (from : Phase) → live.rec.phase ≡ from → IsLive p workers table site live
    → IsAble p live → StandsFor p (moved_on (def live.rec) from live.rec) (state_seen p live.pass.seen)
    → HasRun p workers table site live (moved_on (def live.rec) from live.rec)
ran p workers table site live phase.Waiting is keeps able stands = absurd (rw is at keeps.issued)
ran p workers table site live (phase.At k) is keeps able stands = record {
  keeps = record {
    task = record { table_is = keeps.task.table_is; caller = keeps.task.caller; sound = keeps.task.sound; stands = stands };
    pause = keeps.pause;
    events = keeps.events;
    issued = issued_stop (stop (def live.rec) k) k live.pause.issued live.events.issued _ (stop_there (def live.rec) k) (rw is at keeps.issued);
  };
  able = record { may = able.may; idle = able.idle };
  before = stop_before (def live.rec) k;
}
ran p workers table site live (phase.In k) is keeps able stands =
    record { keeps = keeps; able = able; before = subst (IsBeforeStep (def live.rec)) (sym is) tt }
ran p workers table site live phase.Ended is keeps able stands = record { keeps = keeps; able = able; before = subst (IsBeforeStep (def live.rec)) (sym is) tt }
ran p workers table site live phase.Returned is keeps able stands =
    record { keeps = keeps; able = able; before = subst (IsBeforeStep (def live.rec)) (sym is) tt }
ran p workers table site live phase.Released is keeps able stands =
    absurd (not_released p (state_seen p live.pass.seen) live.rec keeps.task.stands able.may is)

pub has_run : (p : Program) (workers : ℕ) (table site : TableId) (live : LiveIs) → IsLive p workers table site live → IsAble p live
    → HasRun p workers table site live (moved_on (def live.rec) live.rec.phase live.rec)
has_run p workers table site live keeps able =
    ran p workers table site live live.rec.phase refl keeps able (stands_after_moved_on p live.rec (state_seen p live.pass.seen) keeps.task.stands)
