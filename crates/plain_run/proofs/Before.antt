-- How a record stands right before the move of its task.
use Rattle.std.proofs.Common.{◌≡◌, ◌≢◌, ℕ, Bool, true, List, slice_get, Option, Some, None, refl, sym, ap, ◌∙◌, subst}
use Rattle.std.specs.Prelude.{ℤ}
use Rattle.rt_base.specs.declared.data.Phase.{Phase}
use Rattle.rt_base.specs.declared.data.Phase.TheVariants as phase
use Rattle.rt_base.specs.declared.data.Op.{Op}
use Rattle.rt_base.specs.declared.data.Op.TheVariants as op
use Rattle.rt_base.specs.declared.data.TaskDef.{TaskDef}
use Rattle.rt_base.specs.declared.data.Program.{Program}
use Rattle.rt_base.specs.State.{State, Task}
use Rattle.rt_base.specs.MayMove.{MayMove}
use Rattle.task_local.specs.declared.standing.At.TheVariants as at
use Rattle.task_local.specs.StandsFor.{Record, StandsFor, StandsAs}
use Rattle.task_local.specs.Standing.{def, at_phase, at_operation, moved_on, IsCall, IsAtCall}
use Rattle.task_local.proofs.Stands.{stands_after_moved_on}
use Rattle.book_parts.specs.Ledger.{IsInOperation}
use Rattle.plain_run.specs.Turns.{is_started, HasOperation, IsInLine}
use Rattle.plain_run.proofs.Others.{IsAble, stop_able, stop_is_started}
use Rattle.plain_run.proofs.Lines.{not_released}

-- a record whose task is about to move
pub record IsBefore (p : Program) (s : State) (held : Record) : Type 0 where
  pub stands : StandsFor p held s
  pub able : IsAble (def held) held.phase
  pub started : held.phase ≢ phase.Waiting

-- local operations lead to a call, or to the end
moved_able : (d : TaskDef) (from : Phase) (held : Record) → held.phase ≡ from → HasOperation d from → from ≢ phase.Released
    → IsAble d (moved_on d from held).phase
moved_able d phase.Waiting held is placed unreleased = subst (IsAble d) (sym is) tt
moved_able d (phase.At k) held is placed unreleased = stop_able d k
moved_able d (phase.In k) held is placed unreleased = subst (IsAble d) (sym is) placed
moved_able d phase.Ended held is placed unreleased = subst (IsAble d) (sym is) tt
moved_able d phase.Returned held is placed unreleased = subst (IsAble d) (sym is) tt
moved_able d phase.Released held is placed unreleased = absurd (unreleased refl)

moved_started : (d : TaskDef) (from : Phase) (held : Record) → held.phase ≡ from → from ≢ phase.Waiting → is_started (moved_on d from held).phase ≡ true
moved_started d phase.Waiting held is started = absurd (started refl)
moved_started d (phase.At k) held is started = stop_is_started d k
moved_started d (phase.In k) held is started = ap is_started is
moved_started d phase.Ended held is started = ap is_started is
moved_started d phase.Returned held is started = ap is_started is
moved_started d phase.Released held is started = ap is_started is

moved_def : (d : TaskDef) (from : Phase) (held : Record) → def (moved_on d from held) ≡ def held
moved_def d phase.Waiting held = refl
moved_def d (phase.At k) held = refl
moved_def d (phase.In k) held = refl
moved_def d phase.Ended held = refl
moved_def d phase.Returned held = refl
moved_def d phase.Released held = refl

-- a record of a released task is of a task that can't move
still_holds : (d : TaskDef) (from : Phase) (copy : List ℤ) (task : Task) → StandsAs d from copy task → task.phase ≢ phase.Released → from ≢ phase.Released
still_holds d from copy task stands unreleased = λ released. unreleased (subst (λ (q : Phase). StandsAs d q copy task) released stands).0

pub is_before : (p : Program) (s : State) (handed : List Bool) (t : ℕ) (held mid : Record) → IsInLine p s handed t held
    → held.phase ≢ phase.Waiting → MayMove p s t
    → mid ≡ moved_on (def held) held.phase held → IsBefore p s mid
is_before p s handed t held mid line started may moved =
    let after : Record = moved_on (def held) held.phase held in
    let is_task : slice_get s.tasks t ≡ Some line.stands.task = ap (slice_get s.tasks) (sym line.mine) ∙ line.stands.is_task in
    let unreleased : held.phase ≢ phase.Released = still_holds line.stands.def held.phase held.copy line.stands.task line.stands.stands
    (not_released p s t line.stands.task may is_task) in
    subst (IsBefore p s) (sym moved) (record {
      stands = stands_after_moved_on p held s line.stands;
      able = subst (λ (d : TaskDef). IsAble d after.phase) (sym (moved_def (def held) held.phase held))
          (moved_able (def held) held.phase held refl line.placed unreleased);
      started = λ waits. absurd (cc (moved_started (def held) held.phase held refl started, ap is_started waits));
    })

-- how the task stands before a call
before_call : (k : ℕ) (o : Option Op) → IsCall o → at_operation k o ≡ at.Call k
before_call k None call = absurd call
before_call k (Some (op.Compute kind dst left right value step)) call = absurd (cc call)
before_call k (Some (op.Post how span peer tag comm status)) call = refl
before_call k (Some (op.Await later handles status)) call = refl

-- no task is before a local operation
pub not_local : (d : TaskDef) (from : Phase) → IsAble d from → at_phase d from ≢ at.Local
not_local d phase.Waiting able = λ e. cc
not_local d (phase.At k) able = λ e. absurd (cc (e, before_call k (slice_get d.body.items k) able))
not_local d (phase.In k) able = λ e. cc
not_local d phase.Ended able = λ e. cc
not_local d phase.Returned able = λ e. cc
not_local d phase.Released able = λ e. cc

pub not_fresh : (d : TaskDef) (from : Phase) → IsAble d from → from ≢ phase.Waiting → at_phase d from ≢ at.Fresh
not_fresh d phase.Waiting able started = λ e. started refl
not_fresh d (phase.At k) able started = λ e. absurd (cc (e, before_call k (slice_get d.body.items k) able))
not_fresh d (phase.In k) able started = λ e. cc
not_fresh d phase.Ended able started = λ e. cc
not_fresh d phase.Returned able started = λ e. cc
not_fresh d phase.Released able started = λ e. cc

-- what the standing says of the phase
pub at_call : (d : TaskDef) (from : Phase) (k : ℕ) → IsAble d from → at_phase d from ≡ at.Call k → IsAtCall d from
at_call d phase.Waiting k able is = absurd (cc)
at_call d (phase.At j) k able is = able
at_call d (phase.In j) k able is = absurd (cc)
at_call d phase.Ended k able is = absurd (cc)
at_call d phase.Returned k able is = absurd (cc)
at_call d phase.Released k able is = absurd (cc)

pub in_operation : (d : TaskDef) (from : Phase) (k : ℕ) → IsAble d from → at_phase d from ≡ at.In k → IsInOperation from
in_operation d phase.Waiting k able is = absurd (cc)
in_operation d (phase.At j) k able is = absurd (cc (is, before_call j (slice_get d.body.items j) able))
in_operation d (phase.In j) k able is = tt
in_operation d phase.Ended k able is = absurd (cc)
in_operation d phase.Returned k able is = absurd (cc)
in_operation d phase.Released k able is = absurd (cc)

pub has_ended : (d : TaskDef) (from : Phase) → IsAble d from → at_phase d from ≡ at.Ended → from ≡ phase.Ended
has_ended d phase.Waiting able is = absurd (cc)
has_ended d (phase.At j) able is = absurd (cc (is, before_call j (slice_get d.body.items j) able))
has_ended d (phase.In j) able is = absurd (cc)
has_ended d phase.Ended able is = refl
has_ended d phase.Returned able is = absurd (cc)
has_ended d phase.Released able is = absurd able
