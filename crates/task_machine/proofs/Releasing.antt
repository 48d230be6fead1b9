-- A release is made where its task has returned and all that is bound to it is complete.
use Rattle.std.proofs.Common.{◌≡◌, ℕ, ◌-◌, ◌≤◌, true, false, List, [], ◌∷◌, length, slice_get, Option, Some, None, refl, sym, ap, ◌∙◌, subst, inl, inr}
use Rattle.rt_base.specs.declared.data.ReqNo.{ReqNo}
use Rattle.rt_base.specs.declared.data.TaskNo.{TaskNo}
use Rattle.rt_base.specs.declared.data.Phase.{Phase}
use Rattle.rt_base.specs.declared.data.Phase.TheVariants as phase
use Rattle.rt_base.specs.declared.data.Op.{Op}
use Rattle.rt_base.specs.declared.data.Op.TheVariants as op
use Rattle.rt_base.specs.declared.data.Entry.{Entry}
use Rattle.rt_base.specs.declared.data.Entry.TheVariants as entry
use Rattle.rt_base.specs.declared.data.TaskDef.{TaskDef}
use Rattle.rt_base.specs.declared.data.Program.{Program}
use Rattle.rt_base.specs.Operations.{task_no}
use Rattle.rt_base.specs.State.{State, Task}
use Rattle.rt_base.specs.MayMove.{MayMove, MayMoveAt, AreComplete}
use Rattle.task_machine.specs.Machine.{Moved, move_at, call_move, poll, polled, step, MayStep}
use Rattle.task_machine.specs.RunLaws.{HasAllComplete}
use Rattle.task_machine.specs.Legal.{caller}
use Rattle.task_machine.proofs.Rows.{move-row}
use Rattle.task_machine.proofs.Runs.{step-task, exists_of_move}
use Rattle.task_machine.proofs.Fronts.{past, step_who}

call_no_release : (p : Program) (s : State) (t : ℕ) (def : TaskDef) (task : Task) (k : ℕ) (o : Option Op) (u : TaskNo) (from count : ℕ)
    → (call_move p s t def task k o).entry ≡ entry.Release u from count → ⊥
call_no_release p s t def task k None u from count e = cc
call_no_release p s t def task k (Some (op.Compute kind dst left right value step)) u from count e = cc
call_no_release p s t def task k (Some (op.Post how span peer tag comm status)) u from count e = cc
call_no_release p s t def task k (Some (op.Await false handles status)) u from count e = cc
call_no_release p s t def task k (Some (op.Await true handles status)) u from count e = cc

row_release : (p : Program) (s : State) (t : ℕ) (def : TaskDef) (task : Task) (at : Phase) (u : TaskNo) (from count : ℕ)
    → slice_get s.tasks t ≡ Some task → task.phase ≡ at → MayMoveAt p s.tasks s.exchange t def task at
    → (move_at p s t def task at).entry ≡ entry.Release u from count → HasAllComplete p s t
row_release p s t def task phase.Waiting u from count is_task stands may e = absurd (cc)
row_release p s t def task (phase.At k) u from count is_task stands may e =
    absurd (call_no_release p s t def task k (slice_get def.body.items k) u from count e)
row_release p s t def task (phase.In k) u from count is_task stands may e = absurd (cc)
row_release p s t def task phase.Ended u from count is_task stands may e = absurd (cc)
row_release p s t def task phase.Returned u from count is_task stands may e =
    record { task = task; is_task = is_task; returned = stands; complete = may }
row_release p s t def task phase.Released u from count is_task stands may e = absurd may

polled_no_release : (s : State) (poller : ℕ) (notices : List ReqNo) (u : TaskNo) (from count : ℕ)
    → (polled s poller notices).entry ≡ entry.Release u from count → ⊥
polled_no_release s poller [] u from count e = cc
polled_no_release s poller (r ∷ rest) u from count e = cc

poll_no_release : (s : State) (poller : ℕ) (u : TaskNo) (from count : ℕ) → (poll s poller).entry ≡ entry.Release u from count → ⊥
unfolding poll
poll_no_release s poller u from count e = polled_no_release s poller s.notices u from count e

step_poll_is : (p : Program) (s : State) (c : ℕ) → length p.tasks.items ≤ c → step p s c ≡ poll s (c - length p.tasks.items)
unfolding step
step_poll_is p s c above = rw (past c (length p.tasks.items) above) refl

pub releases_find : (p : Program) (w : ℕ) (s : State) (c : ℕ) → MayStep p w s c → (t from count : ℕ)
    → (step p s c).entry ≡ entry.Release (task_no t) from count → HasAllComplete p s t
releases_find p w s c may t from count e = elim may [
  | inl moves ↦
      let row = step-task p s c (exists_of_move p s c moves) ∙ move-row p s c moves.def moves.task moves.task.phase moves.is_def moves.is_task refl in
      let found : HasAllComplete p s c =
      row_release p s c moves.def moves.task moves.task.phase (task_no t) from count moves.is_task refl moves.enabled
      (sym (ap (λ (m : Moved). m.entry) row) ∙ e) in
      let who : c ≡ t = sym (step_who p w s c (inl moves)) ∙ ap (caller (length p.tasks.items)) e in
      subst (HasAllComplete p s) who found
  | inr polls ↦
      absurd (poll_no_release s (c - length p.tasks.items) (task_no t) from count
      (sym (ap (λ (m : Moved). m.entry) (step_poll_is p s c polls.poller)) ∙ e))
]
