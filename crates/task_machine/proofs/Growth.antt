-- What is let go of stays so.
use Rattle.std.proofs.Common.{◌≡◌, ℕ, ◌-◌, ◌≤◌, Bool, true, false, List, [], ◌∷◌, slice_get, slice_set, length, option_map, Option, Some, None, refl}
use Rattle.std.proofs.Common.{sym, ap, ◌∙◌, subst, inl, inr}
use Rattle.rt_base.specs.declared.data.ReqNo.{ReqNo}
use Rattle.rt_base.specs.declared.data.Phase.{Phase}
use Rattle.rt_base.specs.declared.data.Phase.TheVariants as phase
use Rattle.rt_base.specs.declared.data.Op.{Op}
use Rattle.rt_base.specs.declared.data.Op.TheVariants as op
use Rattle.rt_base.specs.declared.data.TaskDef.{TaskDef}
use Rattle.rt_base.specs.declared.data.Program.{Program}
use Rattle.rt_base.specs.Precedes.{LetGo, GoneMore, MayStart}
use Rattle.rt_base.specs.State.{State, Task, let_go, is_released}
use Rattle.rt_base.specs.MayMove.{MayMove, MayMoveAt}
use Rattle.task_machine.specs.Machine.{Moved, move, move_at, call_move, poll, polled, step, MayStep}
use Rattle.task_machine.proofs.Rows.{move-row}
use Rattle.task_machine.proofs.Lists.{slice_get-set_other, slice_get-map}
use Rattle.task_machine.proofs.Items.{either_place}
use Rattle.task_machine.proofs.Runs.{step-task, exists_of_move}
use Rattle.task_machine.proofs.Fronts.{past}

pub starts_more : (p : Program) (old new : LetGo) (t : ℕ) → GoneMore old new → MayStart p old t → MayStart p new t
starts_more p old new t more may = record { exists = may.exists; freed = λ u before. more.released u (may.freed u before) }

abbrev released_task : Task → Bool
released_task task = is_released task.phase

-- a task that was not released has changed, and nothing that was let go of with it
gone_set : (tasks : List Task) (t : ℕ) (was now : Task) → slice_get tasks t ≡ Some was → is_released was.phase ≡ false
    → GoneMore (let_go tasks) (let_go (slice_set tasks t now))
gone_set tasks t was now here held = record {
  released = λ u gone.
      elim (either_place u t) [
        | inl same ↦
            let read = slice_get-map released_task tasks u in
            let own = ap (λ (v : ℕ). option_map released_task (slice_get tasks v)) same ∙ ap (λ (o : Option Task). option_map released_task o) here in
            let both : Some true ≡ Some false = sym gone ∙ read ∙ own ∙ ap (λ (b : Bool). Some b) held in
            absurd (cc)
        | inr other ↦
            slice_get-map released_task (slice_set tasks t now) u
            ∙ ap (λ (o : Option Task). option_map released_task o) (slice_get-set_other tasks t u now other)
            ∙ sym (slice_get-map released_task tasks u) ∙ gone
      ];
}

gone_as : (old new : List Task) → new ≡ old → GoneMore (let_go old) (let_go new)
gone_as old new same = record { released = λ u gone. ap (λ (tasks : List Task). slice_get (let_go tasks).released u) same ∙ gone }

pub gone_by : (tasks new : List Task) (t : ℕ) (was now : Task) → slice_get tasks t ≡ Some was → is_released was.phase ≡ false → new ≡ slice_set tasks t now
    → GoneMore (let_go tasks) (let_go new)
gone_by tasks new t was now here held same = subst (λ (xs : List Task). GoneMore (let_go tasks) (let_go xs)) (sym same) (gone_set tasks t was now here held)

call_lets_go : (p : Program) (s : State) (t : ℕ) (def : TaskDef) (task : Task) (k : ℕ) (operation : Option Op) → slice_get s.tasks t ≡ Some task
    → is_released task.phase ≡ false → GoneMore (let_go s.tasks) (let_go (call_move p s t def task k operation).state.tasks)
call_lets_go p s t def task k None here held = gone_as s.tasks s.tasks refl
call_lets_go p s t def task k (Some (op.Compute kind dst left right value step)) here held = gone_as s.tasks s.tasks refl
call_lets_go p s t def task k (Some (op.Post how span peer tag comm status)) here held = gone_by s.tasks _ t task _ here held refl
call_lets_go p s t def task k (Some (op.Await true handles status)) here held = gone_by s.tasks _ t task _ here held refl
call_lets_go p s t def task k (Some (op.Await false handles status)) here held = gone_by s.tasks _ t task _ here held refl

row_lets_go : (p : Program) (s : State) (t : ℕ) (def : TaskDef) (task : Task) (at : Phase) → slice_get s.tasks t ≡ Some task
    → task.phase ≡ at → is_released at ≡ false → GoneMore (let_go s.tasks) (let_go (move_at p s t def task at).state.tasks)
row_lets_go p s t def task phase.Waiting here stands held = gone_by s.tasks _ t task _ here (ap is_released stands ∙ held) refl
row_lets_go p s t def task (phase.At k) here stands held = call_lets_go p s t def task k (slice_get def.body.items k) here (ap is_released stands ∙ held)
row_lets_go p s t def task (phase.In k) here stands held = gone_by s.tasks _ t task _ here (ap is_released stands ∙ held) refl
row_lets_go p s t def task phase.Ended here stands held = gone_by s.tasks _ t task _ here (ap is_released stands ∙ held) refl
row_lets_go p s t def task phase.Returned here stands held = gone_by s.tasks _ t task _ here (ap is_released stands ∙ held) refl
row_lets_go p s t def task phase.Released here stands held = gone_as s.tasks s.tasks refl

-- a task that may move is not released
moving_held : (p : Program) (s : State) (t : ℕ) (def : TaskDef) (task : Task) (at : Phase) → MayMoveAt p s.tasks s.exchange t def task at
    → is_released at ≡ false
moving_held p s t def task phase.Waiting may = refl
moving_held p s t def task (phase.At k) may = refl
moving_held p s t def task (phase.In k) may = refl
moving_held p s t def task phase.Ended may = refl
moving_held p s t def task phase.Returned may = refl
moving_held p s t def task phase.Released may = absurd may

move_lets_go : (p : Program) (s : State) (t : ℕ) → MayMove p s t → GoneMore (let_go s.tasks) (let_go (move p s t).state.tasks)
move_lets_go p s t may =
    subst (λ (m : Moved). GoneMore (let_go s.tasks) (let_go m.state.tasks)) (sym (move-row p s t may.def may.task may.task.phase may.is_def may.is_task refl))
    (row_lets_go p s t may.def may.task may.task.phase may.is_task refl (moving_held p s t may.def may.task may.task.phase may.enabled))

polled_lets_go : (s : State) (poller : ℕ) (notices : List ReqNo) → GoneMore (let_go s.tasks) (let_go (polled s poller notices).state.tasks)
polled_lets_go s poller [] = gone_as s.tasks s.tasks refl
polled_lets_go s poller (req ∷ notices) = gone_as s.tasks s.tasks refl

poll_lets_go : (s : State) (poller : ℕ) → GoneMore (let_go s.tasks) (let_go (poll s poller).state.tasks)
unfolding poll
poll_lets_go s poller = polled_lets_go s poller s.notices

step_poll_lets_go : (p : Program) (s : State) (c : ℕ) → length p.tasks.items ≤ c → GoneMore (let_go s.tasks) (let_go (step p s c).state.tasks)
unfolding step
step_poll_lets_go p s c above = rw (past c (length p.tasks.items) above) (poll_lets_go s (c - length p.tasks.items))

pub step_lets_go : (p : Program) (w : ℕ) (s : State) (c : ℕ) → MayStep p w s c → GoneMore (let_go s.tasks) (let_go (step p s c).state.tasks)
step_lets_go p w s c may = elim may [
  | inl moves ↦
      subst (λ (m : Moved). GoneMore (let_go s.tasks) (let_go m.state.tasks)) (sym (step-task p s c (exists_of_move p s c moves))) (move_lets_go p s c moves)
  | inr polls ↦ step_poll_lets_go p s c polls.poller
]
