-- What a step leaves of the tasks that don't make it, and what comes after a quiet state.
use Rattle.std.proofs.Common.{◌≡◌, ◌≢◌, ℕ, zero, suc, ◌+◌, ◌-◌, ◌<◌, ◌≤◌, Bool, true, false, ◌⊎◌, List, [], ◌∷◌, length, drop, slice_get, slice_set, get_or}
use Rattle.std.proofs.Common.{Contains, Option, Some, None, option_map, refl, sym, ap, ◌∙◌, subst, inl, inr, arith}
use Rattle.std.specs.Prelude.{All}
use Rattle.std.proofs.lemmas.List.Elements.{All-nil, All-cons}
use Rattle.rt_base.specs.declared.data.ReqNo.{ReqNo}
use Rattle.rt_base.specs.declared.data.Phase.{Phase}
use Rattle.rt_base.specs.declared.data.Phase.TheVariants as phase
use Rattle.rt_base.specs.declared.data.Op.{Op}
use Rattle.rt_base.specs.declared.data.Op.TheVariants as op
use Rattle.rt_base.specs.declared.data.TaskDef.{TaskDef}
use Rattle.rt_base.specs.declared.data.Program.{Program}
use Rattle.rt_base.specs.Operations.{blocks, awaited}
use Rattle.rt_base.specs.Exchange.{Exchange}
use Rattle.rt_base.specs.Completion.{is_complete}
use Rattle.rt_base.specs.State.{State, Task, phase_of, let_go}
use Rattle.rt_base.specs.MayMove.{MayMove, MayMoveAt}
use Rattle.rt_base.specs.Precedes.{GoneMore}
use Rattle.task_local.specs.Local.{stop}
use Rattle.task_machine.specs.Machine.{Moved, move, move_at, call_move, posted_task, poll, polled, step, MayStep}
use Rattle.task_machine.specs.Legal.{IsDefined, IsQuiet, state_after}
use Rattle.task_machine.specs.RunLaws.{IsAlike}
use Rattle.task_machine.proofs.Rows.{move-row}
use Rattle.task_machine.proofs.Runs.{step-task, exists_of_move}
use Rattle.task_machine.proofs.Items.{either_place, same_some}
use Rattle.task_machine.proofs.Fronts.{past}
use Rattle.task_machine.proofs.Growth.{starts_more, step_lets_go}
use Rattle.task_machine.proofs.Stops.{stop_started}
use Rattle.task_machine.proofs.Calls.{Stays, all_stay, Aside, move_aside, step_aside, set_here}

another_step : (p : Program) (w : ℕ) (s : State) (c u : ℕ) → MayStep p w s c → u ≢ c → Aside p u 0 s (step p s c)
another_step p w s c u may other = elim may [
  | inl moves ↦
      let row = step-task p s c (exists_of_move p s c moves) ∙ move-row p s c moves.def moves.task moves.task.phase moves.is_def moves.is_task refl in
      subst (Aside p u 0 s) (sym row)
      (move_aside p s c u 0 moves.def moves.task moves.task.phase (λ e. other (sym e)))
  | inr polls ↦ step_aside p u 0 s c polls.poller
]

pub leaves_others : (p : Program) (w : ℕ) (s : State) (c : ℕ) → MayStep p w s c → (u : ℕ) → ¬ (u ≡ c)
    → slice_get (step p s c).state.tasks u ≡ slice_get s.tasks u
leaves_others p w s c may u other = (another_step p w s c u may other).task

pub complete_stays : (p : Program) (w : ℕ) (s : State) (c : ℕ) → MayStep p w s c → Stays p s.exchange (step p s c).state.exchange
complete_stays p w s c may = (another_step p w s c (suc c) may (λ e. absurd (omega arith))).stays

still_enabled : (p : Program) (old new : List Task) (x y : Exchange) (t : ℕ) (def : TaskDef) (task : Task) (at : Phase) → GoneMore (let_go old) (let_go new)
    → Stays p x y → MayMoveAt p old x t def task at → MayMoveAt p new y t def task at
still_enabled p old new x y t def task phase.Waiting more stays may = starts_more p (let_go old) (let_go new) t more may
still_enabled p old new x y t def task (phase.At k) more stays may = may
still_enabled p old new x y t def task (phase.In k) more stays may = all_stay p x y (awaited t def k) stays may
still_enabled p old new x y t def task phase.Ended more stays may = may
still_enabled p old new x y t def task phase.Returned more stays may = all_stay p x y task.bound stays may
still_enabled p old new x y t def task phase.Released more stays may = may

pub enabled_stays : (p : Program) (w : ℕ) (s : State) (c : ℕ) → MayStep p w s c → (u : ℕ) → ¬ (u ≡ c) → MayMove p s u → MayMove p (step p s c).state u
enabled_stays p w s c may u other moves =
    let aside = another_step p w s c u may other in
    record {
      def = moves.def;
      task = moves.task;
      is_def = moves.is_def;
      is_task = aside.task ∙ moves.is_task;
      enabled = still_enabled p s.tasks _ s.exchange _ u moves.def moves.task moves.task.phase (step_lets_go p w s c may) aside.stays moves.enabled;
    }

-- a task that has moved waits no longer
set_started : (tasks : List Task) (t : ℕ) (was now : Task) → slice_get tasks t ≡ Some was → now.phase ≢ phase.Waiting
    → ¬ (option_map (λ (task : Task). task.phase) (slice_get (slice_set tasks t now) t) ≡ Some phase.Waiting)
set_started tasks t was now here started =
    λ e. started (same_some (sym (ap (λ (o : Option Task). option_map (λ (task : Task). task.phase) o) (set_here tasks t was now here)) ∙ e))

stands_started : (def : TaskDef) (k : ℕ) → stop def k ≢ phase.Waiting
unfolding stop
stands_started def k = stop_started k (drop k def.body.items)

stayed_started : (s : State) (t : ℕ) (was : Task) (k : ℕ) → slice_get s.tasks t ≡ Some was → was.phase ≡ phase.At k → ¬ (phase_of s t ≡ Some phase.Waiting)
stayed_started s t was k here at =
    λ e. let same : phase.At k ≡ phase.Waiting = sym at
    ∙ same_some (sym (ap (λ (o : Option Task). option_map (λ (task : Task). task.phase) o) here) ∙ e) in absurd (cc)

posted_started : (def : TaskDef) (k : ℕ) (was : Task) (blocking : Bool) → (posted_task def k blocking was).phase ≢ phase.Waiting
posted_started def k was true = λ e. absurd (cc)
posted_started def k was false = stands_started def (k + 1)

call_started : (p : Program) (s : State) (t : ℕ) (def : TaskDef) (was : Task) (k : ℕ) (o : Option Op) → slice_get s.tasks t ≡ Some was → was.phase ≡ phase.At k
    → ¬ (phase_of (call_move p s t def was k o).state t ≡ Some phase.Waiting)
call_started p s t def was k None here at = stayed_started s t was k here at
call_started p s t def was k (Some (op.Compute kind dst left right value step)) here at = stayed_started s t was k here at
call_started p s t def was k (Some (op.Post how span peer tag comm status)) here at =
    set_started s.tasks t was (posted_task def k (blocks how) was) here (posted_started def k was (blocks how))
call_started p s t def was k (Some (op.Await false handles status)) here at = set_started s.tasks t was _ here (λ e. absurd (cc))
call_started p s t def was k (Some (op.Await true handles status)) here at = set_started s.tasks t was _ here (stands_started def (k + 1))

row_started : (p : Program) (s : State) (t : ℕ) (def : TaskDef) (was : Task) (at : Phase) → slice_get s.tasks t ≡ Some was → was.phase ≡ at
    → MayMoveAt p s.tasks s.exchange t def was at → ¬ (phase_of (move_at p s t def was at).state t ≡ Some phase.Waiting)
row_started p s t def was phase.Waiting here at may = set_started s.tasks t was _ here (stands_started def 0)
row_started p s t def was (phase.At k) here at may = call_started p s t def was k (slice_get def.body.items k) here at
row_started p s t def was (phase.In k) here at may = set_started s.tasks t was _ here (stands_started def (k + 1))
row_started p s t def was phase.Ended here at may = set_started s.tasks t was _ here (λ e. absurd (cc))
row_started p s t def was phase.Returned here at may = set_started s.tasks t was _ here (λ e. absurd (cc))
row_started p s t def was phase.Released here at may = absurd may

own_started : (p : Program) (s : State) (t : ℕ) → MayMove p s t → ¬ (phase_of (step p s t).state t ≡ Some phase.Waiting)
own_started p s t may =
    subst (λ (m : Moved). ¬ (phase_of m.state t ≡ Some phase.Waiting))
    (sym (step-task p s t (exists_of_move p s t may) ∙ move-row p s t may.def may.task may.task.phase may.is_def may.is_task refl))
    (row_started p s t may.def may.task may.task.phase may.is_task refl may.enabled)

moves_below : (p : Program) (w : ℕ) (s : State) (t : ℕ) → t < length p.tasks.items → MayStep p w s t → MayMove p s t
moves_below p w s t exists may = elim may [ inl moves ↦ moves | inr polls ↦ absurd (let above = polls.poller in omega arith) ]

stays_started : (p : Program) (w : ℕ) (s : State) (c t : ℕ) → t < length p.tasks.items → MayStep p w s c → ¬ (phase_of s t ≡ Some phase.Waiting)
    → ¬ (phase_of (step p s c).state t ≡ Some phase.Waiting)
stays_started p w s c t exists may started = elim (either_place t c) [
  | inl same ↦
      subst (λ (d : ℕ). ¬ (phase_of (step p s d).state t ≡ Some phase.Waiting)) same
      (own_started p s t (moves_below p w s t exists (subst (MayStep p w s) (sym same) may)))
  | inr other ↦
      λ e. started (sym (ap (λ (o : Option Task). option_map (λ (task : Task). task.phase) o) (leaves_others p w s c may t other)) ∙ e)
]

run_started : (p : Program) (w : ℕ) (s : State) (cs : List ℕ) (t : ℕ) → t < length p.tasks.items → IsDefined p w s cs → ¬ (phase_of s t ≡ Some phase.Waiting)
    → ¬ (phase_of (state_after p s cs) t ≡ Some phase.Waiting)
run_started p w s [] t exists runs started = started
run_started p w s (c ∷ cs) t exists runs started =
    run_started p w (step p s c).state cs t exists runs.1 (stays_started p w s c t exists runs.0 started)

in_front : (c t : ℕ) (cs : List ℕ) (k : ℕ) → k < suc (length cs) → get_or (c ∷ cs) k t ≡ t → (c ≡ t) ⊎ Contains cs t
in_front c t cs zero below is = inl is
in_front c t cs (suc k) below is = inr (k, omega (arith, below), is)

pub callers_started : (p : Program) (w : ℕ) (s : State) (cs : List ℕ) → IsDefined p w s cs → (t : ℕ) → t < length p.tasks.items → Contains cs t
    → ¬ (phase_of (state_after p s cs) t ≡ Some phase.Waiting)
callers_started p w s [] runs t exists has = absurd (omega (arith, has.1))
callers_started p w s (c ∷ cs) runs t exists has = elim (in_front c t cs has.0 has.1 has.2) [
  | inl same ↦
      run_started p w (step p s c).state cs t exists runs.1
      (subst (λ (d : ℕ). ¬ (phase_of (step p s d).state t ≡ Some phase.Waiting)) (sym same)
      (own_started p s t (moves_below p w s t exists (subst (MayStep p w s) same runs.0))))
  | inr later ↦ callers_started p w (step p s c).state cs runs.1 t exists later
]

-- a poll changes the notices alone
polled_alike : (s : State) (poller : ℕ) (notices : List ReqNo) → IsAlike s (polled s poller notices).state
polled_alike s poller [] = record { memory = refl; tasks = refl; exchange = refl; statuses = refl }
polled_alike s poller (r ∷ rest) = record { memory = refl; tasks = refl; exchange = refl; statuses = refl }

poll_alike : (s : State) (poller : ℕ) → IsAlike s (poll s poller).state
unfolding poll
poll_alike s poller = polled_alike s poller s.notices

step_alike : (p : Program) (s : State) (c : ℕ) → length p.tasks.items ≤ c → IsAlike s (step p s c).state
unfolding step
step_alike p s c above = rw (past c (length p.tasks.items) above) (poll_alike s (c - length p.tasks.items))

stays_quiet : (p : Program) (s s' : State) → IsAlike s s' → IsQuiet p s → IsQuiet p s'
stays_quiet p s s' alike quiet t may = quiet t (record {
  def = may.def;
  task = may.task;
  is_def = may.is_def;
  is_task = ap (λ (ts : List Task). slice_get ts t) alike.tasks ∙ may.is_task;
  enabled =
      subst (λ (ts : List Task). MayMoveAt p ts s.exchange t may.def may.task may.task.phase) (sym alike.tasks)
      (subst (λ (x : Exchange). MayMoveAt p s'.tasks x t may.def may.task may.task.phase) (sym alike.exchange) may.enabled);
})

then_alike : (a b c : State) → IsAlike a b → IsAlike b c → IsAlike a c
then_alike a b c first second = record {
  memory = first.memory ∙ second.memory;
  tasks = first.tasks ∙ second.tasks;
  exchange = first.exchange ∙ second.exchange;
  statuses = first.statuses ∙ second.statuses;
}

only_poller : (p : Program) (w : ℕ) (s : State) (c : ℕ) → IsQuiet p s → MayStep p w s c → length p.tasks.items ≤ c
only_poller p w s c quiet may = elim may [ inl moves ↦ absurd (quiet c moves) | inr polls ↦ polls.poller ]

pub polls_follow : (p : Program) (w : ℕ) (s : State) (cs : List ℕ) → IsQuiet p s → IsDefined p w s cs
    → All (λ c. length p.tasks.items ≤ c) cs × IsAlike s (state_after p s cs) × IsQuiet p (state_after p s cs)
polls_follow p w s [] quiet runs =
    (All-nil (λ c. length p.tasks.items ≤ c), record { memory = refl; tasks = refl; exchange = refl; statuses = refl }, quiet)
polls_follow p w s (c ∷ cs) quiet runs =
    let above = only_poller p w s c quiet runs.0 in
    let alike = step_alike p s c above in
    let rest = polls_follow p w (step p s c).state cs (stays_quiet p s (step p s c).state alike quiet) runs.1 in (
      All-cons (λ d. length p.tasks.items ≤ d) c cs above rest.0,
      then_alike s (step p s c).state (state_after p (step p s c).state cs) alike rest.1,
      rest.2,
    )
