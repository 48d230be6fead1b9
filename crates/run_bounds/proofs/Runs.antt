-- The state after every run fits its program, and runs stay short.
use Rattle.std.proofs.Common.{◌≡◌, ℕ, zero, suc, ◌+◌, ◌-◌, ◌<◌, ◌≤◌, List, [], ◌∷◌, ◌++◌, length, map, slice_get, Some, refl, sym, ap, ◌∙◌, subst}
use Rattle.std.proofs.Common.{inl, inr, arith}
use Rattle.std.specs.Prelude.{replicate}
use Rattle.std.proofs.lemmas.List.{length-append, length-replicate}
use Rattle.rt_base.specs.declared.data.Phase.{Phase}
use Rattle.rt_base.specs.declared.data.Phase.TheVariants as phase
use Rattle.rt_base.specs.declared.data.TaskDef.{TaskDef}
use Rattle.rt_base.specs.declared.data.Program.{Program}
use Rattle.rt_base.specs.State.{State, Task, opening, waiting_task}
use Rattle.rt_base.specs.WellFormed.{WellFormed}
use Rattle.task_machine.specs.Machine.{Moved, step, poll, MayStep}
use Rattle.task_machine.specs.Legal.{IsDefined, state_after, state_of}
use Rattle.tidy_runs.specs.Tidy.{IsTidy}
use Rattle.tidy_runs.proofs.Tidying.{runs_are_tidy}
use Rattle.task_machine.proofs.Runs.{step-task, exists_of_move, state_after-push, IsDefined-push}
use Rattle.task_machine.proofs.Fronts.{past}
use Rattle.run_bounds.specs.Fits.{MayStand, RunsFit}
use Rattle.run_bounds.specs.Bounds.{RunsStayShort}
use Rattle.run_bounds.proofs.Rooms.{over_opening, entries_first, told_first, postings_first, entries_left, postings_left}
use Rattle.run_bounds.proofs.Tells.{to_tell}
use Rattle.run_bounds.proofs.Moves.{IsWithin, move_within, poll_within}

step_poll_within : (p : Program) (s : State) (c steps : ℕ) → length p.tasks.items ≤ c → 0 < length s.notices → IsWithin p s steps
    → IsWithin p (step p s c).state (steps + 1)
unfolding step
step_poll_within p s c steps above some within =
    rw (past c (length p.tasks.items) above) (poll_within p s (c - length p.tasks.items) steps some within)

step_within : (p : Program) (w : ℕ) (s : State) (c steps : ℕ) → IsTidy p s → MayStep p w s c → IsWithin p s steps
    → IsWithin p (step p s c).state (steps + 1)
step_within p w s c steps tidy may within = elim may [
  | inl moves ↦
      subst (λ (m : Moved). IsWithin p m.state (steps + 1)) (sym (step-task p s c (exists_of_move p s c moves)))
      (move_within p s c steps tidy moves within)
  | inr polls ↦ step_poll_within p s c steps polls.poller polls.notice within
]

-- a run goes on from a front of it
run_within : (p : Program) (w : ℕ) (front cs : List ℕ) → WellFormed p → IsDefined p w (opening p) front → IsDefined p w (state_of p front) cs
    → IsWithin p (state_of p front) (length front) → IsWithin p (state_after p (state_of p front) cs) (length front + length cs)
run_within p w front [] well before runs within = subst (IsWithin p (state_of p front)) (omega arith) within
run_within p w front (c ∷ cs) well before runs within =
    let s : State = state_of p front in
    let pushed : state_of p (front ++ c ∷ []) ≡ (step p s c).state = state_after-push p (opening p) front c in
    let long : length (front ++ c ∷ []) ≡ length front + 1 = length-append front (c ∷ []) in
    let next = step_within p w s c (length front) (runs_are_tidy p w front well before) runs.0 within in
    let rest = run_within p w (front ++ c ∷ []) cs well (IsDefined-push p w (opening p) front c before runs.0)
    (subst (λ (z : State). IsDefined p w z cs) (sym pushed) runs.1)
    (subst (λ (z : State). IsWithin p z (length (front ++ c ∷ []))) (sym pushed) (subst (IsWithin p (step p s c).state) (sym long) next)) in
    subst (IsWithin p (state_after p (step p s c).state cs)) (omega arith)
    (subst (λ (z : State). IsWithin p (state_after p z cs) (length (front ++ c ∷ []) + length cs)) pushed rest)

-- what stands in a list of equal items
in_replicate : {X : Type 0} (n : ℕ) (y : X) (i : ℕ) (x : X) → slice_get (replicate n y) i ≡ Some x → x ≡ y
in_replicate zero y i x here = absurd (cc)
in_replicate (suc n) y zero x here = cc
in_replicate (suc n) y (suc i) x here = in_replicate n y i x here

map-replicate : {X Y : Type 0} (f : X → Y) (n : ℕ) (x : X) → map f (replicate n x) ≡ replicate n (f x)
map-replicate f zero x = refl
map-replicate f (suc n) x = ap (λ ys. f x ∷ ys) (map-replicate f n x)

opening_within : (p : Program) → IsWithin p (opening p) 0
opening_within p =
    let waiting : map (λ (x : Task). x.phase) (opening p).tasks ≡ replicate (length p.tasks.items) phase.Waiting =
    map-replicate (λ (x : Task). x.phase) (length p.tasks.items) waiting_task in
    record {
      fits = record {
        counted = length-replicate (length p.tasks.items) waiting_task;
        placed = λ t def task is_def here.
            subst (λ (x : Task). MayStand def x.phase) (sym (in_replicate (length p.tasks.items) waiting_task t task here)) tt;
        posted = λ t n def task is_def is_task posted. absurd (cc);
      };
      entries = rw waiting (omega arith);
      statuses = rw waiting (omega arith);
      notices = rw waiting (omega arith);
    }

after_run : (p : Program) (w : ℕ) (cs : List ℕ) → WellFormed p → IsDefined p w (opening p) cs → IsWithin p (state_of p cs) (length cs)
after_run p w cs well runs = subst (IsWithin p (state_of p cs)) (omega arith) (run_within p w [] cs well tt runs (opening_within p))

pub runs_fit : RunsFit
runs_fit p w cs well runs = (after_run p w cs well runs).fits

pub runs_short : RunsStayShort
runs_short p w cs well runs =
    let within = after_run p w cs well runs in
    let entries = within.entries in
    let statuses = within.statuses in
    let notices = within.notices in
    record {
      entries = omega (arith, over_opening entries_left p.tasks.items, entries_first p.tasks.items);
      statuses = omega (arith, over_opening to_tell p.tasks.items, told_first p.tasks.items);
      notices = omega (arith, over_opening postings_left p.tasks.items, postings_first p.tasks.items);
    }
