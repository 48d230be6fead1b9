-- What any move changes, and that the state after it fits the program and is short.
use Rattle.std.proofs.Common.{◌≡◌, ◌≢◌, ℕ, ◌+◌, ◌<◌, ◌≤◌, true, false, ◌⊎◌, List, [], ◌∷◌, length, map, slice_get, slice_set, Some, None, Option}
use Rattle.std.proofs.Common.{option_map, refl, sym, ap, ◌∙◌, subst, inl, inr, arith}
use Rattle.std.proofs.Math.ListN.{length-set}
use Rattle.std.proofs.lemmas.List.{map-set}
use Rattle.std.proofs.lemmas.Option.{slice_get_within}
use Rattle.rt_base.specs.declared.data.Op.{Op}
use Rattle.rt_base.specs.declared.data.Op.TheVariants as op
use Rattle.rt_base.specs.declared.data.Phase.{Phase}
use Rattle.rt_base.specs.declared.data.Phase.TheVariants as phase
use Rattle.rt_base.specs.declared.data.ReqNo.{ReqNo}
use Rattle.rt_base.specs.declared.data.TaskDef.{TaskDef}
use Rattle.rt_base.specs.declared.data.Program.{Program}
use Rattle.rt_base.specs.Operations.{request}
use Rattle.rt_base.specs.Completion.{is_posted}
use Rattle.rt_base.specs.State.{State, Task}
use Rattle.rt_base.specs.MayMove.{MayMove, MayMoveAt}
use Rattle.task_local.specs.Standing.{IsCall}
use Rattle.task_machine.specs.Machine.{Moved, move, move_at, call_move, poll, polled}
use Rattle.task_machine.specs.Course.{posted_by_phase}
use Rattle.task_machine.specs.Legal.{phases_of}
use Rattle.tidy_runs.specs.Tidy.{IsTidy, bindings, called}
use Rattle.task_machine.proofs.Rows.{move-row}
use Rattle.task_machine.proofs.Lists.{slice_get-set_same, slice_get-set_other, slice_get-map}
use Rattle.task_machine.proofs.Items.{either_place, same_some}
use Rattle.run_bounds.specs.Fits.{MayStand, FitsProgram}
use Rattle.run_bounds.proofs.Rooms.{HasRoom, postings_left, entries_left, room_goes_on}
use Rattle.run_bounds.proofs.Tells.{to_tell}
use Rattle.run_bounds.proofs.Changes.{Changes, start_changes, return_changes, post_changes, wait_changes, bind_changes, leave_changes, release_changes}

call_changes : (p : Program) (s : State) (t : ℕ) (def : TaskDef) (was : Task) (k : ℕ) (o : Option Op) → was.phase ≡ phase.At k
    → slice_get def.body.items k ≡ o → IsCall o → Changes s t def was (call_move p s t def was k o).state
call_changes p s t def was k None at here call = absurd call
call_changes p s t def was k (Some (op.Compute kind dst left right value step)) at here call = absurd (cc call)
call_changes p s t def was k (Some (op.Post how span peer tag comm status)) at here call =
    post_changes p s t def was k how span peer tag comm status at here
call_changes p s t def was k (Some (op.Await false handles status)) at here call = wait_changes p s t def was k handles status at here
call_changes p s t def was k (Some (op.Await true handles status)) at here call = bind_changes p s t def was k handles status at here

row_changes : (p : Program) (s : State) (t : ℕ) (def : TaskDef) (was : Task) (at : Phase) → was.phase ≡ at → MayStand def at
    → was.named ≡ bindings 0 (called def at) → MayMoveAt p s.tasks s.exchange t def was at → Changes s t def was (move_at p s t def was at).state
row_changes p s t def was phase.Waiting stands placed named may = start_changes p s t def was stands
row_changes p s t def was (phase.At k) stands placed named may = call_changes p s t def was k (slice_get def.body.items k) stands refl placed
row_changes p s t def was (phase.In k) stands placed named may = leave_changes p s t def was k stands placed
row_changes p s t def was phase.Ended stands placed named may = return_changes s t def was stands
row_changes p s t def was phase.Returned stands placed named may = release_changes p s t def was stands named
row_changes p s t def was phase.Released stands placed named may = absurd may

-- what a move changes that may be made
move_changes : (p : Program) (s : State) (t : ℕ) → FitsProgram p s → IsTidy p s → (may : MayMove p s t)
    → Changes s t may.def may.task (move p s t).state
move_changes p s t fits tidy may =
    subst (λ (m : Moved). Changes s t may.def may.task m.state) (sym (move-row p s t may.def may.task may.task.phase may.is_def may.is_task refl))
    (row_changes p s t may.def may.task may.task.phase refl (fits.placed t may.def may.task may.is_def may.is_task)
    (tidy t may.def may.task may.is_def may.is_task).named may.enabled)

-- ---- that it fits

-- the tasks after a move
task_after : (tasks : List Task) (t u : ℕ) (was now task : Task) → slice_get tasks t ≡ Some was → slice_get (slice_set tasks t now) u ≡ Some task
    → ((u ≡ t) × (task ≡ now)) ⊎ ((u ≢ t) × (slice_get tasks u ≡ Some task))
task_after tasks t u was now task here there = elim (either_place u t) [
  | inl same ↦ inl (
    same,
    same_some (sym there ∙ ap (slice_get (slice_set tasks t now)) same
        ∙ slice_get-set_same tasks t now (slice_get_within tasks t was here)),
  )
  | inr other ↦ inr (other, sym (slice_get-set_other tasks t u now other) ∙ there)
]

below_later : (n a b : ℕ) → n < a → a ≤ b → n < b
below_later n a b below later = omega arith

-- what the moving task has posted
own_posted : (p : Program) (s new : State) (t n : ℕ) (def : TaskDef) (was : Task) → FitsProgram p s → slice_get p.tasks.items t ≡ Some def
    → slice_get s.tasks t ≡ Some was → (c : Changes s t def was new)
    → (is_posted s.exchange (request t n) ≡ true) ⊎ ((t ≡ t) × (n < posted_by_phase def c.now.phase)) → n < posted_by_phase def c.now.phase
own_posted p s new t n def was fits is_def is_task c posted = elim posted [
  | inl before ↦ below_later n _ _ (fits.posted t n def was is_def is_task before) c.later
  | inr by_t ↦ by_t.1
]

-- the move of task t leaves what stands for the place and the requests of each task
fits_after : (p : Program) (s new : State) (t : ℕ) (def : TaskDef) (was : Task) → FitsProgram p s → slice_get p.tasks.items t ≡ Some def
    → slice_get s.tasks t ≡ Some was → Changes s t def was new → FitsProgram p new
fits_after p s new t def was fits is_def is_task c =
    let read = λ (u : ℕ) (task : Task). λ (here : slice_get new.tasks u ≡ Some task).
    task_after s.tasks t u was c.now task is_task (sym (ap (λ (xs : List Task). slice_get xs u) c.tasks) ∙ here) in
    let one = λ (u : ℕ) (d : TaskDef). λ (same : u ≡ t). λ (here : slice_get p.tasks.items u ≡ Some d).
    same_some (sym here ∙ ap (slice_get p.tasks.items) same ∙ is_def) in
    record {
      counted = ap (λ (xs : List Task). length xs) c.tasks ∙ length-set s.tasks t c.now ∙ fits.counted;
      placed = λ u d task is_d here. elim (read u task here) [
        | inl mine ↦ rw (one u d mine.0 is_d, mine.1) c.placed
        | inr other ↦ fits.placed u d task is_d other.1
      ];
      posted = λ u n d task is_d here posted. elim (read u task here) [
        | inl mine ↦
            rw (one u d mine.0 is_d, mine.1)
            (own_posted p s new t n def was fits is_def is_task c
            (c.posted t n (sym (ap (λ (v : ℕ). is_posted new.exchange (request v n)) mine.0) ∙ posted)))
        | inr other ↦ elim (c.posted u n posted) [
          | inl before ↦ fits.posted u n d task is_d other.1 before
          | inr by_t ↦ absurd (other.0 by_t.0)
        ]
      ];
    }

-- ---- that it is short

-- after so many steps the lists are, with what the tasks still add, no longer than all that they add from the opening on
pub record IsWithin (p : Program) (s : State) (steps : ℕ) : Type 0 where
  pub fits : FitsProgram p s
  pub entries : HasRoom entries_left p.tasks.items (phases_of s.tasks) (steps + length s.notices)
  pub statuses : HasRoom to_tell p.tasks.items (phases_of s.tasks) (length s.statuses)
  pub notices : HasRoom postings_left p.tasks.items (phases_of s.tasks) (length s.notices)

-- the phases after a move
pub phases_after : (s new : State) (t : ℕ) (now : Task) → new.tasks ≡ slice_set s.tasks t now
    → slice_set (map (λ (x : Task). x.phase) s.tasks) t now.phase ≡ map (λ (x : Task). x.phase) new.tasks
phases_after s new t now tasks =
    sym (map-set (λ (x : Task). x.phase) s.tasks t now) ∙ ap (map (λ (x : Task). x.phase)) (sym tasks)

-- over the move of a task
pub move_within : (p : Program) (s : State) (t steps : ℕ) → IsTidy p s → MayMove p s t → IsWithin p s steps → IsWithin p (move p s t).state (steps + 1)
move_within p s t steps tidy may within =
    let defs : List TaskDef = p.tasks.items in
    let new : State = (move p s t).state in
    let c = move_changes p s t within.fits tidy may in
    let was : Phase = may.task.phase in
    let here : slice_get (phases_of s.tasks) t ≡ Some was =
    slice_get-map (λ (x : Task). x.phase) s.tasks t ∙ ap (λ (o : Option Task). option_map (λ (x : Task). x.phase) o) may.is_task in
    let after = phases_after s new t c.now c.tasks in
    let fewer = c.fewer in
    let told = c.told in
    let noticed = c.noticed in
    let on = λ (f : TaskDef → Phase → ℕ) (more : ℕ). λ (room : HasRoom f defs (slice_set (phases_of s.tasks) t c.now.phase) more).
    subst (λ (z : List Phase). HasRoom f defs z more) after room in
    record {
      fits = fits_after p s new t may.def may.task within.fits may.is_def may.is_task c;
      entries = on entries_left (steps + 1 + length new.notices)
          (room_goes_on entries_left defs (phases_of s.tasks) t may.def was c.now.phase _ _ within.entries may.is_def here (omega arith));
      statuses = on to_tell (length new.statuses)
          (room_goes_on to_tell defs (phases_of s.tasks) t may.def was c.now.phase _ _ within.statuses may.is_def here told);
      notices = on postings_left (length new.notices)
          (room_goes_on postings_left defs (phases_of s.tasks) t may.def was c.now.phase _ _ within.notices may.is_def here noticed);
    }

-- over a poll, by which there is an entry more and a notice less
polled_within : (p : Program) (s : State) (w steps : ℕ) (notices : List ReqNo) → s.notices ≡ notices → 0 < length notices → IsWithin p s steps
    → IsWithin p (polled s w notices).state (steps + 1)
polled_within p s w steps [] are some within = absurd (omega (arith, some))
polled_within p s w steps (req ∷ notices) are some within =
    let long = ap (λ (z : List ReqNo). length z) are in
    let entries = within.entries in
    let standing = within.notices in
    record {
      fits = record { counted = within.fits.counted; placed = within.fits.placed; posted = within.fits.posted };
      entries = omega arith;
      statuses = within.statuses;
      notices = omega arith;
    }

pub poll_within : (p : Program) (s : State) (w steps : ℕ) → 0 < length s.notices → IsWithin p s steps → IsWithin p (poll s w).state (steps + 1)
unfolding poll
poll_within p s w steps some within = polled_within p s w steps s.notices refl some within
