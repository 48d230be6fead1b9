-- What tasks have bound, before and after a move of one of them.
use Rattle.std.proofs.Common.{◌≡◌, ◌≢◌, ℕ, List, ◌++◌, slice_get, slice_set, Option, Some, sym, ap, ◌∙◌, inl, inr}
use Rattle.std.proofs.lemmas.Option.{slice_get_within}
use Rattle.rt_base.specs.declared.data.ReqNo.{ReqNo}
use Rattle.rt_base.specs.State.{State, Task}
use Rattle.task_machine.specs.Machine.{Moved, bound_at, or_none}
use Rattle.std.specs.Prelude.{option_map}
use Rattle.book_counts.proofs.Bindings.{BoundAsBefore, BindsMore}
use Rattle.book_counts.proofs.Figures.{bound_at_task}
use Rattle.book_parts.specs.Ledger.{bound_in}
use Rattle.book_parts.specs.Kept.{BookParts, state_now}
use Rattle.task_machine.proofs.Lists.{slice_get-set_same, slice_get-set_other}
use Rattle.task_machine.proofs.Items.{either_place}
use Rattle.book_parts.proofs.Moved.{IsMoved, moved_state}

-- what is bound to task u among these
abbrev bound_among : ℕ → List Task → List ReqNo
bound_among u tasks = or_none (bound_at tasks u)

own_bound : (tasks : List Task) (t : ℕ) (was now : Task) → slice_get tasks t ≡ Some was → bound_among t (slice_set tasks t now) ≡ now.bound
own_bound tasks t was now here =
    ap (λ (o : Option Task). or_none (option_map (λ (z : Task). z.bound) o)) (slice_get-set_same tasks t now (slice_get_within tasks t was here))

other_bound : (tasks : List Task) (t u : ℕ) (now : Task) → u ≢ t → bound_among u (slice_set tasks t now) ≡ bound_among u tasks
other_bound tasks t u now other = ap (λ (o : Option Task). or_none (option_map (λ (z : Task). z.bound) o)) (slice_get-set_other tasks t u now other)

written_bound : (tasks : List Task) (t u : ℕ) (was now : Task) → slice_get tasks t ≡ Some was → now.bound ≡ was.bound
    → bound_among u (slice_set tasks t now) ≡ bound_among u tasks
written_bound tasks t u was now here same = elim (either_place u t) [
  | inl is ↦
      ap (λ (i : ℕ). bound_among i (slice_set tasks t now)) is ∙ own_bound tasks t was now here ∙ same
      ∙ sym (ap (λ (o : Option Task). or_none (option_map (λ (z : Task). z.bound) o)) here) ∙ ap (λ (i : ℕ). bound_among i tasks) (sym is)
  | inr other ↦ other_bound tasks t u now other
]

-- after a move of a task that binds nothing
pub bound_kept : {old new : BookParts} {t : ℕ} {was now : Task} {made : Moved} → IsMoved old new t was now made → now.bound ≡ was.bound
    → BoundAsBefore (bound_in (state_now old)) (bound_in (state_now new))
bound_kept {old = old} {t = t} {was = was} {now = now} m same u =
    ap (λ (z : State). bound_in z u) (moved_state m) ∙ ap (bound_among u) m.tasks ∙ written_bound (state_now old).tasks t u was now m.is_task same

-- after a move of a task that binds these
pub bound_more : {old new : BookParts} {t : ℕ} {was now : Task} {made : Moved} (more : List ReqNo) → IsMoved old new t was now made
    → now.bound ≡ was.bound ++ more → BindsMore t more (bound_in (state_now old)) (bound_in (state_now new))
bound_more {old = old} {t = t} {was = was} {now = now} more m is =
    let after = λ (u : ℕ). ap (λ (z : State). bound_in z u) (moved_state m) ∙ ap (bound_among u) m.tasks in
    record {
      own = after t ∙ own_bound (state_now old).tasks t was now m.is_task ∙ is
          ∙ ap (λ (reqs : List ReqNo). reqs ++ more) (sym (bound_at_task (state_now old) t was m.is_task));
      others = λ u other. after u ∙ other_bound (state_now old).tasks t u now other;
    }
