-- What a book counts after each move of a task but the call of a posting.
use Rattle.std.proofs.Common.{◌≡◌, ◌≢◌, ℕ, ◌+◌, ◌-◌, ◌≤◌, Bool, true, false, cond, List, slice_get, slice_set, Some, Option, refl, sym, ap, ◌∙◌, subst, arith}
use Rattle.std.proofs.lemmas.Option.{get_or_from_slice_get, slice_get_within}
use Rattle.rt_base.specs.declared.data.ReqNo.{ReqNo}
use Rattle.rt_base.specs.declared.data.Phase.{Phase}
use Rattle.rt_base.specs.declared.data.Phase.TheVariants as phase
use Rattle.rt_base.specs.declared.data.TaskDef.{TaskDef}
use Rattle.rt_base.specs.Operations.{awaited}
use Rattle.rt_base.specs.Precedes.{LetGo, GoneMore}
use Rattle.rt_base.specs.Exchange.{Exchange}
use Rattle.rt_base.specs.MayMove.{AreComplete}
use Rattle.rt_base.specs.State.{Task, is_released}
use Rattle.task_local.specs.Local.{stop}
use Rattle.task_machine.specs.Machine.{open_count, awaited_at}
use Rattle.task_machine.proofs.Items.{same_some}
use Rattle.book_counts.specs.Counted.{IsBinding, IsCounted, is_unreleased, waits_at}
use Rattle.book_counts.proofs.Bindings.{BoundAsBefore, binding_same}
use Rattle.book_counts.proofs.CountLemmas.{counted_on, counted_move, count-set, handed_waits, held_one, stop_is_held, stop_waits, waits_for_none}
use Rattle.book_counts.proofs.Figures.{Figures, AreKept, Found, gone_in, bound_of, read_phase}

module _ {f : Figures} (kept : AreKept f) where
  -- what is bound after a move that posts nothing and binds nothing
  pub binding_kept : {bound : ℕ → List ReqNo} → BoundAsBefore (bound_of f) bound
      → IsBinding f.program bound f.exchange f.marks f.bound f.incomplete
  binding_kept {bound = bound} same = binding_same f.program (bound_of f) bound f.exchange f.marks f.bound f.incomplete kept.binding same

  -- a task stops before an operation of its own, and waited for nothing
  pub counted_stop : {t : ℕ} {def : TaskDef} {task : Task} {was at : Phase} {gone : LetGo} {bound : ℕ → List ReqNo} (k : ℕ) → Found f t def task
      → task.phase ≡ was → is_released was ≡ false → waits_at f.program f.exchange f.handed t was (bound_of f t) ≡ 0 → at ≡ stop def k
      → GoneMore (gone_in f) gone → ((u : ℕ) → u ≢ t → bound u ≡ bound_of f u)
      → IsCounted f.program gone f.handed (slice_set f.phases t at) bound f.exchange f.unreleased f.waits
  counted_stop {t = t} {def = def} {was = was} {gone = gone} {bound = bound} k here stands held none stops more others =
      subst (λ (q : Phase). IsCounted f.program gone f.handed (slice_set f.phases t q) bound f.exchange f.unreleased f.waits) (sym stops)
      (counted_on f.program (gone_in f) gone f.handed f.phases (bound_of f) bound f.exchange f.unreleased f.waits t was (stop def k) kept.counted more
      (read_phase kept here stands) held (stop_is_held def k) others none (stop_waits f.program f.exchange f.handed t def k (bound t)))

  -- a task starts
  pub start_counted : {t : ℕ} {def : TaskDef} {task : Task} {at : Phase} {gone : LetGo} {bound : ℕ → List ReqNo} → Found f t def task
      → task.phase ≡ phase.Waiting → slice_get f.handed t ≡ Some true → at ≡ stop def 0 → GoneMore (gone_in f) gone → BoundAsBefore (bound_of f) bound
      → IsCounted f.program gone f.handed (slice_set f.phases t at) bound f.exchange f.unreleased f.waits
  start_counted {t = t} here stands mine stops more same =
      counted_stop 0 here stands refl
      (handed_waits f.program f.exchange f.handed t (bound_of f t) (get_or_from_slice_get f.handed t true false mine)) stops more (λ u other. same u)

  -- a task leaves its operation
  pub leave_counted : {t : ℕ} {def : TaskDef} {task : Task} {at : Phase} {gone : LetGo} {bound : ℕ → List ReqNo} (k : ℕ) → Found f t def task
      → task.phase ≡ phase.In k → AreComplete f.program f.state.exchange (awaited t def k) → at ≡ stop def (k + 1) → GoneMore (gone_in f) gone
      → BoundAsBefore (bound_of f) bound → IsCounted f.program gone f.handed (slice_set f.phases t at) bound f.exchange f.unreleased f.waits
  leave_counted {t = t} {def = def} {task = task} k here stands complete stops more same =
      let none : waits_at f.program f.state.exchange f.handed t (phase.In k) task.bound ≡ 0 =
      (waits_for_none f.program f.state f.handed t def task (phase.In k) here.is_def (λ e. absurd (cc e))).1 complete in
      counted_stop (k + 1) here stands refl
      (ap (λ (e : Exchange). waits_at f.program e f.handed t (phase.In k) (bound_of f t)) kept.exchange_is ∙ none) stops more (λ u other. same u)

  -- a task stands there from now on, and waits for so much
  pub counted_next : {t left unreleased : ℕ} {def : TaskDef} {task : Task} {was : Phase} {waits : List ℕ} {gone : LetGo} {bound : ℕ → List ReqNo}
      (now : Phase) → Found f t def task → task.phase ≡ was → is_released was ≡ false → left ≡ waits_at f.program f.exchange f.handed t now (bound t)
      → waits ≡ slice_set f.waits t left → unreleased + 1 ≡ f.unreleased + cond (is_unreleased now) 1 0 → GoneMore (gone_in f) gone
      → BoundAsBefore (bound_of f) bound → IsCounted f.program gone f.handed (slice_set f.phases t now) bound f.exchange unreleased waits
  counted_next {t = t} {unreleased = unreleased} {was = was} {waits = waits} {gone = gone} {bound = bound} now here stands held number is_ws is_n more same =
      counted_move f.program (gone_in f) gone f.handed f.phases (bound_of f) bound f.exchange f.unreleased unreleased f.waits waits t was now kept.counted more
      (read_phase kept here stands) held (λ u other. same u) (is_ws ∙ ap (slice_set f.waits t) number) is_n

  -- a task goes into the wait that is operation k
  pub wait_counted : {t count : ℕ} {def : TaskDef} {task : Task} {waits : List ℕ} {gone : LetGo} {bound : ℕ → List ReqNo} (k : ℕ) → Found f t def task
      → task.phase ≡ phase.At k → count ≡ open_count f.program f.exchange (awaited t def k) → waits ≡ slice_set f.waits t count
      → GoneMore (gone_in f) gone → BoundAsBefore (bound_of f) bound
      → IsCounted f.program gone f.handed (slice_set f.phases t (phase.In k)) bound f.exchange f.unreleased waits
  wait_counted {t = t} k here stands counted is_ws more same =
      counted_next (phase.In k) here stands refl
      (counted ∙ sym (ap (λ (o : Option TaskDef). open_count f.program f.exchange (awaited_at t o (Some (phase.In k)))) here.is_def)) is_ws refl more same

  -- a task returns, and waits for so many of what it has bound
  pub ret_counted : {t left : ℕ} {def : TaskDef} {task : Task} {waits : List ℕ} {gone : LetGo} {bound : ℕ → List ReqNo} → Found f t def task
      → task.phase ≡ phase.Ended → slice_get f.incomplete t ≡ Some left → waits ≡ slice_set f.waits t left → GoneMore (gone_in f) gone
      → BoundAsBefore (bound_of f) bound
      → IsCounted f.program gone f.handed (slice_set f.phases t phase.Returned) bound f.exchange f.unreleased waits
  ret_counted {t = t} {def = def} here stands read is_ws more same =
      counted_next phase.Returned here stands refl
      (same_some (sym read ∙ kept.binding.incomplete_are t (slice_get_within f.program.tasks.items t def here.is_def))
      ∙ ap (open_count f.program f.exchange) (sym (same t))) is_ws refl more same

  -- while a task is not released one at least is counted so
  pub some_unreleased : {t : ℕ} {def : TaskDef} {task : Task} → Found f t def task → task.phase ≡ phase.Returned → 1 ≤ f.unreleased
  some_unreleased {t = t} here stands =
      let moved = count-set is_unreleased f.phases t phase.Returned phase.Released (read_phase kept here stands) in
      let one = held_one phase.Returned refl in
      let none : ◌≡◌ {A = ℕ} (cond (is_unreleased phase.Released) 1 0) 0 = refl in
      let counts = kept.counted.unreleased_is in
      omega arith

  -- a task is released
  pub release_counted : {t : ℕ} {def : TaskDef} {task : Task} {handed : List Bool} {waits : List ℕ} {gone : LetGo} {bound : ℕ → List ReqNo}
      → Found f t def task → task.phase ≡ phase.Returned → handed ≡ f.handed → waits ≡ slice_set f.waits t 1 → GoneMore (gone_in f) gone
      → BoundAsBefore (bound_of f) bound
      → IsCounted f.program gone handed (slice_set f.phases t phase.Released) bound f.exchange (f.unreleased - 1) waits
  release_counted {t = t} {waits = waits} {gone = gone} {bound = bound} here stands marks is_ws more same =
      let some = some_unreleased here stands in
      let none : ◌≡◌ {A = ℕ} (cond (is_unreleased phase.Released) 1 0) 0 = refl in
      subst (λ (z : List Bool). IsCounted f.program gone z (slice_set f.phases t phase.Released) bound f.exchange (f.unreleased - 1) waits) (sym marks)
      (counted_next phase.Released here stands refl refl is_ws (omega arith) more same)
