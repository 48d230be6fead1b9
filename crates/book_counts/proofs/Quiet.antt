-- What the counts of a book say of who may move.
use Rattle.std.proofs.Common.{◌≡◌, ◌≢◌, ℕ, zero, suc, ◌<◌, ◌↔◌, ◌⊎◌, Bool, true, false, cond, List, [], ◌∷◌, length, get_or, slice_get, slice_set, Some, refl}
use Rattle.std.proofs.Common.{sym, ap, ◌∙◌, subst, inl, inr, arith}
use Rattle.std.specs.Prelude.{count_by}
use Rattle.std.proofs.lemmas.Bool.{cases_Bool}
use Rattle.std.proofs.lemmas.Option.{slice_get_within, slice_get-get_or}
use Rattle.rt_base.specs.declared.data.Phase.{Phase}
use Rattle.rt_base.specs.declared.data.Phase.TheVariants as phase
use Rattle.rt_base.specs.declared.data.TaskDef.{TaskDef}
use Rattle.rt_base.specs.declared.data.Program.{Program}
use Rattle.rt_base.specs.Precedes.{LetGo, MayStart}
use Rattle.rt_base.specs.Exchange.{Exchange}
use Rattle.rt_base.specs.MayMove.{MayMove, MayMoveAt}
use Rattle.rt_base.specs.State.{Task}
use Rattle.task_local.specs.Standing.{no_task}
use Rattle.task_machine.specs.Legal.{IsQuiet}
use Rattle.task_machine.proofs.Items.{same_some}
use Rattle.book_counts.specs.Counted.{IsCounted, is_zero, waits_at}
use Rattle.book_counts.proofs.CountLemmas.{counted_ready, handed_waits, waits_for_none, zero_counts, count_no_zero}
use Rattle.book_counts.proofs.Figures.{Figures, AreKept, bound_of, gone_in, bound_at_task, phase_read, standing, as_many}

pub either_waits : (at : Phase) → (at ≡ phase.Waiting) ⊎ (at ≢ phase.Waiting)
either_waits phase.Waiting = inl refl
either_waits (phase.At k) = inr (λ e. absurd (cc e))
either_waits (phase.In k) = inr (λ e. absurd (cc e))
either_waits phase.Ended = inr (λ e. absurd (cc e))
either_waits phase.Returned = inr (λ e. absurd (cc e))
either_waits phase.Released = inr (λ e. absurd (cc e))

handed_if : (h : List Bool) (t : ℕ) → ◌≡◌ {A = ℕ} (cond (get_or h t false) 0 1) 0 → slice_get h t ≡ Some true
handed_if [] t none = absurd (cc none)
handed_if (true ∷ h) zero none = refl
handed_if (false ∷ h) zero none = absurd (cc none)
handed_if (b ∷ h) (suc t) none = handed_if h t none

-- a task that may start was not handed out
abbrev pub MayBeHanded : List Bool → Program → LetGo → ℕ → Type 0
MayBeHanded handed p gone t = (slice_get handed t ≡ Some false) × MayStart p gone t

module _ {f : Figures} (kept : AreKept f) where
  -- the counts for a task that was started
  pub started_answer : (t r : ℕ) (at : Phase) (def : TaskDef) (task : Task) → slice_get f.phases t ≡ Some at → at ≢ phase.Waiting
      → slice_get f.waits t ≡ Some r → slice_get f.program.tasks.items t ≡ Some def → slice_get f.state.tasks t ≡ Some task
      → (r ≡ 0) ↔ MayMoveAt f.program f.state.tasks f.state.exchange t def task at
  started_answer t r at def task here started read is_def is_task =
      let p : Program = f.program in
      let is_r : waits_at p f.exchange f.handed t at (bound_of f t) ≡ r = same_some (sym (kept.counted.waits_are t at here) ∙ read) in
      let own : waits_at p f.state.exchange f.handed t at task.bound ≡ r =
      ap (waits_at p f.state.exchange f.handed t at) (sym (bound_at_task f.state t task is_task))
      ∙ ap (λ (e : Exchange). waits_at p e f.handed t at (bound_of f t)) (sym kept.exchange_is) ∙ is_r in
      subst (λ k. (k ≡ 0) ↔ MayMoveAt p f.state.tasks f.state.exchange t def task at) own
      (waits_for_none p f.state f.handed t def task at is_def started)

  -- a waiting task that may start was handed out and counted, or may be handed out
  waiting_counts : (t : ℕ) (may : MayMove f.program f.state t) → may.task.phase ≡ phase.Waiting → count_by is_zero f.waits ≡ 0
      → ((u : ℕ) → ¬ MayBeHanded f.handed f.program (gone_in f) u) → ⊥
  waiting_counts t may waits none nothing =
      let p : Program = f.program in
      let here : slice_get f.phases t ≡ Some phase.Waiting = phase_read f.state f.phases t may.task kept.phases_are may.is_task ∙ ap Some waits in
      let start : MayStart p (gone_in f) t =
      subst (λ (q : Phase). MayMoveAt p f.state.tasks f.state.exchange t may.def may.task q) waits may.enabled in
      let within : t < length p.tasks.items = slice_get_within p.tasks.items t may.def may.is_def in
      let places = kept.long in
      elim (cases_Bool (get_or f.handed t false)) [
        | inl handed ↦
            zero_counts f.waits t (kept.counted.waits_are t phase.Waiting here ∙ ap Some (handed_waits p f.exchange f.handed t (bound_of f t) handed)) none
        | inr not_yet ↦ nothing t (slice_get-get_or f.handed t false (omega arith) ∙ ap Some not_yet, start)
      ]

  -- where nothing was counted and nothing may be handed out no task may move
  pub quiet_if : count_by is_zero f.waits ≡ 0 → ((t : ℕ) → ¬ MayBeHanded f.handed f.program (gone_in f) t) → IsQuiet f.program f.state
  quiet_if none nothing t may = elim (either_waits may.task.phase) [
    | inl waits ↦ waiting_counts t may waits none nothing
    | inr started ↦
        let here : slice_get f.phases t ≡ Some may.task.phase = phase_read f.state f.phases t may.task kept.phases_are may.is_task in
        let r = waits_at f.program f.exchange f.handed t may.task.phase (bound_of f t) in
        let read : slice_get f.waits t ≡ Some r = kept.counted.waits_are t may.task.phase here in
        let is_none : r ≡ 0 = (started_answer t r may.task.phase may.def may.task here started read may.is_def may.is_task).1 may.enabled in
        zero_counts f.waits t (read ∙ ap Some is_none) none
  ]

  -- a task that stands there may move as that allows
  moves_at : (t : ℕ) (at : Phase) → slice_get f.phases t ≡ Some at → t < length f.program.tasks.items
      → ((task : Task) → slice_get f.state.tasks t ≡ Some task
      → MayMoveAt f.program f.state.tasks f.state.exchange t (get_or f.program.tasks.items t no_task) task at) → MayMove f.program f.state t
  moves_at t at here within enabled =
      let stands = standing f.state f.phases t at kept.phases_are here in
      let def : TaskDef = get_or f.program.tasks.items t no_task in
      record {
        def = def;
        task = stands.task;
        is_def = slice_get-get_or f.program.tasks.items t no_task within;
        is_task = stands.is_task;
        enabled = subst (MayMoveAt f.program f.state.tasks f.state.exchange t def stands.task) (sym stands.stands) (enabled stands.task stands.is_task);
      }

  -- a task that waits for nothing may move
  moves_if_zero : (t : ℕ) (at : Phase) → slice_get f.waits t ≡ Some 0 → slice_get f.phases t ≡ Some at → MayMove f.program f.state t
  moves_if_zero t at nothing here =
      let p : Program = f.program in
      let count = as_many kept in
      let within : t < length p.tasks.items = omega (arith, slice_get_within f.phases t at here, count) in
      moves_at t at here within (λ task is_task. elim (either_waits at) [
        | inl waits ↦
            let waiting : slice_get f.phases t ≡ Some phase.Waiting = here ∙ ap Some waits in
            let none : ◌≡◌ {A = ℕ} (cond (get_or f.handed t false) 0 1) 0 = same_some (sym (kept.counted.waits_are t phase.Waiting waiting) ∙ nothing) in
            subst (MayMoveAt p f.state.tasks f.state.exchange t (get_or p.tasks.items t no_task) task) (sym waits)
            (kept.counted.let_in t (handed_if f.handed t none))
        | inr started ↦
            (started_answer t 0 at (get_or p.tasks.items t no_task) task here started nothing (slice_get-get_or p.tasks.items t no_task within) is_task).0 refl
      ])

  -- a task that was not handed out was not started
  not_started : (t : ℕ) (at : Phase) → slice_get f.handed t ≡ Some false → slice_get f.phases t ≡ Some at → at ≡ phase.Waiting
  not_started t at not_yet here = elim (either_waits at) [
    | inl waits ↦ waits
    | inr started ↦ absurd (cc (not_yet, kept.begun t at here started))
  ]

  pub waits_still : (t : ℕ) → MayBeHanded f.handed f.program (gone_in f) t → slice_get f.phases t ≡ Some phase.Waiting
  waits_still t may =
      let exists : t < length f.program.tasks.items = may.1.exists in
      let count = as_many kept in
      let here = slice_get-get_or f.phases t phase.Waiting (omega arith) in
      here ∙ ap Some (not_started t (get_or f.phases t phase.Waiting) may.0 here)

  -- where no task may move nothing is counted, and nothing may be handed out
  pub none_counted : IsQuiet f.program f.state → count_by is_zero f.waits ≡ 0
  none_counted quiet =
      count_no_zero f.waits (λ t nothing.
      let within : t < length f.waits = slice_get_within f.waits t 0 nothing in
      let long : length f.waits ≡ length f.phases = kept.counted.long in
      quiet t (moves_if_zero t (get_or f.phases t phase.Waiting) nothing (slice_get-get_or f.phases t phase.Waiting (omega arith))))

  pub none_left : IsQuiet f.program f.state → (t : ℕ) → ¬ MayBeHanded f.handed f.program (gone_in f) t
  none_left quiet t may = quiet t (moves_at t phase.Waiting (waits_still t may) may.1.exists (λ task is_task. may.1))

  -- the counts after a task was handed out
  pub ready_counted : (t : ℕ) (handed : List Bool) (waits : List ℕ) → MayBeHanded f.handed f.program (gone_in f) t → handed ≡ slice_set f.handed t true
      → waits ≡ slice_set f.waits t 0 → IsCounted f.program (gone_in f) handed f.phases (bound_of f) f.exchange f.unreleased waits
  ready_counted t handed waits may is_h is_ws =
      counted_ready f.program (gone_in f) f.handed handed f.phases (bound_of f) f.exchange f.unreleased f.waits waits t kept.counted may.0
      (waits_still t may) may.1 is_h is_ws
