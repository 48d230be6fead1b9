-- What the end of a wait owes, in terms of a book's fields.
use Rattle.std.proofs.Common.{◌≡◌, ℕ, ◌+◌, ◌^◌, ◌<◌, ◌≤◌, true, false, List, length, slice_get, Some, None, Option}
use Rattle.std.proofs.Common.{refl, sym, ap, ◌∙◌, subst, arith}
use Rattle.std.specs.Prelude.{ℤ}
use Rattle.rt_base.specs.declared.data.Span.{Span}
use Rattle.rt_base.specs.declared.data.Handle.{Handle}
use Rattle.rt_base.specs.declared.data.Op.{Op}
use Rattle.rt_base.specs.declared.data.Op.TheVariants as op
use Rattle.rt_base.specs.declared.data.Phase.{Phase}
use Rattle.rt_base.specs.declared.data.Status.{Status}
use Rattle.rt_base.specs.declared.data.TaskDef.{TaskDef}
use Rattle.rt_base.specs.declared.data.Program.{Program}
use Rattle.rt_base.specs.Operations.{named_requests}
use Rattle.rt_base.specs.Exchange.{Exchange}
use Rattle.rt_base.specs.MayMove.{AreComplete}
use Rattle.task_local.specs.Waits.{handles_of, taken, told, status_span_of, statuses_of, stored_by_handles, put_statuses}
use Rattle.task_local.specs.Standing.{def_of, phase_before}
use Rattle.task_local.specs.StandsFor.{Record}
use Rattle.task_machine.specs.Laws.{is_blocking_call}
use Rattle.wait_steps.specs.StatusSpans.{HasPlaces}
use Rattle.book_parts.specs.Kept.{BookParts, IsAwait, IsWait, KeepsState, is_posting_at, state_now}
use Rattle.run_bounds.proofs.Tells.{statuses_each}
use Rattle.run_bounds.proofs.Operations.{few_handles, operation_is}
use Rattle.book_parts.proofs.LeaveMoved.{leave_room}
use Rattle.book_parts.proofs.Within.{Within, enabled_in, stored_def}
use Rattle.wait_steps.proofs.Naming.{places_of}
use Rattle.book_parts.proofs.AwaitLemmas.{AwaitIs, wait_is}
use Rattle.book_parts.proofs.WaitLemmas.{wait_awaits}

-- a task that is in a wait, and the handles that the code has read there
pub record InWait (parts : BookParts) (held : Record) (t k : ℕ) (def : TaskDef) (named : List Handle) : Type 0 where
  pub in_it : Within parts held t k def
  pub asked : AwaitIs false (slice_get def.body.items k)
  pub names : named ≡ asked.handles.items

-- an operation that blocks and is no posting is a wait
waits_in : (o : Option Op) → is_blocking_call o ≡ true → is_posting_at o ≡ false → IsWait o
waits_in None blocking posts = absurd (cc blocking)
waits_in (Some (op.Compute kind dst left right value step)) blocking posts = absurd (cc blocking)
waits_in (Some (op.Post how span peer tag comm status)) blocking posts = absurd (cc posts)
waits_in (Some (op.Await true handles status)) blocking posts = absurd (cc blocking)
waits_in (Some (op.Await false handles status)) blocking posts = refl

-- a wait, now or later
waits_some_time : (o : Option Op) → IsWait o → IsAwait o
waits_some_time None waits = absurd (cc waits)
waits_some_time (Some (op.Compute kind dst left right value step)) waits = absurd (cc waits)
waits_some_time (Some (op.Post how span peer tag comm status)) waits = absurd (cc waits)
waits_some_time (Some (op.Await later handles status)) waits = refl

pub is_wait : {parts : BookParts} {held : Record} {t k : ℕ} {def : TaskDef} → Within parts held t k def
    → is_posting_at (slice_get (def_of held.program held.task).body.items k) ≡ false → IsWait (slice_get def.body.items k)
is_wait {k = k} {def = def} w other =
    waits_in (slice_get def.body.items k) w.blocking
    (subst (λ (d : TaskDef). is_posting_at (slice_get d.body.items k) ≡ false) w.here.held_def other)

pub is_await : {parts : BookParts} {held : Record} {t k : ℕ} {def : TaskDef} → Within parts held t k def
    → is_posting_at (slice_get (def_of held.program held.task).body.items k) ≡ false → IsAwait (slice_get def.body.items k)
is_await {k = k} {def = def} w other = waits_some_time (slice_get def.body.items k) (is_wait w other)

pub in_wait : {parts : BookParts} {held : Record} {t k : ℕ} {def : TaskDef} {named : List Handle} → Within parts held t k def
    → is_posting_at (slice_get (def_of held.program held.task).body.items k) ≡ false → handles_of 0 (slice_get def.body.items k) ≡ named
    → InWait parts held t k def named
in_wait {k = k} {def = def} w other read =
    let asked = wait_is (slice_get def.body.items k) (is_wait w other) in
    record { in_it = w; asked = asked; names = sym read ∙ ap (handles_of 0) asked.is }

wait_takes : (p : Program) (e : Exchange) (t k : ℕ) (def : TaskDef) (w : AwaitIs false (slice_get def.body.items k)) (copy : List ℤ)
    → taken p e t def k copy
    ≡ put_statuses def w.status (statuses_of p e t w.handles.items) (stored_by_handles p e t def w.handles.items copy)
unfolding taken told
wait_takes p e t k def w copy = rw (w.is) refl

module _ {parts : BookParts} {held : Record} {t k : ℕ}
    {def : TaskDef} {named : List Handle} (kept : KeepsState parts) (w : InWait parts held t k def named) where
  -- its handles are counted in 32 bits
  pub wait_few : length named < 2 ^ 32
  wait_few =
      omega (
        arith,
        few_handles parts.program t k def false w.asked.handles w.asked.status kept.well w.in_it.here.is_def w.asked.is,
        ap (λ (z : List Handle). length z) w.names,
      )

  -- what it names is complete, as the task may move
  pub wait_complete : (u : ℕ) → u ≡ t → AreComplete parts.engine.program parts.engine.exchange (named_requests u named)
  wait_complete u who =
      subst (λ (v : ℕ). AreComplete parts.engine.program parts.engine.exchange (named_requests v named)) (sym who)
      (subst (λ (z : List Handle). AreComplete parts.engine.program parts.engine.exchange (named_requests t z)) (sym w.names)
      (subst (λ (q : Program). AreComplete q parts.engine.exchange (named_requests t w.asked.handles.items)) (sym kept.engine_of)
      (subst (λ (e : Exchange). AreComplete parts.program e (named_requests t w.asked.handles.items)) (sym kept.exchange_is)
      (subst (AreComplete parts.program (state_now parts).exchange) (wait_awaits t k def w.asked) (enabled_in w.in_it)))))

  statuses_here : statuses_of parts.engine.program parts.engine.exchange t named
      ≡ statuses_of parts.program (state_now parts).exchange t w.asked.handles.items
  statuses_here =
      ap (λ (q : Program). statuses_of q parts.engine.exchange t named) kept.engine_of
      ∙ ap (λ (e : Exchange). statuses_of parts.program e t named) kept.exchange_is ∙ ap (statuses_of parts.program (state_now parts).exchange t) w.names

  -- what it tells
  pub wait_tells : statuses_of parts.engine.program parts.engine.exchange t named ≡ told parts.program (state_now parts).exchange t def k
  unfolding told
  wait_tells = statuses_here ∙ rw (w.asked.is) refl

  -- there is room for its statuses
  pub wait_told_room : length parts.statuses + length named ≤ parts.status_places
  wait_told_room = omega (arith, leave_room w.in_it _ kept wait_tells, statuses_each parts.engine.program parts.engine.exchange t named)

  pub wait_declared : (stored : Record) (copy : List ℤ) (span : Option Span) (told_now : List Status) → stored ≡ record held { copy = copy }
      → status_span_of (slice_get def.body.items k) ≡ span → told_now ≡ statuses_of parts.engine.program parts.engine.exchange t named
      → HasPlaces (def_of stored.program stored.task) span (length told_now)
  wait_declared stored copy span told_now went read tells =
      let whose : w.asked.status ≡ span = sym (ap status_span_of w.asked.is) ∙ read in
      let long : length w.asked.handles.items ≡ length told_now =
      sym (ap (λ (z : List Status). length z) tells ∙ statuses_each parts.engine.program parts.engine.exchange t named
      ∙ ap (λ (z : List Handle). length z) w.names) in
      let places : HasPlaces def w.asked.status (length w.asked.handles.items) = places_of parts.program def w.asked.status (length w.asked.handles.items)
      (operation_is parts.program t k def (op.Await false w.asked.handles w.asked.status) kept.well w.in_it.here.is_def w.asked.is) in
      subst (λ (d : TaskDef). HasPlaces d span (length told_now)) (sym (stored_def held stored def copy w.in_it.here.held_def went))
      (subst (λ (o : Option Span). HasPlaces def o (length told_now)) whose (subst (λ (n : ℕ). HasPlaces def w.asked.status n) long places))

  -- the copy after both stores
  stored_here : (stored : Record) (u : ℕ) → u ≡ t → stored ≡ record held {
    copy = stored_by_handles parts.engine.program parts.engine.exchange u (def_of held.program held.task) named held.copy;
  } → stored.copy ≡ stored_by_handles parts.program (state_now parts).exchange t def w.asked.handles.items w.in_it.here.was.copy
  stored_here stored u who went =
      let p : Program = parts.program in
      let e : Exchange = (state_now parts).exchange in
      ap (λ (z : Record). z.copy) went
      ∙ ap (λ (q : Program). stored_by_handles q parts.engine.exchange u (def_of held.program held.task) named held.copy) kept.engine_of
      ∙ ap (λ (x : Exchange). stored_by_handles p x u (def_of held.program held.task) named held.copy) kept.exchange_is
      ∙ ap (λ (v : ℕ). stored_by_handles p e v (def_of held.program held.task) named held.copy) who
      ∙ ap (λ (d : TaskDef). stored_by_handles p e t d named held.copy) w.in_it.here.held_def
      ∙ ap (λ (z : List Handle). stored_by_handles p e t def z held.copy) w.names
      ∙ ap (stored_by_handles p e t def w.asked.handles.items) w.in_it.here.stands.1

  pub wait_end : (stored put_both after : Record) (u : ℕ) (span : Option Span) (told_now : List Status) (next : Phase) → u ≡ t
      → stored ≡ record held {
        copy = stored_by_handles parts.engine.program parts.engine.exchange u (def_of held.program held.task) named held.copy;
      }
      → status_span_of (slice_get def.body.items k) ≡ span → told_now ≡ statuses_of parts.engine.program parts.engine.exchange t named
      → put_both ≡ record stored { copy = put_statuses (def_of stored.program stored.task) span told_now stored.copy }
      → next ≡ phase_before def (k + 1) → after ≡ record put_both { phase = next }
      → after ≡ record held { phase = phase_before def (k + 1); copy = taken parts.program (state_now parts).exchange t def k w.in_it.here.was.copy }
  wait_end stored put_both after u span told_now next who went read tells went' is goes =
      let p : Program = parts.program in
      let e : Exchange = (state_now parts).exchange in
      let both : List ℤ = put_statuses (def_of stored.program stored.task) span told_now stored.copy in
      let copied : both ≡ taken p e t def k w.in_it.here.was.copy =
      ap (λ (d : TaskDef). put_statuses d span told_now stored.copy) (stored_def held stored def _ w.in_it.here.held_def went)
      ∙ ap (λ (o : Option Span). put_statuses def o told_now stored.copy) (sym read ∙ ap status_span_of w.asked.is)
      ∙ ap (λ (z : List Status). put_statuses def w.asked.status z stored.copy) (tells ∙ statuses_here)
      ∙ ap (put_statuses def w.asked.status (statuses_of p e t w.asked.handles.items)) (stored_here stored u who went)
      ∙ sym (wait_takes p e t k def w.asked w.in_it.here.was.copy) in
      goes ∙ ap (λ (z : Record). record z { phase = next }) (went' ∙ ap (λ (z : Record). record z { copy = both }) went)
      ∙ ap (λ (q : Phase). record held { copy = both; phase = q }) is
      ∙ ap (λ (z : List ℤ). record held { copy = z; phase = phase_before def (k + 1) }) copied
