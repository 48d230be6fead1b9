-- What the call of a wait, or of an operation that binds, owes, in terms of a book's fields.
use Rattle.std.proofs.Common.{◌≡◌, ℕ, ◌+◌, ◌≤◌, Bool, true, false, cond, List, [], ◌∷◌, ◌++◌, length, slice_get, Some, None, Option}
use Rattle.std.proofs.Common.{refl, sym, ap, ◌∙◌, subst, arith}
use Rattle.rt_base.specs.Listing.{Listing}
use Rattle.rt_base.specs.declared.data.ReqNo.{ReqNo}
use Rattle.rt_base.specs.declared.data.Span.{Span}
use Rattle.rt_base.specs.declared.data.Handle.{Handle}
use Rattle.rt_base.specs.declared.data.Op.{Op}
use Rattle.rt_base.specs.declared.data.Op.TheVariants as op
use Rattle.rt_base.specs.declared.data.Phase.{Phase}
use Rattle.rt_base.specs.declared.data.Phase.TheVariants as phase
use Rattle.rt_base.specs.declared.data.Entry.{Entry}
use Rattle.rt_base.specs.declared.data.Entry.TheVariants as entry
use Rattle.rt_base.specs.declared.data.TaskDef.{TaskDef}
use Rattle.rt_base.specs.declared.data.Program.{Program}
use Rattle.rt_base.specs.Operations.{task_no, named_requests, nth_at}
use Rattle.rt_base.specs.Exchange.{Exchange}
use Rattle.rt_base.specs.State.{State, Task, is_released}
use Rattle.task_local.specs.Waits.{handles_of}
use Rattle.task_local.specs.Standing.{def_of, phase_before}
use Rattle.task_local.specs.StandsFor.{Record, StandsFor}
use Rattle.task_machine.specs.Machine.{Moved, move, call_move, await_move, with_task, open_count, open_ones}
use Rattle.task_machine.specs.Legal.{final}
use Rattle.task_machine.specs.Laws.{is_blocking_call}
use Rattle.task_machine.specs.Owed.{opened, opened_by}
use Rattle.task_machine.specs.Course.{posted_by_phase}
use Rattle.task_machine.proofs.Rows.{move-row}
use Rattle.run_bounds.proofs.Changes.{nth_at-same}
use Rattle.run_bounds.proofs.Operations.{few_handles}
use Rattle.book_parts.specs.Ledger.{Ledger, LeavesPending, record_at}
use Rattle.book_parts.specs.Kept.{BookParts, IsWait, IsBind, KeepsState, opens, state_now}
use Rattle.book_parts.proofs.Moved.{IsMoved, ledger_of, opened-row}
use Rattle.book_parts.proofs.Held.{handed_of, theirs}
use Rattle.book_parts.proofs.BookMoves.{moved_alone, parts_alone}
use Rattle.book_parts.proofs.Before.{Before, before, before_may}

-- the parts of an operation that waits for what it names, now or later
pub record AwaitIs (later : Bool) (operation : Option Op) : Type 0 where
  pub handles : Listing Handle
  pub status : Option Span
  pub is : operation ≡ Some (op.Await later handles status)

pub wait_is : (o : Option Op) → IsWait o → AwaitIs false o
wait_is None waits = absurd (cc waits)
wait_is (Some (op.Compute kind dst left right value step)) waits = absurd (cc waits)
wait_is (Some (op.Post how span peer tag comm status)) waits = absurd (cc waits)
wait_is (Some (op.Await true handles status)) waits = absurd (cc waits)
wait_is (Some (op.Await false handles status)) waits = record { handles = handles; status = status; is = refl }

pub bind_is : (o : Option Op) → IsBind o → AwaitIs true o
bind_is None binds = absurd (cc binds)
bind_is (Some (op.Compute kind dst left right value step)) binds = absurd (cc binds)
bind_is (Some (op.Post how span peer tag comm status)) binds = absurd (cc binds)
bind_is (Some (op.Await true handles status)) binds = record { handles = handles; status = status; is = refl }
bind_is (Some (op.Await false handles status)) binds = absurd (cc binds)

-- a task that is before such an operation, and the handles that the code has read there
pub record Awaits (parts : BookParts) (held : Record) (t k : ℕ) (def : TaskDef) (later : Bool) (named : List Handle) : Type 0 where
  pub asked : AwaitIs later (slice_get def.body.items k)
  pub it : Before parts held t k def (op.Await later asked.handles asked.status)
  pub names : named ≡ asked.handles.items

pub awaits : {later : Bool} (parts : BookParts) (held : Record) (t k : ℕ) (def : TaskDef) (named : List Handle) (l : Ledger) (prog : Program)
    → ledger_of parts ≡ l → prog ≡ l.program → StandsFor prog held (final prog l.history) → t ≡ held.task → slice_get prog.tasks.items t ≡ Some def
    → held.phase ≡ phase.At k → AwaitIs later (slice_get (def_of held.program held.task).body.items k)
    → handles_of 0 (slice_get def.body.items k) ≡ named → Awaits parts held t k def later named
awaits {later = later} parts held t k def named l prog view same stands who is_def place w read =
    let b = before parts held t k def (op.Await later w.handles w.status) l prog view same stands who is_def place w.is refl in
    record { asked = record { handles = w.handles; status = w.status; is = b.is }; it = b; names = sym read ∙ ap (handles_of 0) b.is }

-- the entry of the call
await_entry : (p : Program) (s : State) (t : ℕ) (def : TaskDef) (was : Task) (k : ℕ) (handles : List Handle) (later : Bool)
    → (await_move p s t def was k handles later).entry ≡ entry.Call (task_no t) k (open_count p s.exchange (named_requests t handles))
await_entry p s t def was k handles false = refl
await_entry p s t def was k handles true = refl

module _ {parts : BookParts} {held : Record} {t k : ℕ} {def : TaskDef} {later : Bool} {named : List Handle} (kept : KeepsState parts)
    (w : Awaits parts held t k def later named) where
  -- there is room for all that it opens, and its handles are few
  pub await_room : length named ≤ parts.opened_places
  await_room =
      let all : opens (slice_get def.body.items k) ≡ length w.asked.handles.items = ap opens w.asked.is in
      let room = kept.places.opened t k def w.it.here.is_def in
      omega (arith, ap (λ (z : List Handle). length z) w.names)

  pub await_few : length named ≤ 1048576
  await_few =
      omega (
        arith,
        few_handles parts.program t k def later w.asked.handles w.asked.status kept.well w.it.here.is_def w.asked.is,
        ap (λ (z : List Handle). length z) w.names,
      )

  -- it posts nothing
  pub await_posts : posted_by_phase def (phase.At k) ≡ nth_at def (k + 1)
  await_posts = sym (nth_at-same def k (op.Await later w.asked.handles w.asked.status) w.asked.is refl)

  -- the move
  await_made : move parts.program (state_now parts) t ≡ await_move parts.program (state_now parts) t def w.it.here.was k w.asked.handles.items later
  await_made =
      move-row parts.program (state_now parts) t def w.it.here.was (phase.At k) w.it.here.is_def w.it.here.is_task w.it.at
      ∙ ap (call_move parts.program (state_now parts) t def w.it.here.was k) w.asked.is

  -- what the engine says of the named requests is what the state says
  await_counts : {count : ℕ} → count ≡ open_count parts.engine.program parts.engine.exchange (named_requests t named)
      → count ≡ open_count parts.program (state_now parts).exchange (named_requests t w.asked.handles.items)
  await_counts counted =
      counted ∙ ap (λ (q : Program). open_count q parts.engine.exchange (named_requests t named)) kept.engine_of
      ∙ ap (λ (e : Exchange). open_count parts.program e (named_requests t named)) kept.exchange_is
      ∙ ap (λ (z : List Handle). open_count parts.program (state_now parts).exchange (named_requests t z)) w.names

  await_opens : {listed none : List ReqNo} → none ≡ []
      → listed ≡ none ++ open_ones parts.engine.program parts.engine.exchange (named_requests t named)
      → listed ≡ opened parts.program (state_now parts) t
  await_opens cleared opens =
      let p : Program = parts.program in
      let s : State = state_now parts in
      opens ∙ ap (λ (z : List ReqNo). z ++ open_ones parts.engine.program parts.engine.exchange (named_requests t named)) cleared
      ∙ ap (λ (q : Program). open_ones q parts.engine.exchange (named_requests t named)) kept.engine_of
      ∙ ap (λ (e : Exchange). open_ones p e (named_requests t named)) kept.exchange_is
      ∙ ap (λ (z : List Handle). open_ones p s.exchange (named_requests t z)) w.names
      ∙ sym (ap (opened_by p s t def w.it.here.was k) w.asked.is)
      ∙ sym (opened-row p s t def w.it.here.was (phase.At k) w.it.here.is_def w.it.here.is_task w.it.at)

  -- the insides after the call
  pub await_moved : {count : ℕ} {at : Phase} {entries : List Entry} {listed none : List ReqNo} {places places' : ℕ} (now : Task) (waits : List ℕ)
      (marks : List (List Bool)) (bound incomplete : List ℕ)
      → await_move parts.program (state_now parts) t def w.it.here.was k w.asked.handles.items later
      ≡ record {
        state = with_task (state_now parts) t now;
        entry = entry.Call (task_no t) k (open_count parts.program (state_now parts).exchange (named_requests t w.asked.handles.items));
      }
      → is_released now.phase ≡ false → at ≡ now.phase → count ≡ open_count parts.engine.program parts.engine.exchange (named_requests t named)
      → none ≡ [] → listed ≡ none ++ open_ones parts.engine.program parts.engine.exchange (named_requests t named)
      → entries ≡ parts.entries ++ entry.Call (task_no t) k count ∷ [] → parts.entry_places ≤ places → parts.opened_places ≤ places'
      → IsMoved parts (parts_alone parts t at entries listed places places' waits marks bound incomplete) t w.it.here.was now (record {
        state = with_task (state_now parts) t now;
        entry = entry.Call (task_no t) k (open_count parts.program (state_now parts).exchange (named_requests t w.asked.handles.items));
      })
  await_moved now waits marks bound incomplete goes held' stops counted cleared opens grown more more' =
      moved_alone now _ waits marks bound incomplete kept (before_may w.it) (await_made ∙ goes) w.it.here.is_task (ap is_released w.it.at) held'
      (handed_of parts held t def (phase.At k) (phase.At k) kept w.it.here w.it.at (λ e. absurd (cc e))) stops
      (grown ∙ ap (λ (n : ℕ). parts.entries ++ entry.Call (task_no t) k n ∷ []) (await_counts counted)) (await_opens cleared opens) more more'

  -- where the record is left
  pub await_left : {after : Record} {next : Phase}
      → next ≡ cond (is_blocking_call (Some (op.Await later w.asked.handles w.asked.status))) (phase.In k) (phase_before def (k + 1))
      → after ≡ record held { phase = next } → after ≡ record_at parts.program (state_now parts) def held (phase.At k)
  await_left is went =
      went ∙ ap (λ (q : Phase). record held { phase = q }) is
      ∙ ap (λ (b : Bool). record held { phase = cond b (phase.In k) (phase_before def (k + 1)) }) (sym (ap is_blocking_call w.asked.is))

  pub await_pending : {count : ℕ} {l : Ledger} {prog : Program} → count ≡ open_count parts.engine.program parts.engine.exchange (named_requests t named)
      → ledger_of parts ≡ l → prog ≡ l.program → LeavesPending (move prog (final prog l.history) held.task).entry count
  await_pending {count = count} {l = l} {prog = prog} counted view same =
      theirs (λ (q : Program) (es : List Entry). LeavesPending (move q (final q es) held.task).entry count) parts l prog view same
      (subst (λ (e : Entry). LeavesPending e count)
      (sym (ap (λ (z : Moved). z.entry) (ap (move parts.program (state_now parts)) (sym w.it.here.who) ∙ await_made)
      ∙ await_entry parts.program (state_now parts) t def w.it.here.was k w.asked.handles.items later)) (await_counts counted))
