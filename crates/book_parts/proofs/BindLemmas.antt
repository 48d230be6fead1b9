-- What the call of an operation that binds owes beside, in terms of a book's fields.
use Rattle.std.proofs.Common.{◌≡◌, ℕ, ◌+◌, ◌^◌, ◌<◌, ◌≤◌, Bool, true, List, ◌∷◌, [], ◌++◌, length, get_or, slice_set}
use Rattle.std.proofs.Common.{refl, sym, ap, ◌∙◌, subst, arith}
use Rattle.std.proofs.lemmas.Option.{slice_get_within, get_or_from_slice_get}
use Rattle.rt_base.specs.declared.data.ReqNo.{ReqNo}
use Rattle.rt_base.specs.declared.data.Handle.{Handle}
use Rattle.rt_base.specs.declared.data.Phase.{Phase}
use Rattle.rt_base.specs.declared.data.Phase.TheVariants as phase
use Rattle.rt_base.specs.declared.data.TaskDef.{TaskDef}
use Rattle.rt_base.specs.declared.data.Program.{Program}
use Rattle.rt_base.specs.Operations.{named_requests, postings}
use Rattle.rt_base.specs.Exchange.{Exchange}
use Rattle.rt_base.specs.State.{Task}
use Rattle.task_local.specs.Local.{advanced, stop}
use Rattle.task_local.specs.Standing.{phase_before}
use Rattle.task_local.specs.StandsFor.{Record, StandsAs}
use Rattle.task_machine.specs.Machine.{open_count, open_ones}
use Rattle.tidy_runs.specs.Tidy.{called}
use Rattle.wait_steps.specs.MarkedRows.{marked_all, HaveMarks}
use Rattle.wait_steps.proofs.Naming.{binding_has}
use Rattle.run_bounds.proofs.Few.{one_of_sum}
use Rattle.run_bounds.proofs.Rooms.{few_postings}
use Rattle.run_bounds.proofs.Tells.{posted_within}
use Rattle.run_bounds.proofs.Operations.{few_bound, named_open_few, open_few}
use Rattle.book_counts.specs.Counted.{IsBinding}
use Rattle.book_counts.proofs.Figures.{bound_at_task}
use Rattle.book_counts.proofs.Bindings.{BindsMore, binding_bind}
use Rattle.book_parts.specs.Ledger.{bound_in}
use Rattle.book_parts.specs.Kept.{BookParts, IsBook, state_now}
use Rattle.book_parts.proofs.Held.{stands_before}
use Rattle.book_parts.proofs.TidyBook.{tidy_now}
use Rattle.book_parts.proofs.AwaitLemmas.{Awaits, await_few}

-- the task after it has bound these requests
abbrev pub bound_task : Program → Exchange → TaskDef → ℕ → List ReqNo → Task → Task
bound_task p e def k reqs was = record was {
  phase = stop def (k + 1);
  copy = advanced def (k + 1) was.copy;
  named = was.named ++ k ∷ [];
  bound = was.bound ++ open_ones p e reqs;
}

-- the task after the call
abbrev pub bound_here : BookParts → ℕ → ℕ → TaskDef → List Handle → Task → Task
bound_here parts t k def handles was = bound_task parts.program (state_now parts).exchange def k (named_requests t handles) was

module _ {parts : BookParts} {held : Record} {t k : ℕ} {def : TaskDef} {named : List Handle} (w : Awaits parts held t k def true named) where
  pub bind_within : k < length def.body.items
  bind_within = slice_get_within def.body.items k _ w.asked.is

  pub bind_exists : t < length parts.program.tasks.items
  bind_exists = slice_get_within parts.program.tasks.items t def w.it.here.is_def

  pub bind_stands : {after : Record} {next : Phase} → next ≡ phase_before def (k + 1) → after ≡ record held { phase = next }
      → StandsAs def after.phase after.copy (bound_here parts t k def w.asked.handles.items w.it.here.was)
  bind_stands is went =
      subst (λ (z : Record). StandsAs def z.phase z.copy (bound_here parts t k def w.asked.handles.items w.it.here.was))
      (sym (went ∙ ap (λ (q : Phase). record held { phase = q }) is))
      (stands_before def (k + 1) held.copy (bound_here parts t k def w.asked.handles.items w.it.here.was) refl (ap (advanced def (k + 1)) (sym w.it.copy)))

module _ {parts : BookParts} {held : Record} {t k : ℕ} {def : TaskDef} {named : List Handle} (book : IsBook parts)
    (w : Awaits parts held t k def true named) where
  -- what it names has marks
  pub bind_has : HaveMarks parts.marks (named_requests t named)
  bind_has =
      subst (λ (z : List Handle). HaveMarks parts.marks (named_requests t z)) (sym w.names)
      (binding_has parts.program parts.marks t k def true w.asked.handles w.asked.status book.kept.well w.it.here.is_def w.asked.is book.binding.have)

  -- what a task has bound is counted in 32 bits, with what it binds now
  own_few : length w.it.here.was.bound ≤ 262144
  own_few =
      let tidy = tidy_now parts book.kept t def w.it.here.was w.it.here.is_def w.it.here.is_task in
      let some = few_bound t (called def w.it.here.was.phase) w.it.here.was.bound tidy.bound in
      let front : postings (called def w.it.here.was.phase) ≡ postings (called def (phase.At k)) = ap (λ (q : Phase). postings (called def q)) w.it.at in
      let all = one_of_sum (λ (d : TaskDef). postings d.body.items) parts.program.tasks.items t def w.it.here.is_def in
      omega (arith, some, front, posted_within def k, all, few_postings parts.program book.kept.well)

  pub bound_few : {count : ℕ} → count ≡ open_count parts.engine.program parts.engine.exchange (named_requests t named)
      → get_or parts.bound t 0 + count < 2 ^ 32
  bound_few counted =
      let number : get_or parts.bound t 0 ≡ length w.it.here.was.bound =
      get_or_from_slice_get parts.bound t _ 0 (book.binding.numbers_are t (bind_exists w))
      ∙ ap (λ (z : List ReqNo). length z) (bound_at_task (state_now parts) t w.it.here.was w.it.here.is_task) in
      omega (arith, own_few, await_few book.kept w, named_open_few parts.engine.program parts.engine.exchange t named)

  pub incomplete_few : {count : ℕ} → count ≡ open_count parts.engine.program parts.engine.exchange (named_requests t named)
      → get_or parts.incomplete t 0 + count < 2 ^ 32
  incomplete_few counted =
      let number : get_or parts.incomplete t 0 ≡ open_count parts.program parts.engine.exchange w.it.here.was.bound =
      get_or_from_slice_get parts.incomplete t _ 0 (book.binding.incomplete_are t (bind_exists w))
      ∙ ap (open_count parts.program parts.engine.exchange) (bound_at_task (state_now parts) t w.it.here.was w.it.here.is_task) in
      omega (
        arith,
        own_few,
        await_few book.kept w,
        named_open_few parts.engine.program parts.engine.exchange t named,
        open_few parts.program parts.engine.exchange w.it.here.was.bound,
      )

  -- the marks and numbers of what is bound then
  pub bind_binds : {count : ℕ} {more : ℕ → List ReqNo} {marks : List (List Bool)} {bound incomplete : List ℕ}
      → BindsMore t (open_ones parts.program (state_now parts).exchange (named_requests t w.asked.handles.items)) (bound_in (state_now parts)) more
      → count ≡ open_count parts.engine.program parts.engine.exchange (named_requests t named)
      → marks ≡ marked_all parts.marks (open_ones parts.engine.program parts.engine.exchange (named_requests t named))
      → bound ≡ slice_set parts.bound t (get_or parts.bound t 0 + count) → incomplete ≡ slice_set parts.incomplete t (get_or parts.incomplete t 0 + count)
      → IsBinding parts.program more parts.engine.exchange marks bound incomplete
  bind_binds {count = count} {more = more} binds counted marked raised raised' =
      let p : Program = parts.program in
      let e : Exchange = parts.engine.exchange in
      binding_bind p e _ more t count named parts.marks _ parts.bound _ parts.incomplete _ book.binding (bind_exists w) bind_has
      (subst (λ (z : List Handle). BindsMore t (open_ones p e (named_requests t z)) (bound_in (state_now parts)) more) (sym w.names)
      (subst (λ (x : Exchange). BindsMore t (open_ones p x (named_requests t w.asked.handles.items)) (bound_in (state_now parts)) more)
      (sym book.kept.exchange_is) binds))
      (counted ∙ ap (λ (q : Program). open_count q e (named_requests t named)) book.kept.engine_of)
      (marked ∙ ap (λ (q : Program). marked_all parts.marks (open_ones q e (named_requests t named))) book.kept.engine_of) raised raised'
