-- What a book counts after the call of a posting, which may complete a request of any task.
use Rattle.std.proofs.Common.{◌≡◌, ◌≢◌, ℕ, ◌+◌, ◌<◌, Bool, true, false, cond, List, [], ◌∷◌, length, get_or, slice_get, slice_set, Option, Some}
use Rattle.std.proofs.Common.{refl, sym, ap, ◌∙◌, subst, inl, inr, arith}
use Rattle.std.specs.Prelude.{ℤ, count_by}
use Rattle.std.specs.List.{list_any}
use Rattle.std.proofs.lemmas.Bool.{false_from_ne_true}
use Rattle.std.proofs.lemmas.Option.{slice_get_within, slice_get-get_or}
use Rattle.rt_base.specs.declared.data.ReqNo.{ReqNo}
use Rattle.rt_base.specs.declared.data.Phase.{Phase}
use Rattle.rt_base.specs.declared.data.Phase.TheVariants as phase
use Rattle.rt_base.specs.declared.data.Op.{Op}
use Rattle.rt_base.specs.declared.data.TaskDef.{TaskDef}
use Rattle.rt_base.specs.declared.data.Program.{Program}
use Rattle.rt_base.specs.Operations.{request, nth_at, postings, awaited_by}
use Rattle.rt_base.specs.Matching.{same_request}
use Rattle.rt_base.specs.Exchange.{Exchange}
use Rattle.rt_base.specs.Completion.{is_complete}
use Rattle.rt_base.specs.Precedes.{LetGo, GoneMore}
use Rattle.rt_base.specs.State.{Task, is_released}
use Rattle.task_local.specs.Local.{stop}
use Rattle.task_local.specs.Standing.{no_task}
use Rattle.task_machine.specs.Machine.{awaited_at, open_count}
use Rattle.task_machine.proofs.Items.{either_place}
use Rattle.tidy_runs.specs.Tidy.{AreOf, called}
use Rattle.wait_steps.specs.MarkedRows.{is_marked}
use Rattle.book_counts.specs.Counted.{IsBinding, IsCounted, waits_at, holds_now, completed_now, one_less_for}
use Rattle.book_counts.proofs.Awaiting.{awaited_is}
use Rattle.book_counts.proofs.Bindings.{BoundAsBefore}
use Rattle.book_counts.proofs.CountLemmas.{counted_after, held_one, stop_is_held, stop_waits}
use Rattle.book_counts.proofs.OpenCounts.{none_of_others, open_one}
use Rattle.book_counts.proofs.Figures.{Figures, AreKept, Found, Standing, gone_in, bound_of, bound_at_task, standing, read_phase, tidy_of, as_many}
use Rattle.book_counts.proofs.Tallies.{Completes, IsListed, beside, heard, heard_own, heard_once, holds_is, length-one_less_for, tally_after, waits_parts}

own_waits : (p : Program) (x : Exchange) (h : List Bool) (t k : ℕ) (def : TaskDef) (op : Op) (blocking : Bool) → slice_get p.tasks.items t ≡ Some def
    → slice_get def.body.items k ≡ Some op
    → awaited_by t (nth_at def k) (Some op) ≡ cond blocking (request t (nth_at def k) ∷ []) []
    → (bound : List ReqNo)
    → waits_at p x h t (cond blocking (phase.In k) (stop def (k + 1))) bound ≡ cond blocking (cond (is_complete p x (request t (nth_at def k))) 0 1) 0
own_waits p x h t k def op true is_def is_op listed bound =
    ap (λ (o : Option TaskDef). open_count p x (awaited_at t o (Some (phase.In k)))) is_def
    ∙ ap (open_count p x) (awaited_is t def k op is_op ∙ listed) ∙ open_one p x (request t (nth_at def k))
own_waits p x h t k def op false is_def is_op listed bound = stop_waits p x h t def (k + 1) bound

none_beside : (n : ℕ) → n ≡ 0 + n
none_beside n = omega arith

held_after : (def : TaskDef) (k : ℕ) (blocking : Bool) → is_released (cond blocking (phase.In k) (stop def (k + 1))) ≡ false
held_after def k true = refl
held_after def k false = stop_is_held def (k + 1)

module _ {f : Figures} (kept : AreKept f) where
  found_at : {u : ℕ} {def : TaskDef} {at : Phase} → slice_get f.program.tasks.items u ≡ Some def → (there : Standing f.state u at) → Found f u def there.task
  found_at is_def there = record { is_def = is_def; is_task = there.is_task }

  -- that for which another task waits
  heard_listed : (u : ℕ) (def : TaskDef) (at : Phase) (own : ReqNo) → slice_get f.program.tasks.items u ≡ Some def → slice_get f.phases u ≡ Some at
      → own.task.0 ≢ u
      → IsListed u own (holds_now f.program f.phases f.marks) (heard u (slice_get f.program.tasks.items u) at (bound_of f u))
  heard_listed u def at own is_def here apart =
      let p : Program = f.program in
      let bound : List ReqNo = bound_of f u in
      let there = standing f.state f.phases u at kept.phases_are here in
      let tidy = tidy_of kept (found_at is_def there) in
      let is_bound : bound ≡ there.task.bound = bound_at_task f.state u there.task there.is_task in
      let awaits : awaited_at u (Some def) (Some there.task.phase) ≡ awaited_at u (slice_get p.tasks.items u) (Some at) =
      ap (λ (q : Phase). awaited_at u (Some def) (Some q)) there.stands ∙ ap (λ (o : Option TaskDef). awaited_at u o (Some at)) (sym is_def) in
      let own_task : AreOf u (heard u (slice_get p.tasks.items u) at bound) =
      heard_own u (slice_get p.tasks.items u) at bound (subst (AreOf u) awaits tidy.awaited_own) (subst (AreOf u) (sym is_bound) tidy.bound.own) in
      record {
        own_task = own_task;
        once = λ req. heard_once u (slice_get p.tasks.items u) at bound req
            (let most = tidy.awaited_once req in let same = ap (λ (reqs : List ReqNo). count_by (same_request req) reqs) awaits in omega arith)
            (let most = tidy.bound.once req in let same = ap (λ (reqs : List ReqNo). count_by (same_request req) reqs) is_bound in omega arith);
        fresh = none_of_others u (heard u (slice_get p.tasks.items u) at bound) own own_task apart;
        said_is = λ req same. holds_is p f.phases f.marks u at bound req here
            (kept.binding.marked req ∙ ap (λ (i : ℕ). list_any (same_request req) (bound_of f i)) same) same;
      }

  -- what the posting task has bound it has posted before
  fresh_own : {t k : ℕ} {def : TaskDef} {task : Task} → Found f t def task → task.phase ≡ phase.At k
      → list_any (same_request (request t (nth_at def k))) (bound_of f t) ≡ false
  fresh_own {t = t} {k = k} {def = def} {task = task} here stands =
      let own : ReqNo = request t (nth_at def k) in
      let tidy = tidy_of kept here in
      false_from_ne_true (list_any (same_request own) (bound_of f t)) (λ is.
      let below = tidy.bound.posted (nth_at def k) (sym (ap (list_any (same_request own)) (bound_at_task f.state t task here.is_task)) ∙ is) in
      let front : postings (called def task.phase) ≡ nth_at def k = ap (λ (q : Phase). postings (called def q)) stands in
      absurd (omega arith))

  -- what a task has bound
  bound_listed : {t k : ℕ} {def : TaskDef} {task : Task} (u : ℕ) → Found f t def task → task.phase ≡ phase.At k → u < length f.program.tasks.items
      → IsListed u (request t (nth_at def k)) (is_marked f.marks) (bound_of f u)
  bound_listed {t = t} {k = k} {def = def} u here stands within =
      let own : ReqNo = request t (nth_at def k) in
      let bound : List ReqNo = bound_of f u in
      let count = as_many kept in
      let read = slice_get-get_or f.phases u phase.Waiting (omega arith) in
      let there = standing f.state f.phases u (get_or f.phases u phase.Waiting) kept.phases_are read in
      let tidy = tidy_of kept (found_at (slice_get-get_or f.program.tasks.items u no_task within) there) in
      let is_bound : bound ≡ there.task.bound = bound_at_task f.state u there.task there.is_task in
      let own_task : AreOf u bound = subst (AreOf u) (sym is_bound) tidy.bound.own in
      record {
        own_task = own_task;
        once = λ req. let most = tidy.bound.once req in let same = ap (λ (reqs : List ReqNo). count_by (same_request req) reqs) is_bound in omega arith;
        fresh = elim (either_place u t) [
          | inl same ↦ ap (λ (i : ℕ). list_any (same_request own) (bound_of f i)) same ∙ fresh_own here stands
          | inr other ↦ none_of_others u bound own own_task (λ e. other (sym e))
        ];
        said_is = λ req same. kept.binding.marked req ∙ ap (λ (i : ℕ). list_any (same_request req) (bound_of f i)) same;
      }

  -- the numbers of the others after the posting
  others_told : (u : ℕ) (own : ReqNo) (at : Phase) (bound : ℕ → List ReqNo) (cells : List ℤ) (x' : Exchange) (found : Option ReqNo)
      → Completes f.program f.exchange x' own cells found → slice_get f.phases u ≡ Some at → own.task.0 ≢ u → bound u ≡ bound_of f u
      → slice_get (one_less_for f.waits (completed_now f.program (holds_now f.program f.phases f.marks) found)) u
      ≡ Some (waits_at f.program x' f.handed u at (bound u))
  others_told u own at bound cells x' found made here apart same =
      let p : Program = f.program in
      let h : List Bool = f.handed in
      let had : List ReqNo = bound_of f u in
      let count = as_many kept in
      let within : u < length p.tasks.items = omega (arith, slice_get_within f.phases u at here, count) in
      tally_after p f.exchange x' own cells found (holds_now p f.phases f.marks) u (beside h u at) (heard u (slice_get p.tasks.items u) at had) f.waits made
      (heard_listed u (get_or p.tasks.items u no_task) at own (slice_get-get_or p.tasks.items u no_task within) here apart)
      (kept.counted.waits_are u at here ∙ ap Some (waits_parts p f.exchange h u at had))
      ∙ ap Some (sym (waits_parts p x' h u at had)) ∙ ap (λ (z : List ReqNo). Some (waits_at p x' h u at z)) (sym same)

  -- the counts after the call of a posting
  pub call_counted : {t k number : ℕ} {def : TaskDef} {task : Task} {at : Phase} {waits : List ℕ} {gone : LetGo} {bound : ℕ → List ReqNo} {x' : Exchange}
      {cells : List ℤ} {found : Option ReqNo} (op : Op) (blocking : Bool) → Found f t def task → task.phase ≡ phase.At k → slice_get def.body.items k ≡ Some op
      → awaited_by t (nth_at def k) (Some op) ≡ cond blocking (request t (nth_at def k) ∷ []) []
      → Completes f.program f.exchange x' (request t (nth_at def k)) cells found
      → number ≡ cond blocking (cond (is_complete f.program x' (request t (nth_at def k))) 0 1) 0
      → waits ≡ slice_set (one_less_for f.waits (completed_now f.program (holds_now f.program f.phases f.marks) found)) t number
      → at ≡ cond blocking (phase.In k) (stop def (k + 1)) → GoneMore (gone_in f) gone → BoundAsBefore (bound_of f) bound
      → IsCounted f.program gone f.handed (slice_set f.phases t at) bound x' f.unreleased waits
  call_counted {t = t} {k = k} {def = def} {waits = waits} {gone = gone} {bound = bound} {x' = x'} {cells = cells} {found = found} op blocking here stands is
      listed made is_number is_ws is_at more same =
      let p : Program = f.program in
      let h : List Bool = f.handed in
      let own : ReqNo = request t (nth_at def k) in
      let next : Phase = cond blocking (phase.In k) (stop def (k + 1)) in
      let told : List ReqNo = completed_now p (holds_now p f.phases f.marks) found in
      subst (λ (q : Phase). IsCounted p gone h (slice_set f.phases t q) bound x' f.unreleased waits) (sym is_at)
      (counted_after p (gone_in f) gone h f.phases (bound_of f) bound f.exchange x' f.unreleased f.unreleased f.waits (one_less_for f.waits told) waits t
      (phase.At k) next kept.counted more (read_phase kept here stands) refl (length-one_less_for f.waits told)
      (λ u q other there. others_told u own q bound cells x' found made there (λ e. other (sym e)) (same u))
      (is_ws ∙ ap (slice_set (one_less_for f.waits told) t) (is_number ∙ sym (own_waits p x' h t k def op blocking here.is_def is listed (bound t))))
      (ap (λ n. f.unreleased + n) (sym (held_one next (held_after def k blocking)))))

  -- what is bound after the call of a posting
  pub binding_call : {t k : ℕ} {def : TaskDef} {task : Task} {incomplete : List ℕ} {bound : ℕ → List ReqNo} {x' : Exchange} {cells : List ℤ}
      {found : Option ReqNo} → Found f t def task → task.phase ≡ phase.At k → Completes f.program f.exchange x' (request t (nth_at def k)) cells found
      → incomplete ≡ one_less_for f.incomplete (completed_now f.program (is_marked f.marks) found) → BoundAsBefore (bound_of f) bound
      → IsBinding f.program bound x' f.marks f.bound incomplete
  binding_call {t = t} {k = k} {def = def} {bound = bound} {x' = x'} {cells = cells} {found = found} here stands made lowered same =
      let p : Program = f.program in
      let told : List ReqNo = completed_now p (is_marked f.marks) found in
      let binding = kept.binding in
      record {
        marked = λ req. binding.marked req ∙ ap (list_any (same_request req)) (sym (same req.task.0));
        have = binding.have;
        long = binding.long;
        numbers_are = λ u within. binding.numbers_are u within ∙ ap (λ (reqs : List ReqNo). Some (length reqs)) (sym (same u));
        long_incomplete = ap (λ (z : List ℕ). length z) lowered ∙ length-one_less_for f.incomplete told ∙ binding.long_incomplete;
        incomplete_are = λ u within.
            ap (λ (z : List ℕ). slice_get z u) lowered
            ∙ tally_after p f.exchange x' (request t (nth_at def k)) cells found (is_marked f.marks) u 0 (bound_of f u) f.incomplete made
            (bound_listed u here stands within) (binding.incomplete_are u within ∙ ap Some (none_beside (open_count p f.exchange (bound_of f u))))
            ∙ ap Some (sym (none_beside (open_count p x' (bound_of f u)))) ∙ ap (λ (reqs : List ReqNo). Some (open_count p x' reqs)) (sym (same u));
      }
