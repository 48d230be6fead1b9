-- The marks and numbers of what tasks have bound, at first and where one binds more.
use Rattle.std.proofs.Common.{◌++◌, ◌≡◌, ◌≢◌, ℕ, ◌+◌, ◌<◌, Bool, ◌||◌, List, [], ◌∷◌, length, get_or, slice_get, slice_set, Option, Some, None}
use Rattle.std.proofs.Common.{IsSome}
use Rattle.std.proofs.Common.{refl, sym, ap, ◌∙◌, subst, inl, inr, arith}
use Rattle.std.specs.Prelude.{replicate, option_map}
use Rattle.std.specs.List.{list_any}
use Rattle.std.proofs.Math.Bool.{or-false}
use Rattle.std.proofs.lemmas.List.{length-append, length-set, length-replicate}
use Rattle.std.proofs.lemmas.List.Folds.{list_any-append}
use Rattle.std.proofs.lemmas.Option.{get_or_from_slice_get}
use Rattle.rt_base.specs.declared.data.ReqNo.{ReqNo}
use Rattle.rt_base.specs.declared.data.Handle.{Handle}
use Rattle.rt_base.specs.declared.data.Program.{Program}
use Rattle.rt_base.specs.Operations.{named_requests}
use Rattle.rt_base.specs.Matching.{same_request}
use Rattle.rt_base.specs.Exchange.{Exchange}
use Rattle.rt_base.specs.declared.data.Entry.{Entry}
use Rattle.rt_base.specs.State.{Task, waiting_task}
use Rattle.task_machine.specs.Legal.{final}
use Rattle.task_machine.specs.Machine.{bound_at, open_count, open_ones, or_none}
use Rattle.task_machine.proofs.Items.{either_place, at_replicate}
use Rattle.task_machine.proofs.Lists.{slice_get-set_same, slice_get-set_other}
use Rattle.task_machine.proofs.Owing.{count_open}
use Rattle.tidy_runs.specs.Tidy.{AreOf}
use Rattle.tidy_runs.proofs.Bodies.{named_own, open_own}
use Rattle.wait_steps.specs.MarkedRows.{is_marked, mark_of, marked_all, unmarked, HaveMarks}
use Rattle.wait_steps.proofs.Marking.{is_marked-all, none_marked, have_marks_first, HaveMarks-all}
use Rattle.book_counts.specs.Counted.{IsBinding}
use Rattle.book_counts.proofs.CountLemmas.{of_replicate}
use Rattle.book_counts.proofs.OpenCounts.{have_open, none_of_others, open-append, open-none, open_again}

-- each task has bound what it had bound
abbrev pub BoundAsBefore : (ℕ → List ReqNo) → (ℕ → List ReqNo) → Type 0
BoundAsBefore old new = (u : ℕ) → new u ≡ old u

-- task t has bound these requests too, and each other task what it had bound
pub record BindsMore (t : ℕ) (more : List ReqNo) (old new : ℕ → List ReqNo) : Type 0 where
  pub own : new t ≡ old t ++ more
  pub others : (u : ℕ) → u ≢ t → new u ≡ old u

-- each task has bound what it had
pub binding_same : (p : Program) (b b' : ℕ → List ReqNo) (x : Exchange) (marks : List (List Bool)) (ns left : List ℕ) → IsBinding p b x marks ns left
    → BoundAsBefore b b' → IsBinding p b' x marks ns left
binding_same p b b' x marks ns left binding same = record {
  marked = λ req. binding.marked req ∙ ap (list_any (same_request req)) (sym (same req.task.0));
  have = binding.have;
  long = binding.long;
  numbers_are = λ t within. binding.numbers_are t within ∙ ap (λ (reqs : List ReqNo). Some (length reqs)) (sym (same t));
  long_incomplete = binding.long_incomplete;
  incomplete_are = λ t within. binding.incomplete_are t within ∙ ap (λ (reqs : List ReqNo). Some (open_count p x reqs)) (sym (same t));
}

-- the marks, where task t has bound more
marked_more : (b b' : ℕ → List ReqNo) (t : ℕ) (more : List ReqNo) (marks : List (List Bool)) (req : ReqNo) → BindsMore t more b b' → AreOf t more
    → HaveMarks marks more → is_marked marks req ≡ list_any (same_request req) (b req.task.0)
    → is_marked (marked_all marks more) req ≡ list_any (same_request req) (b' req.task.0)
marked_more b b' t more marks req binds own have was = is_marked-all marks more req have ∙ elim (either_place req.task.0 t) [
  | inl same ↦
      ap (λ (m : Bool). m || list_any (same_request req) more) (was ∙ ap (λ (i : ℕ). list_any (same_request req) (b i)) same)
      ∙ sym (list_any-append (same_request req) (b t) more) ∙ ap (list_any (same_request req)) (sym binds.own)
      ∙ ap (λ (i : ℕ). list_any (same_request req) (b' i)) (sym same)
  | inr other ↦
      ap (λ (m : Bool). is_marked marks req || m) (none_of_others t more req own other) ∙ or-false (is_marked marks req) ∙ was
      ∙ ap (list_any (same_request req)) (sym (binds.others req.task.0 other))
]

-- a number of each task, where that of task t is so much more
raised : (f g : ℕ → ℕ) (tasks t u count : ℕ) (ns : List ℕ) → length ns ≡ tasks → t < tasks → slice_get ns t ≡ Some (f t) → slice_get ns u ≡ Some (f u)
    → g t ≡ f t + count → (u ≢ t → g u ≡ f u) → slice_get (slice_set ns t (get_or ns t 0 + count)) u ≡ Some (g u)
raised f g tasks t u count ns long within here there more others = elim (either_place u t) [
  | inl same ↦
      ap (slice_get (slice_set ns t (get_or ns t 0 + count))) same
      ∙ slice_get-set_same ns t (get_or ns t 0 + count) (omega arith)
      ∙ ap (λ (n : ℕ). Some (n + count)) (get_or_from_slice_get ns t (f t) 0 here) ∙ ap Some (sym more) ∙ ap (λ (i : ℕ). Some (g i)) (sym same)
  | inr other ↦ slice_get-set_other ns t u (get_or ns t 0 + count) other ∙ there ∙ ap Some (sym (others other))
]

-- task t has bound these requests too, each incomplete
pub binding_more : (p : Program) (b b' : ℕ → List ReqNo) (x : Exchange) (marks : List (List Bool)) (ns left : List ℕ) (t count : ℕ) (more : List ReqNo)
    → IsBinding p b x marks ns left → t < length p.tasks.items → AreOf t more → HaveMarks marks more → BindsMore t more b b'
    → count ≡ length more → count ≡ open_count p x more
    → IsBinding p b' x (marked_all marks more) (slice_set ns t (get_or ns t 0 + count)) (slice_set left t (get_or left t 0 + count))
binding_more p b b' x marks ns left t count more binding within own have binds is_length is_open = record {
  marked = λ req. marked_more b b' t more marks req binds own have (binding.marked req);
  have = λ req posts. (HaveMarks-all marks more (req ∷ []) have (binding.have req posts, tt)).0;
  long = length-set ns t (get_or ns t 0 + count) ∙ binding.long;
  numbers_are = λ u below.
      raised (λ i. length (b i)) (λ i. length (b' i)) (length p.tasks.items) t u count ns binding.long within (binding.numbers_are t within)
      (binding.numbers_are u below)
      (ap (λ (reqs : List ReqNo). length reqs) binds.own ∙ length-append (b t) more ∙ ap (λ (n : ℕ). length (b t) + n) (sym is_length))
      (λ other. ap (λ (reqs : List ReqNo). length reqs) (binds.others u other));
  long_incomplete = length-set left t (get_or left t 0 + count) ∙ binding.long_incomplete;
  incomplete_are = λ u below.
      raised (λ i. open_count p x (b i)) (λ i. open_count p x (b' i)) (length p.tasks.items) t u count left binding.long_incomplete within
      (binding.incomplete_are t within) (binding.incomplete_are u below)
      (ap (open_count p x) binds.own ∙ open-append p x (b t) more ∙ ap (λ (n : ℕ). open_count p x (b t) + n) (sym is_open))
      (λ other. ap (open_count p x) (binds.others u other));
}

-- nothing is bound at first
pub binding_first : (p : Program) (b : ℕ → List ReqNo) (x : Exchange) (marks : List (List Bool)) (ns left : List ℕ) → ((t : ℕ) → b t ≡ [])
    → marks ≡ unmarked p → ns ≡ replicate (length p.tasks.items) 0 → left ≡ replicate (length p.tasks.items) 0 → IsBinding p b x marks ns left
binding_first p b x marks ns left nothing is_marks is_ns is_left =
    let tasks = length p.tasks.items in
    record {
      marked = λ req.
          ap (λ (m : List (List Bool)). is_marked m req) is_marks ∙ none_marked p req
          ∙ sym (ap (list_any (same_request req)) (nothing req.task.0));
      have = λ req posts. subst (λ (m : List (List Bool)). IsSome (mark_of m req)) (sym is_marks) (have_marks_first p req posts);
      long = ap (λ (z : List ℕ). length z) is_ns ∙ length-replicate tasks 0;
      numbers_are = λ t within.
          ap (λ (z : List ℕ). slice_get z t) is_ns ∙ at_replicate tasks 0 t within ∙ ap (λ (reqs : List ReqNo). Some (length reqs)) (sym (nothing t));
      long_incomplete = ap (λ (z : List ℕ). length z) is_left ∙ length-replicate tasks 0;
      incomplete_are = λ t within.
          ap (λ (z : List ℕ). slice_get z t) is_left ∙ at_replicate tasks 0 t within ∙ ap Some (sym (open-none p x))
          ∙ ap (λ (reqs : List ReqNo). Some (open_count p x reqs)) (sym (nothing t));
    }

-- after task t bound what these handles name and is incomplete
pub binding_bind : (p : Program) (x : Exchange) (b b' : ℕ → List ReqNo) (t count : ℕ) (handles : List Handle) (marks marks' : List (List Bool))
    (ns ns' left left' : List ℕ) → IsBinding p b x marks ns left → t < length p.tasks.items → HaveMarks marks (named_requests t handles)
    → BindsMore t (open_ones p x (named_requests t handles)) b b' → count ≡ open_count p x (named_requests t handles)
    → marks' ≡ marked_all marks (open_ones p x (named_requests t handles)) → ns' ≡ slice_set ns t (get_or ns t 0 + count)
    → left' ≡ slice_set left t (get_or left t 0 + count) → IsBinding p b' x marks' ns' left'
binding_bind p x b b' t count handles marks marks' ns ns' left left' binding within have binds is_count is_marks is_ns is_left =
    let more : List ReqNo = open_ones p x (named_requests t handles) in
    subst (λ (m : List (List Bool)). IsBinding p b' x m ns' left') (sym is_marks)
    (subst (λ (z : List ℕ). IsBinding p b' x (marked_all marks more) z left') (sym is_ns)
    (subst (λ (z : List ℕ). IsBinding p b' x (marked_all marks more) (slice_set ns t (get_or ns t 0 + count)) z) (sym is_left)
    (binding_more p b b' x marks ns left t count more binding within (open_own p x t (named_requests t handles) (named_own t handles))
    (have_open p x marks (named_requests t handles) have) binds (is_count ∙ count_open p x (named_requests t handles))
    (is_count ∙ sym (open_again p x (named_requests t handles))))))

none_among : (found : Option Task) → ((task : Task) → found ≡ Some task → task.bound ≡ []) → or_none (option_map (λ (task : Task). task.bound) found) ≡ []
none_among None silent = refl
none_among (Some task) silent = silent task refl

-- in the opening no task has bound anything
pub nothing_bound : (p : Program) (entries : List Entry) → entries ≡ [] → (t : ℕ) → or_none (bound_at (final p entries).tasks t) ≡ []
nothing_bound p entries none t =
    let tasks : List Task = replicate (length p.tasks.items) waiting_task in
    ap (λ (es : List Entry). or_none (bound_at (final p es).tasks t)) none
    ∙ none_among (slice_get tasks t) (λ task here. ap (λ (z : Task). z.bound) (of_replicate (length p.tasks.items) waiting_task task t here).0)
