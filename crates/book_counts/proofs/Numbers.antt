-- How many requests each task has posted, before and after a move of a task.
use Rattle.std.proofs.Common.{◌≡◌, ℕ, Bool, ◌+◌, ◌-◌, ◌<◌, ◌≤◌, ◌^◌, true, false, cond, List, length, take, get_or, slice_get, slice_set, Some, refl, sym}
use Rattle.std.proofs.Common.{ap, ◌∙◌, subst, inl, inr, arith}
use Rattle.std.specs.Prelude.{replicate}
use Rattle.std.proofs.lemmas.List.{length-set, length-replicate, length-take, get_or_past}
use Rattle.std.proofs.lemmas.List.Sums.{count_by-le-length}
use Rattle.std.proofs.lemmas.Option.{slice_get_within, slice_get_read, get_or_from_slice_get}
use Rattle.std.proofs.lemmas.Bool.{cases_lt}
use Rattle.rt_base.specs.declared.data.Phase.{Phase}
use Rattle.rt_base.specs.declared.data.Phase.TheVariants as phase
use Rattle.rt_base.specs.declared.data.Op.{Op}
use Rattle.rt_base.specs.declared.data.TaskDef.{TaskDef}
use Rattle.rt_base.specs.declared.data.Program.{Program}
use Rattle.rt_base.specs.Operations.{is_posting, nth_at}
use Rattle.rt_base.specs.State.{Task}
use Rattle.task_local.specs.Local.{stop}
use Rattle.task_machine.specs.Course.{posted_by_phase}
use Rattle.task_machine.proofs.Lists.{slice_get-set_same, slice_get-set_other, slice_set_same}
use Rattle.task_machine.proofs.Items.{either_place, at_replicate, same_some}
use Rattle.task_machine.proofs.Stops.{posted_by-stop}
use Rattle.run_bounds.proofs.Changes.{nth_at-suc}
use Rattle.run_bounds.proofs.Few.{few_operations}
use Rattle.book_counts.specs.Counted.{IsNumbered}
use Rattle.book_counts.proofs.CountLemmas.{of_replicate}
use Rattle.book_counts.proofs.Figures.{Figures, AreKept, Found, read_phase}

-- the numbers of a new book
pub numbered_first : (p : Program) (phs : List Phase) (ns : List ℕ) → phs ≡ replicate (length p.tasks.items) phase.Waiting
    → ns ≡ replicate (length p.tasks.items) 0 → IsNumbered p phs ns
numbered_first p phs ns is_phs is_ns =
    let tasks = length p.tasks.items in
    record {
      long = ap (λ (z : List ℕ). length z) is_ns ∙ length-replicate tasks 0
          ∙ sym (ap (λ (z : List Phase). length z) is_phs ∙ length-replicate tasks phase.Waiting);
      posted_are = λ t def at is_def here.
          let place = of_replicate tasks phase.Waiting at t (sym (ap (λ (z : List Phase). slice_get z t) is_phs) ∙ here) in
          subst (λ (q : Phase). slice_get ns t ≡ Some (posted_by_phase def q)) (sym place.0)
          (ap (λ (z : List ℕ). slice_get z t) is_ns ∙ at_replicate tasks 0 t place.1);
    }

-- the numbers after a move of a task
pub numbered_after : (p : Program) (phs : List Phase) (ns ns' : List ℕ) (t n : ℕ) (def : TaskDef) (was now : Phase) → IsNumbered p phs ns
    → slice_get p.tasks.items t ≡ Some def → slice_get phs t ≡ Some was
    → ns' ≡ slice_set ns t n → n ≡ posted_by_phase def now → IsNumbered p (slice_set phs t now) ns'
numbered_after p phs ns ns' t n def was now numbered is_def here is_ns is_n =
    let within : t < length phs = slice_get_within phs t was here in
    let same_length : length ns ≡ length phs = numbered.long in
    record {
      long = ap (λ (z : List ℕ). length z) is_ns ∙ length-set ns t n ∙ same_length ∙ sym (length-set phs t now);
      posted_are = λ u other at is_other there. elim (either_place u t) [
        | inl same ↦
            let is_at : at ≡ now = same_some (sym there ∙ ap (slice_get (slice_set phs t now)) same ∙ slice_get-set_same phs t now within) in
            let one_def : other ≡ def = same_some (sym is_other ∙ ap (slice_get p.tasks.items) same ∙ is_def) in
            ap (λ (z : List ℕ). slice_get z u) is_ns ∙ ap (slice_get (slice_set ns t n)) same ∙ slice_get-set_same ns t n (omega arith)
            ∙ ap Some (is_n ∙ ap (posted_by_phase def) (sym is_at) ∙ ap (λ (d : TaskDef). posted_by_phase d at) (sym one_def))
        | inr apart ↦
            ap (λ (z : List ℕ). slice_get z u) is_ns ∙ slice_get-set_other ns t u n apart
            ∙ numbered.posted_are u other at is_other (sym (slice_get-set_other phs t u now apart) ∙ there)
      ];
    }

-- the numbers after a move that posts nothing
pub numbered_on : (p : Program) (phs : List Phase) (ns : List ℕ) (t : ℕ) (def : TaskDef) (was now : Phase) → IsNumbered p phs ns
    → slice_get p.tasks.items t ≡ Some def → slice_get phs t ≡ Some was
    → posted_by_phase def was ≡ posted_by_phase def now → IsNumbered p (slice_set phs t now) ns
numbered_on p phs ns t def was now numbered is_def here same =
    numbered_after p phs ns ns t (posted_by_phase def was) def was now numbered is_def here
    (sym (slice_set_same ns t (posted_by_phase def was) (numbered.posted_are t def was is_def here))) same

-- the numbers of an equal program and equal phases
pub numbered_seen : (p prog : Program) (phs phs' : List Phase) (posted : List ℕ) → IsNumbered p phs posted → prog ≡ p → phs' ≡ phs → IsNumbered prog phs' posted
numbered_seen p prog phs phs' posted numbered same seen =
    subst (λ (z : Program). IsNumbered z phs' posted) (sym same) (subst (λ (z : List Phase). IsNumbered p z posted) (sym seen) numbered)

-- the number of a task in a posting
pub posting_number : (def : TaskDef) (k t : ℕ) (x : Op) (posted : List ℕ) → slice_get posted t ≡ Some (nth_at def (k + 1)) → slice_get def.body.items k ≡ Some x
    → is_posting x ≡ true → slice_get posted t ≡ Some (nth_at def k + 1)
posting_number def k t x posted read here posts = read ∙ ap Some (nth_at-suc def k x here posts)

-- a number that is one more than another is not 0
pub number_some : (n t : ℕ) (posted : List ℕ) → slice_get posted t ≡ Some (n + 1) → 0 < get_or posted t 0
number_some n t posted read =
    let value : get_or posted t 0 ≡ n + 1 = get_or_from_slice_get posted t (n + 1) 0 read in
    omega arith

-- and it is one more than that one alone
pub last_number : (n t found : ℕ) (posted : List ℕ) → slice_get posted t ≡ Some (n + 1) → slice_get posted t ≡ Some (found + 1) → found ≡ n
last_number n t found posted read is =
    let one : found + 1 ≡ n + 1 = same_some (sym is ∙ read) in
    omega arith

back_again : (n : ℕ) → 0 < n → n ≡ n - 1 + 1
back_again n some = omega arith

-- a number that is not 0, as it is read, and the one before it
pub number_before : (numbers : List ℕ) (t found : ℕ) (posted : List ℕ) → numbers ≡ posted → 0 < get_or posted t 0 → found ≡ get_or numbers t found
    → slice_get posted t ≡ Some (found - 1 + 1)
number_before numbers t found posted view some read =
    let within : t < length posted = elim (cases_lt t (length posted)) [
      | inl lt ↦ lt
      | inr past ↦ let none : get_or posted t 0 ≡ 0 = get_or_past posted t 0 past in absurd (omega arith)
    ] in
    let own : found ≡ get_or posted t found = read ∙ ap (λ (z : List ℕ). get_or z t found) view in
    let one : get_or posted t 0 ≡ found = get_or_from_slice_get posted t found 0 (slice_get_read posted (length posted) t found refl within own) in
    slice_get_read posted (length posted) t found refl within own ∙ ap Some (back_again found (omega arith))

-- after the call of a posting
posted_next : (def : TaskDef) (k : ℕ) (blocking : Bool) → k < length def.body.items
    → posted_by_phase def (cond blocking (phase.In k) (stop def (k + 1))) ≡ nth_at def (k + 1)
posted_next def k true within = refl
posted_next def k false within = posted_by-stop def (k + 1) (omega arith)

module _ {f : Figures} (kept : AreKept f) where
  -- a task stops before operation k of its body, and has posted no more
  pub numbered_stop : {t : ℕ} {def : TaskDef} {task : Task} {was at : Phase} (k : ℕ) → Found f t def task → task.phase ≡ was
      → k ≤ length def.body.items → posted_by_phase def was ≡ nth_at def k → at ≡ stop def k → IsNumbered f.program (slice_set f.phases t at) f.posted
  numbered_stop {t = t} {def = def} {was = was} k here stands within same stops =
      subst (λ (q : Phase). IsNumbered f.program (slice_set f.phases t q) f.posted) (sym stops)
      (numbered_on f.program f.phases f.posted t def was (stop def k) kept.numbered here.is_def (read_phase kept here stands)
      (same ∙ sym (posted_by-stop def k within)))

  -- a task stands there from now on, and has posted no more
  pub numbered_next : {t : ℕ} {def : TaskDef} {task : Task} {was : Phase} (now : Phase) → Found f t def task → task.phase ≡ was
      → posted_by_phase def was ≡ posted_by_phase def now → IsNumbered f.program (slice_set f.phases t now) f.posted
  numbered_next {t = t} {def = def} {was = was} now here stands same =
      numbered_on f.program f.phases f.posted t def was now kept.numbered here.is_def (read_phase kept here stands) same

  -- what a task has posted, where it stands
  pub posted_so_far : {t : ℕ} {def : TaskDef} {task : Task} {at : Phase} → Found f t def task → task.phase ≡ at
      → slice_get f.posted t ≡ Some (posted_by_phase def at)
  posted_so_far {t = t} {def = def} {at = at} here stands = kept.numbered.posted_are t def at here.is_def (read_phase kept here stands)

  -- before an operation
  pub next_number : {t k n : ℕ} {def : TaskDef} {task : Task} → Found f t def task → task.phase ≡ phase.At k → slice_get f.posted t ≡ Some n
      → n ≡ nth_at def k
  next_number here at read = same_some (sym read ∙ posted_so_far here at)

  -- after the call of a posting
  pub numbered_post : {t k n : ℕ} {def : TaskDef} {task : Task} {at : Phase} {posted : List ℕ} (x : Op) (blocking : Bool) → Found f t def task
      → task.phase ≡ phase.At k → slice_get def.body.items k ≡ Some x → is_posting x ≡ true → slice_get f.posted t ≡ Some n
      → posted ≡ slice_set f.posted t (get_or f.posted t 0 + 1) → at ≡ cond blocking (phase.In k) (stop def (k + 1))
      → IsNumbered f.program (slice_set f.phases t at) posted
  numbered_post {t = t} {k = k} {n = n} {def = def} {posted = posted} x blocking here stands is posts read is_posted is_at =
      let nth = next_number here stands read in
      let value : get_or f.posted t 0 ≡ n = get_or_from_slice_get f.posted t n 0 read in
      let next = posted_next def k blocking (slice_get_within def.body.items k x is) in
      let more = nth_at-suc def k x is posts in
      subst (λ (q : Phase). IsNumbered f.program (slice_set f.phases t q) posted) (sym is_at)
      (numbered_after f.program f.phases f.posted posted t (get_or f.posted t 0 + 1) def (phase.At k) (cond blocking (phase.In k) (stop def (k + 1)))
      kept.numbered here.is_def (read_phase kept here stands) is_posted (omega arith))

  -- a body posts no more requests than it has operations
  pub few_posted : {t k n : ℕ} {def : TaskDef} {task : Task} → Found f t def task → task.phase ≡ phase.At k → k < length def.body.items
      → slice_get f.posted t ≡ Some n → get_or f.posted t 0 + 1 < 2 ^ 32
  few_posted {t = t} {k = k} {n = n} {def = def} here stands within read =
      let few = few_operations f.program t def kept.well here.is_def in
      let nth = next_number here stands read in
      let value : get_or f.posted t 0 ≡ n = get_or_from_slice_get f.posted t n 0 read in
      let most = count_by-le-length is_posting (take k def.body.items) in
      let front : length (take k def.body.items) ≡ k = omega (arith, length-take k def.body.items) in
      omega arith
