-- The graph as it is built keeps what it should.
use Rattle.std.proofs.Common.{◌≡◌, ℕ, ◌+◌, ◌<◌, ◌≤◌, ◌==◌, ◌↔◌, Bool, true, false, cond, List, length, get_or, replicate, slice_get, Some, refl, ap}
use Rattle.std.proofs.Common.{sym, ◌∙◌, subst, inl, inr, arith}
use Rattle.std.specs.List.{All, Contains, count_by}
use Rattle.std.proofs.lemmas.List.{get_or_read, length-replicate}
use Rattle.std.proofs.lemmas.List.Elements.{Contains-get_or}
use Rattle.std.proofs.lemmas.List.Sums.{get_or-le-sum_by}
use Rattle.std.proofs.lemmas.Option.{slice_get_within}
use Rattle.std.proofs.lemmas.Bool.{eq-eqb, ne_eqb}
use Rattle.rt_base.specs.declared.data.TaskDef.{TaskDef}
use Rattle.region_deps.specs.declared.graph.Link.{Link}
use Rattle.region_deps.specs.declared.segments.Region.{Region}
use Rattle.region_deps.specs.Links.{link, is_gone, Waiting, IsWithin}
use Rattle.region_deps.specs.Clashes.{task_at, WaitsFor, IsFull, IsSound}
use Rattle.region_deps.specs.Lines.{regions_from, accesses_before, IsSmallTask}
use Rattle.region_deps.specs.Epochs.{IsGrouped, IsBarrier, HasBarriers, held_of}
use Rattle.region_deps.specs.Holding.{IsOrderly, region_count, IsLinkedUp, IsUpToDate}
use Rattle.region_deps.proofs.RegionLemmas.{behind}
use Rattle.region_deps.proofs.LayoutLemmas.{never_gone}
use Rattle.region_deps.proofs.EpochLemmas.{held_at_first}
use Rattle.region_deps.proofs.Precedence.{before_all}
use Rattle.region_deps.proofs.Starts.{never_marked, closed}

-- links that suffice still do with others beside them
full_more : (regions : List Region) (links links' : List Link) → ((l : Link) → Contains links l → Contains links' l) → IsFull regions links
    → IsFull regions links'
full_more regions links links' more full gone closed k j lt clash let_in =
    full gone (λ s i within here gone_i. closed s i within (more (link s (task_at regions i)) here) gone_i) k j lt clash
    (λ s here. let_in s (more (link s (task_at regions j)) here))

-- the links of the accesses and those of the taskwaits together
pub linked_up : (tasks : List TaskDef) (links links' : List Link) (heads : List ℕ) (regions regions' : List Region) (accesses : ℕ) → IsGrouped tasks heads
    → accesses ≡ region_count tasks →
    regions ≡ regions_from 0 tasks → regions' ≡ regions → IsFull regions' links → IsSound regions' links
    → HasBarriers tasks heads accesses (length tasks) links links' → IsLinkedUp tasks links' heads
linked_up tasks links links' heads regions regions' accesses g count are same full sound b =
    let on_line : regions' ≡ regions_from 0 tasks = same ∙ are in
    record {
      full = full_more (regions_from 0 tasks) links links' b.kept (subst (λ (r : List Region). IsFull r links) on_line full);
      sound = λ l here. elim (b.only l here) [
        | inl before ↦ inl (subst (λ (r : List Region). WaitsFor r l.source l.task) on_line (sound l.source l.task before))
        | inr barrier ↦ inr (subst (λ (n : ℕ). IsBarrier tasks heads n l) count barrier)
      ];
      barriers = λ l barrier. b.made l barrier.exists (subst (λ (n : ℕ). IsBarrier tasks heads n l) (sym count) barrier);
      grouped = g;
    }

linked_same : (tasks : List TaskDef) (links links' : List Link) (heads : List ℕ) → ((l : Link) → Contains links' l ↔ Contains links l)
    → IsLinkedUp tasks links heads → IsLinkedUp tasks links' heads
linked_same tasks links links' heads same up = record {
  full = full_more (regions_from 0 tasks) links links' (λ l here. (same l).1 here) up.full;
  sound = λ l here. up.sound l ((same l).0 here);
  barriers = λ l barrier. (same l).1 (up.barriers l barrier);
  grouped = up.grouped;
}

-- both ends of each link exist
pub links_within : (tasks : List TaskDef) (links : List Link) (heads : List ℕ) (accesses : ℕ) → accesses ≡ region_count tasks → IsLinkedUp tasks links heads →
    All (IsWithin (accesses + length tasks) (length tasks)) links
links_within tasks links heads accesses count up k d lt =
    let l : Link = get_or links k d in
    elim (up.sound l (Contains-get_or links k d lt)) [
      | inl waits ↦
          let b = behind tasks 0 waits.region waits.clash.within in
          record {
            source = omega (arith, waits.clash.earlier, waits.clash.within, count);
            task = omega (arith, sym waits.of_task ∙ ap (λ (r : Region). r.task) b.is_region, slice_get_within tasks b.number b.def b.is_task);
          }
      | inr barrier ↦
          let low = (up.grouped.each l.task barrier.exists).low in
          let before_low = (up.grouped.each barrier.before (omega (arith, low, barrier.next, barrier.exists))).low in
          record { source = omega (arith, barrier.source, before_low, low, barrier.next, barrier.exists, count); task = barrier.exists }
    ]

-- at first no task was handed out, and all sources are there
pub held_first : (tasks : List TaskDef) (links : List Link) (w : Waiting) (first heads heads' waiting : List ℕ) (released : List Bool) (accesses : ℕ)
    → IsOrderly tasks → All IsSmallTask tasks →
    IsLinkedUp tasks links heads → length first ≡ length tasks + 1 → ((task : ℕ) → task ≤ length tasks → get_or first task 0 ≡ accesses_before tasks task)
    → accesses ≡ region_count tasks →
    ((l : Link) → Contains w.links l ↔ Contains links l) → w.gone ≡ replicate (accesses + length tasks) false → w.handed ≡ replicate (length tasks) false
    → heads' ≡ heads →
    length waiting ≡ length heads' → ((head : ℕ) → head < length heads' → get_or waiting head 0 ≡ count_by (λ x. x == head) heads')
    → released ≡ replicate (length tasks) false →
    IsUpToDate tasks w first heads waiting released
held_first tasks links w first heads heads' waiting released accesses orderly small up first_long starts count same there unhanded heads_are many sizes
    unreleased =
    let g = up.grouped in
    let long : length heads' ≡ length tasks = ap length heads_are ∙ g.long in
    let not_gone : (k : ℕ) → is_gone w.gone k ≡ false = λ k. ap (λ (l : List Bool). is_gone l k) there ∙ never_gone (accesses + length tasks) k in
    let sized : (head : ℕ) → head < length tasks → get_or waiting head 0 ≡ count_by (λ x. x == head) heads =
    λ head lt. sizes head (omega (arith, lt, long)) ∙ ap (λ (l : List ℕ). count_by (λ x. x == head) l) heads_are in
    record {
      orderly = orderly;
      small = small;
      linked = linked_same tasks links w.links heads same up;
      first_long = first_long;
      starts = starts;
      sources = ap length there ∙ length-replicate (accesses + length tasks) false ∙ ap (λ (n : ℕ). n + length tasks) count;
      handed_long = ap length unhanded ∙ length-replicate (length tasks) false;
      released_long = ap length unreleased ∙ length-replicate (length tasks) false;
      waiting_long = many ∙ long;
      regions_gone = λ k lt. not_gone k ∙ sym (ap (λ (l : List Bool). get_or l (task_at (regions_from 0 tasks) k) false) unreleased
          ∙ never_gone (length tasks) (task_at (regions_from 0 tasks) k));
      groups_gone = λ task lt.
          let head : ℕ = get_or heads task 0 in
          let one = get_or-le-sum_by (λ x. cond (x == head) 1 0) heads task 0 (omega (arith, lt, g.long)) in
          let counts = ap {B = ℕ} (λ (b : Bool). cond b 1 0) (eq-eqb head head refl) in
          let low = (g.each task lt).low in
          not_gone (region_count tasks + head) ∙ sym (ne_eqb (get_or waiting head 0) 0
          (λ f. absurd (omega (arith, f, sized head (omega (arith, low, lt)), one, counts))));
      counted = λ head lt. sized head lt ∙ sym (held_at_first head heads)
          ∙ ap (λ (l : List Bool). held_of head heads l) (ap (λ (n : ℕ). replicate n false) g.long ∙ sym unreleased);
      let_in = λ task is. absurd (never_marked (length tasks) task (subst (λ (l : List Bool). slice_get l task ≡ Some true) unhanded is));
      started = λ task is. absurd (never_marked (length tasks) task (subst (λ (l : List Bool). slice_get l task ≡ Some true) unreleased is));
    }

-- the number of all accesses, as it is read
pub accesses_read : (tasks : List TaskDef) (first : List ℕ) (accesses : ℕ) → length first ≡ length tasks + 1 →
    ((task : ℕ) → task ≤ length tasks → get_or first task 0 ≡ accesses_before tasks task) → accesses ≡ get_or first (length tasks) accesses
    → accesses ≡ region_count tasks
accesses_read tasks first accesses long starts read = get_or_read first (length tasks) accesses (omega (arith, long)) read 0
    ∙ starts (length tasks) (omega arith) ∙ before_all tasks
