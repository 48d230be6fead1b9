-- A task that is handed out, and one that is released, leave what the graph keeps.
use Rattle.std.proofs.Common.{◌≡◌, ℕ, ◌+◌, ◌-◌, ◌<◌, ◌≤◌, ◌⊎◌, ◌==◌, Bool, true, false, cond, List, length, get_or, set, slice_get, Some, refl, ap}
use Rattle.std.proofs.Common.{sym, ◌∙◌, subst, inl, inr, arith}
use Rattle.std.specs.List.{Contains}
use Rattle.std.proofs.lemmas.List.{length-set, get_or-set_other, get_or_read}
use Rattle.std.proofs.lemmas.List.Sums.{sum_by-take-le}
use Rattle.std.proofs.lemmas.Grind.{get_or-set_at}
use Rattle.std.proofs.lemmas.Option.{slice_get_within}
use Rattle.std.proofs.lemmas.Bool.{cases_eq, cases_lt, cases_Bool, eq-eqb, ne_eqb}
use Rattle.rt_base.specs.declared.data.TaskDef.{TaskDef}
use Rattle.region_deps.specs.declared.graph.Link.{Link}
use Rattle.region_deps.specs.Links.{link, is_gone, IsLetIn, Waiting, IsOpen}
use Rattle.region_deps.specs.Clashes.{task_at}
use Rattle.region_deps.specs.Lines.{regions_from, access_count}
use Rattle.region_deps.specs.Holding.{region_count, IsGone, IsGoneIf, IsLinkedUp, IsUpToDate}
use Rattle.region_deps.proofs.RegionLemmas.{placed}
use Rattle.region_deps.proofs.EpochLemmas.{held_less}
use Rattle.region_deps.proofs.Precedence.{region_count_is, before_all, before_more}
use Rattle.region_deps.proofs.Starts.{marked_by, marked_still}
use Rattle.region_deps.proofs.Beginnings.{accesses_read}

-- what the graph keeps speaks of the links, of what is gone and of what was handed out alone
waiting_is : (w : Waiting) (links : List Link) (gone handed : List Bool) → w.links ≡ links → w.gone ≡ gone → w.handed ≡ handed
    → w ≡ record { links = links; gone = gone; handed = handed }
waiting_is w links gone handed links_are gone_is handed_is =
    let first : w ≡ record { links = links; gone = w.gone; handed = w.handed } =
    ap {B = Waiting} (λ (l : List Link). record { links = l; gone = w.gone; handed = w.handed }) links_are in
    let second = ap {B = Waiting} (λ (l : List Bool). record { links = links; gone = l; handed = w.handed }) gone_is in
    let third = ap {B = Waiting} (λ (l : List Bool). record { links = links; gone = gone; handed = l }) handed_is in
    first ∙ second ∙ third

-- a task that is open is handed out
pub held_next : (tasks : List TaskDef) (w w' : Waiting) (first heads waiting : List ℕ) (released : List Bool) (task : ℕ)
    → IsUpToDate tasks w first heads waiting released → IsOpen w task →
    w'.links ≡ w.links → w'.gone ≡ w.gone → w'.handed ≡ set w.handed task true → IsUpToDate tasks w' first heads waiting released
held_next tasks w w' first heads waiting released task h opened links gone handed =
    let now : Waiting = record { links = w.links; gone = w.gone; handed = set w.handed task true } in
    let next : IsUpToDate tasks now first heads waiting released = record {
      orderly = h.orderly;
      small = h.small;
      linked = h.linked;
      first_long = h.first_long;
      starts = h.starts;
      sources = h.sources;
      handed_long = length-set w.handed task true ∙ h.handed_long;
      released_long = h.released_long;
      waiting_long = h.waiting_long;
      regions_gone = h.regions_gone;
      groups_gone = h.groups_gone;
      counted = h.counted;
      let_in = λ u is. elim (marked_by w.handed task u is) [
        | inl same ↦ subst (IsLetIn w.links (is_gone w.gone)) (sym same) opened.let_in
        | inr before ↦ h.let_in u before
      ];
      started = λ u is. marked_still w.handed task u (h.started u is);
    } in
    subst (λ (x : Waiting). IsUpToDate tasks x first heads waiting released)
    (sym (waiting_is w' w.links w.gone (set w.handed task true) links gone handed)) next

-- what the release of a task may rest on
pub record IsReleasable (tasks : List TaskDef) (w : Waiting) (first heads waiting : List ℕ) (task : ℕ) : Type 0 where
  pub exists : task < length tasks
  pub order : get_or first task 0 ≤ get_or first (task + 1) 0
  pub within : get_or first (task + 1) 0 ≤ region_count tasks
  pub accesses : get_or first (length tasks) 0 ≡ region_count tasks
  pub numbered : length w.gone < 4294967296
  pub head : get_or heads task 0 < length tasks
  pub held : 0 < get_or waiting (get_or heads task 0) 0

pub releasable : (tasks : List TaskDef) (w : Waiting) (first heads waiting : List ℕ) (released : List Bool) (task : ℕ)
    → IsUpToDate tasks w first heads waiting released →
    slice_get released task ≡ Some false → IsReleasable tasks w first heads waiting task
releasable tasks w first heads waiting released task h held =
    let exists : task < length tasks = omega (arith, slice_get_within released task false held, h.released_long) in
    let low = (h.linked.grouped.each task exists).low in
    let less = held_less (get_or heads task 0) heads released task (h.linked.grouped.long ∙ sym h.released_long) held in
    let one = ap {B = ℕ} (λ (b : Bool). cond b 1 0) (eq-eqb (get_or heads task 0) (get_or heads task 0) refl) in
    let all = h.starts (length tasks) (omega arith) ∙ before_all tasks in
    let more = before_more tasks task exists in
    let upto = sum_by-take-le access_count tasks (task + 1) in
    record {
      exists = exists;
      order = omega (arith, h.starts task (omega (arith, exists)), h.starts (task + 1) (omega (arith, exists)), more);
      within = omega (arith, h.starts (task + 1) (omega (arith, exists)), upto, region_count_is tasks 0);
      accesses = all;
      numbered = omega (arith, h.sources, region_count_is tasks 0, h.orderly.few);
      head = omega (arith, low, exists);
      held = omega (arith, h.counted (get_or heads task 0) (omega (arith, low, exists)), less, one);
    }

-- the accesses of the task, and they alone, are gone with it
region_done : (tasks : List TaskDef) (w w' : Waiting) (first heads waiting : List ℕ) (released : List Bool) (task k : ℕ)
    → IsUpToDate tasks w first heads waiting released → task < length tasks →
    IsGone w w' (get_or first task 0) (get_or first (task + 1) 0) → k < region_count tasks
    → is_gone w'.gone k ≡ get_or (set released task true) (task_at (regions_from 0 tasks) k) false
region_done tasks w w' first heads waiting released task k h exists r lt =
    let from = placed tasks 0 task k (omega (arith, exists)) lt in
    let upto = placed tasks 0 (task + 1) k (omega (arith, exists)) lt in
    let from_is = h.starts task (omega (arith, exists)) in
    let upto_is = h.starts (task + 1) (omega (arith, exists)) in
    elim (cases_eq (task_at (regions_from 0 tasks) k) task) [
      | inl same ↦
          let behind_from : get_or first task 0 ≤ k = omega (arith, from_is, from.1 (omega (arith, same))) in
          let below : k < get_or first (task + 1) 0 = elim (cases_lt k (get_or first (task + 1) 0)) [
            | inl before ↦ before
            | inr past ↦ absurd (omega (arith, same, upto.0 (omega (arith, past, upto_is))))
          ] in
          r.inside k behind_from below ∙ sym (get_or-set_at released task (task_at (regions_from 0 tasks) k) true false same
          (omega (arith, exists, h.released_long)))
      | inr other ↦
          let away : (k < get_or first task 0) ⊎ (get_or first (task + 1) 0 ≤ k) = elim (cases_lt k (get_or first task 0)) [
            | inl before ↦ inl before
            | inr past ↦
                let at_least : task ≤ task_at (regions_from 0 tasks) k = omega (arith, from.0 (omega (arith, past, from_is))) in
                inr (omega (arith, upto_is, upto.1 (omega (arith, at_least, other))))
          ] in
          r.outside k away ∙ h.regions_gone k lt ∙ sym (get_or-set_other released task (task_at (regions_from 0 tasks) k) true false other)
    ]

-- what was gone is still gone
still_gone : (w w' : Waiting) (from upto k : ℕ) → IsGone w w' from upto → is_gone w.gone k ≡ true → is_gone w'.gone k ≡ true
still_gone w w' from upto k r was = elim (cases_lt k from) [
  | inl before ↦ r.outside k (inl before) ∙ was
  | inr behind_from ↦ elim (cases_lt k upto) [ inl below ↦ r.inside k behind_from below | inr past ↦ r.outside k (inr past) ∙ was ]
]

still_gone_if : (w w' : Waiting) (source k : ℕ) (now : Bool) → IsGoneIf w w' source now → is_gone w.gone k ≡ true → is_gone w'.gone k ≡ true
still_gone_if w w' source k now r was = elim (cases_eq k source) [
  | inl same ↦ elim (cases_Bool now) [
    | inl goes ↦ ap (is_gone w'.gone) same ∙ r.goes goes
    | inr stays ↦ ap (is_gone w'.gone) same ∙ r.stays stays ∙ sym (ap (is_gone w.gone) same) ∙ was
  ]
  | inr other ↦ r.outside k other ∙ was
]

-- the task is released: its accesses go, and its group where it was the last task of that
pub held_release : (tasks : List TaskDef) (w w' w'' : Waiting) (first heads waiting waiting' : List ℕ) (released : List Bool) (task : ℕ)
    → IsUpToDate tasks w first heads waiting released →
    slice_get w.handed task ≡ Some true → slice_get released task ≡ Some false → IsGone w w' (get_or first task 0) (get_or first (task + 1) 0) →
    IsGoneIf w' w'' (region_count tasks + get_or heads task 0) (get_or waiting (get_or heads task 0) 0 - 1 == 0) →
    waiting' ≡ set waiting (get_or heads task 0) (get_or waiting (get_or heads task 0) 0 - 1)
    → IsUpToDate tasks w'' first heads waiting' (set released task true)
held_release tasks w w' w'' first heads waiting waiting' released task h was_handed was_held r i e =
    let can = releasable tasks w first heads waiting released task h was_held in
    let head : ℕ = get_or heads task 0 in
    let group : ℕ = region_count tasks + head in
    let now : Bool = get_or waiting head 0 - 1 == 0 in
    let links = i.links ∙ r.links in
    let handed = i.handed ∙ r.handed in
    let head_in : head < length waiting = omega (arith, can.head, h.waiting_long) in
    let set_here : (other : ℕ) → other ≡ head → get_or waiting' other 0 ≡ get_or waiting head 0 - 1 =
    λ other same. ap (λ (l : List ℕ). get_or l other 0) e ∙ get_or-set_at waiting head other (get_or waiting head 0 - 1) 0 same head_in in
    let kept : (other : ℕ) → (other ≡ head → ⊥) → get_or waiting' other 0 ≡ get_or waiting other 0 =
    λ other differ. ap (λ (l : List ℕ). get_or l other 0) e ∙ get_or-set_other waiting head other (get_or waiting head 0 - 1) 0 differ in
    record {
      orderly = h.orderly;
      small = h.small;
      linked = subst (λ (l : List Link). IsLinkedUp tasks l heads) (sym links) h.linked;
      first_long = h.first_long;
      starts = h.starts;
      sources = i.long ∙ r.long ∙ h.sources;
      handed_long = ap length handed ∙ h.handed_long;
      released_long = length-set released task true ∙ h.released_long;
      waiting_long = ap length e ∙ length-set waiting head (get_or waiting head 0 - 1) ∙ h.waiting_long;
      regions_gone = λ k lt. i.outside k (λ f. absurd (omega (arith, f, lt))) ∙ region_done tasks w w' first heads waiting released task k h can.exists r lt;
      groups_gone = λ u lt. elim (cases_eq (get_or heads u 0) head) [
        | inl same ↦
            let right = ap {B = Bool} (λ (n : ℕ). n == 0) (set_here (get_or heads u 0) same) in
            let left = ap {B = Bool} (λ (n : ℕ). is_gone w''.gone (region_count tasks + n)) same in
            let before = r.outside group (inr (omega (arith, can.within))) ∙ h.groups_gone task can.exists
            ∙ ne_eqb (get_or waiting head 0) 0 (λ f. absurd (omega (arith, f, can.held))) in
            elim (cases_Bool now) [
              | inl goes ↦ left ∙ i.goes goes ∙ sym goes ∙ sym right
              | inr stays ↦ left ∙ i.stays stays ∙ before ∙ sym stays ∙ sym right
            ]
        | inr other ↦
            i.outside (region_count tasks + get_or heads u 0) (λ f. absurd (other (omega (arith, f))))
            ∙ r.outside (region_count tasks + get_or heads u 0) (inr (omega (arith, can.within))) ∙
            h.groups_gone u lt ∙ sym (ap {B = Bool} (λ (n : ℕ). n == 0) (kept (get_or heads u 0) other))
      ];
      counted = λ other lt.
          let less = held_less other heads released task (h.linked.grouped.long ∙ sym h.released_long) was_held in
          elim (cases_eq other head) [
            | inl same ↦ omega (
              arith,
              set_here other same,
              less,
              h.counted other lt,
              ap (λ (n : ℕ). get_or waiting n 0) same,
              ap {B = ℕ} (λ (b : Bool). cond b 1 0) (eq-eqb head other (sym same)),
            )
            | inr differ ↦ omega (
              arith,
              kept other differ,
              less,
              h.counted other lt,
              ap {B = ℕ} (λ (b : Bool). cond b 1 0) (ne_eqb head other (λ f. differ (sym f))),
            )
          ];
      let_in = λ u is k here.
          still_gone_if w' w'' group k now i (still_gone w w' (get_or first task 0) (get_or first (task + 1) 0) k r
          (h.let_in u (subst (λ (l : List Bool). slice_get l u ≡ Some true) handed is) k (subst (λ (l : List Link). Contains l (link k u)) links here)));
      started = λ u is. subst (λ (l : List Bool). slice_get l u ≡ Some true) (sym handed) (elim (marked_by released task u is) [
        | inl same ↦ subst (λ (t : ℕ). slice_get w.handed t ≡ Some true) (sym same) was_handed
        | inr before ↦ h.started u before
      ]);
    }

-- what a release reads of the first accesses
pub record IsRange (tasks : List TaskDef) (w : Waiting) (first : List ℕ) (task from upto : ℕ) : Type 0 where
  pub exists : task < length tasks
  pub order : from ≤ upto
  pub within : upto ≤ length w.gone
  pub numbered : length w.gone < 4294967296
  pub from_is : from ≡ get_or first task 0
  pub upto_is : upto ≡ get_or first (task + 1) 0

pub range_read : (tasks : List TaskDef) (w : Waiting) (first heads waiting : List ℕ) (released : List Bool) (task from upto : ℕ)
    → IsUpToDate tasks w first heads waiting released →
    slice_get released task ≡ Some false → from ≡ get_or first task from → upto ≡ get_or first (task + 1) upto → IsRange tasks w first task from upto
range_read tasks w first heads waiting released task from upto h held from_read upto_read =
    let can = releasable tasks w first heads waiting released task h held in
    let from_is : from ≡ get_or first task 0 = get_or_read first task from (omega (arith, can.exists, h.first_long)) from_read 0 in
    let upto_is : upto ≡ get_or first (task + 1) 0 = get_or_read first (task + 1) upto (omega (arith, can.exists, h.first_long)) upto_read 0 in
    record {
      exists = can.exists;
      order = omega (arith, can.order, from_is, upto_is);
      within = omega (arith, can.within, upto_is, h.sources);
      numbered = can.numbered;
      from_is = from_is;
      upto_is = upto_is;
    }

-- and of the group
pub record IsGroup (tasks : List TaskDef) (w : Waiting) (heads waiting : List ℕ) (task accesses head : ℕ) : Type 0 where
  pub known : head < length waiting
  pub held : 0 < get_or waiting head 0
  pub within : accesses + head < length w.gone
  pub accesses_is : accesses ≡ region_count tasks
  pub head_is : head ≡ get_or heads task 0

pub group_of : (tasks : List TaskDef) (w : Waiting) (first heads waiting : List ℕ) (released : List Bool) (task many accesses head : ℕ)
    → IsUpToDate tasks w first heads waiting released →
    slice_get released task ≡ Some false → many ≡ length heads → accesses ≡ get_or first many accesses → head ≡ get_or heads task head
    → IsGroup tasks w heads waiting task accesses head
group_of tasks w first heads waiting released task many accesses head h held many_is accesses_read head_read =
    let can = releasable tasks w first heads waiting released task h held in
    let many_tasks : many ≡ length tasks = many_is ∙ h.linked.grouped.long in
    let accesses_is : accesses ≡ region_count tasks =
    get_or_read first many accesses (omega (arith, many_tasks, h.first_long)) accesses_read 0 ∙ ap (λ (n : ℕ). get_or first n 0) many_tasks ∙ can.accesses in
    let head_is : head ≡ get_or heads task 0 = get_or_read heads task head (omega (arith, can.exists, h.linked.grouped.long)) head_read 0 in
    record {
      known = omega (arith, head_is, can.head, h.waiting_long);
      held = omega (arith, can.held, ap (λ (n : ℕ). get_or waiting n 0) head_is);
      within = omega (arith, accesses_is, head_is, can.head, h.sources);
      accesses_is = accesses_is;
      head_is = head_is;
    }

pub held_release_read : (tasks : List TaskDef) (w w' w'' : Waiting) (first heads waiting waiting' : List ℕ) (released : List Bool)
    (task from upto accesses head : ℕ) →
    IsUpToDate tasks w first heads waiting released → slice_get w.handed task ≡ Some true → slice_get released task ≡ Some false
    → IsRange tasks w first task from upto →
    IsGroup tasks w heads waiting task accesses head → IsGone w w' from upto → IsGoneIf w' w'' (accesses + head) (get_or waiting head 0 - 1 == 0) →
    waiting' ≡ set waiting head (get_or waiting head 0 - 1) → IsUpToDate tasks w'' first heads waiting' (set released task true)
held_release_read tasks w w' w'' first heads waiting waiting' released task from upto accesses head h was_handed was_held range group r i e =
    let r_now = subst (λ (n : ℕ). IsGone w w' n (get_or first (task + 1) 0)) range.from_is (subst (λ (n : ℕ). IsGone w w' from n) range.upto_is r) in
    let i_now = subst (λ (n : ℕ). IsGoneIf w' w'' (region_count tasks + n) (get_or waiting n 0 - 1 == 0)) group.head_is
    (subst (λ (n : ℕ). IsGoneIf w' w'' (n + head) (get_or waiting head 0 - 1 == 0)) group.accesses_is i) in
    held_release tasks w w' w'' first heads waiting waiting' released task h was_handed was_held r_now i_now (e
    ∙ ap (λ (n : ℕ). set waiting n (get_or waiting n 0 - 1)) group.head_is)
