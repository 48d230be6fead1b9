-- Regions on the line clash exactly where the accesses behind them conflict.
use Rattle.std.proofs.Common.{◌≡◌, ℕ, zero, suc, ◌+◌, ◌-◌, ◌*◌, add-zero, ◌<◌, ◌≤◌, ◌↔◌, List, [], ◌∷◌, ◌++◌, length, get_or, map, take, drop}
use Rattle.std.proofs.Common.{slice_get, Some, refl, ap, sym, ◌∙◌, subst, inl, inr, arith}
use Rattle.std.specs.List.{All}
use Rattle.std.proofs.lemmas.List.{length-map, length-append, get_or-map, get_or_append_left, get_or-append_right, get_or_default, append_assoc}
use Rattle.std.proofs.lemmas.List.{map_more, drop_more}
use Rattle.std.proofs.lemmas.List.Sums.{sum_by-cons}
use Rattle.std.proofs.lemmas.List.Elements.{All-head, All-tail}
use Rattle.std.proofs.lemmas.Option.{slice_get_within, slice_get_cases, none-some, same_Some}
use Rattle.std.proofs.lemmas.Bool.{cases_lt}
use Rattle.rt_base.specs.declared.data.Access.{Access}
use Rattle.rt_base.specs.declared.data.TaskDef.{TaskDef}
use Rattle.rt_base.specs.Spans.{Overlaps}
use Rattle.region_deps.specs.declared.segments.Region.{Region}
use Rattle.region_deps.specs.Clashes.{nothing, region_at, task_at, Meets}
use Rattle.region_deps.specs.Lines.{region_of, regions_of, regions_from, access_count, accesses_before, IsSmall, IsSmallTask, IsApart}

-- regions of small numbers meet exactly where the ranks are one and the spans overlap
pub meets_from_overlap : (t u rank : ℕ) (one other : Access) → Overlaps one.span other.span → Meets (region_of t rank one) (region_of u rank other)
meets_from_overlap t u rank one other o =
    let same : one.span.array ≡ other.span.array = o.0 in
    let cell = o.1.0 in
    let here = o.1.1 in
    let there = o.1.2 in
    record {
      one_first = omega (arith, here.0, here.1);
      other_first = omega (arith, there.0, there.1);
      one_reaches =
          omega (arith, same, there.0, here.1);
      other_reaches = omega (arith, same, here.0, there.1);
    }

pub record IsOverlap (rank other_rank : ℕ) (one other : Access) : Type 0 where
  pub one_rank : rank ≡ other_rank
  pub overlap : Overlaps one.span other.span

pub overlap_from_meets : (t u rank other_rank : ℕ) (one other : Access) → IsSmall one → IsSmall other
    → Meets (region_of t rank one) (region_of u other_rank other) → IsOverlap rank other_rank one other
overlap_from_meets t u rank other_rank one other small_one small_other m =
    let line : rank * 65536 + one.span.array ≡ other_rank * 65536 + other.span.array =
    omega (arith, m.one_first, m.other_first, m.one_reaches, m.other_reaches, small_one.from, small_one.to, small_other.from, small_other.to) in
    let ranks : rank ≡ other_rank = omega (arith, line, small_one.array, small_other.array) in
    let arrays : one.span.array ≡ other.span.array = omega (arith, line, ranks) in
    record {
      one_rank = ranks;
      overlap = (
        arrays,
        elim (cases_lt one.span.from other.span.from) [
          | inl below ↦ (other.span.from, (omega (arith, below), omega (arith, m.one_reaches, ranks, arrays)), (omega arith, omega (arith, m.other_first)))
          | inr above ↦ (one.span.from, (omega arith, omega (arith, m.one_first)), (above, omega (arith, m.other_reaches, ranks, arrays)))
        ],
      );
    }

-- where the regions of the first task stand, and those of the others
pub all_long : (def : TaskDef) (defs : List TaskDef) (start : ℕ)
    → length (regions_from start (def ∷ defs)) ≡ length def.accesses.items + length (regions_from (start + 1) defs)
all_long def defs start = omega (
  arith,
  length-append (regions_of start def) (regions_from (start + 1) defs),
  length-map def.accesses.items (region_of start def.rank),
)

first_region : (def : TaskDef) (defs : List TaskDef) (start k : ℕ) (access : Access) → k < length def.accesses.items
    → get_or def.accesses.items k access ≡ access →
    region_at (regions_from start (def ∷ defs)) k ≡ region_of start def.rank access
first_region def defs start k access lt is =
    get_or_append_left (regions_of start def) (regions_from (start + 1) defs) nothing k
    (omega (arith, lt, length-map def.accesses.items (region_of start def.rank))) ∙
    get_or-map (region_of start def.rank) def.accesses.items k access nothing lt ∙ ap (region_of start def.rank) is

other_region : (def : TaskDef) (defs : List TaskDef) (start k : ℕ) → length def.accesses.items ≤ k →
    region_at (regions_from start (def ∷ defs)) k ≡ region_at (regions_from (start + 1) defs) (k - length def.accesses.items)
other_region def defs start k past =
    get_or-append_right (regions_of start def) (regions_from (start + 1) defs) (length def.accesses.items) k nothing
    (length-map def.accesses.items (region_of start def.rank)) past

-- the access and the task behind a region
pub record IsAccess (tasks : List TaskDef) (start : ℕ) (region : Region) : Type 0 where
  pub number : ℕ
  pub def : TaskDef
  pub index : ℕ
  pub access : Access
  pub is_task : slice_get tasks number ≡ Some def
  pub within : index < length def.accesses.items
  pub is_access : get_or def.accesses.items index access ≡ access
  pub is_region : region ≡ region_of (start + number) def.rank access

pub behind : (tasks : List TaskDef) (start k : ℕ) → k < length (regions_from start tasks) → IsAccess tasks start (region_at (regions_from start tasks) k)
behind [] start k lt = absurd (omega (arith, lt))
behind (def ∷ defs) start k lt = elim (slice_get_cases def.accesses.items k).1 [
  | inl found ↦ record {
    number = 0;
    def = def;
    index = k;
    access = found.0;
    is_task = refl;
    within = found.1;
    is_access = found.3;
    is_region = first_region def defs start k found.0 found.1 found.3 ∙ ap (λ (n : ℕ). region_of n def.rank found.0) (sym (add-zero start));
  }
  | inr past ↦
      let b = behind defs (start + 1) (k - length def.accesses.items) (omega (arith, lt, past.0, all_long def defs start)) in
      let sum : start + 1 + b.number ≡ start + suc b.number = omega arith in
      record {
        number = suc b.number;
        def = b.def;
        index = b.index;
        access = b.access;
        is_task = b.is_task;
        within = b.within;
        is_access = b.is_access;
        is_region = other_region def defs start k past.0 ∙ b.is_region ∙ ap (λ (n : ℕ). region_of n b.def.rank b.access) sum;
      }
]

-- the region of an access of a task
pub record IsAmong (regions : List Region) (region : Region) : Type 0 where
  pub at : ℕ
  pub within : at < length regions
  pub is : region_at regions at ≡ region

pub among : (tasks : List TaskDef) (start number index : ℕ) (def : TaskDef) (access : Access) → slice_get tasks number ≡ Some def
    → index < length def.accesses.items →
    get_or def.accesses.items index access ≡ access → IsAmong (regions_from start tasks) (region_of (start + number) def.rank access)
among [] start number index def access is_task within is_access = absurd (none-some def is_task)
among (first ∷ defs) start zero index def access is_task within is_access =
    let same : first ≡ def = same_Some first def is_task in
    let here : index < length first.accesses.items = subst (λ (d : TaskDef). index < length d.accesses.items) (sym same) within in
    let access_is = subst (λ (d : TaskDef). get_or d.accesses.items index access ≡ access) (sym same) is_access in
    record {
      at = index;
      within = omega (arith, here, all_long first defs start);
      is = first_region first defs start index access here access_is ∙ ap (λ (d : TaskDef). region_of start d.rank access) same
          ∙ ap (λ (n : ℕ). region_of n def.rank access) (sym (add-zero start));
    }
among (first ∷ defs) start (suc number) index def access is_task within is_access =
    let a = among defs (start + 1) number index def access is_task within is_access in
    let many : ℕ = length first.accesses.items in
    let sum : start + 1 + number ≡ start + suc number = omega arith in
    let back : many + a.at - many ≡ a.at = omega arith in
    record {
      at = many + a.at;
      within = omega (arith, a.within, all_long first defs start);
      is = other_region first defs start (many + a.at) (omega arith) ∙ ap (λ (i : ℕ). region_at (regions_from (start + 1) defs) i) back ∙ a.is
          ∙ ap (λ (n : ℕ). region_of n def.rank access) sum;
    }

-- a region's task is none before the first one
from_start : (tasks : List TaskDef) (start k : ℕ) → k < length (regions_from start tasks) → start ≤ task_at (regions_from start tasks) k
from_start tasks start k lt = omega (arith, ap (λ (r : Region). r.task) (behind tasks start k lt).is_region)

-- the accesses before a task are those of lower tasks
pub placed : (tasks : List TaskDef) (start task k : ℕ) → task ≤ length tasks → k < length (regions_from start tasks) →
    (accesses_before tasks task ≤ k) ↔ (start + task ≤ task_at (regions_from start tasks) k)
placed [] start task k le lt = absurd (omega (arith, lt))
placed (def ∷ defs) start zero k le lt = (λ _. omega (arith, from_start (def ∷ defs) start k lt), λ _. omega arith)
placed (def ∷ defs) start (suc task) k le lt =
    let sum = sum_by-cons access_count def (take task defs) in
    elim (slice_get_cases def.accesses.items k).1 [
      | inl found ↦
          let here = ap (λ (r : Region). r.task) (first_region def defs start k found.0 found.1 found.3) in
          (λ before. absurd (omega (arith, before, sum, found.1)), λ after. absurd (omega (arith, after, here)))
      | inr past ↦
          let there = ap (λ (r : Region). r.task) (other_region def defs start k past.0) in
          let p = placed defs (start + 1) task (k - length def.accesses.items) (omega (arith, le)) (omega (arith, lt, past.0, all_long def defs start)) in
          (λ before. omega (arith, p.0 (omega (arith, before, sum)), there), λ after. omega (arith, p.1 (omega (arith, after, there)), sum, past.0))
    ]

-- the regions stand in the order of their tasks
pub tasks_rise : (tasks : List TaskDef) (k j : ℕ) → k ≤ j → j < length (regions_from 0 tasks)
    → task_at (regions_from 0 tasks) k ≤ task_at (regions_from 0 tasks) j
tasks_rise tasks k j le lt =
    let b = behind tasks 0 k (omega (arith, le, lt)) in
    let task_is = ap (λ (r : Region). r.task) b.is_region in
    let there = slice_get_within tasks b.number b.def b.is_task in
    let before = (placed tasks 0 b.number k (omega (arith, there)) (omega (arith, le, lt))).1 (omega (arith, task_is)) in
    omega (arith, task_is, (placed tasks 0 b.number j (omega (arith, there)) lt).0 (omega (arith, before, le)))

-- the regions of one task do not meet
pub apart : (tasks : List TaskDef) (start k j : ℕ) → All IsSmallTask tasks → All IsApart tasks → k < j → j < length (regions_from start tasks) →
    task_at (regions_from start tasks) k ≡ task_at (regions_from start tasks) j
    → ¬ Meets (region_at (regions_from start tasks) k) (region_at (regions_from start tasks) j)
apart [] start k j small alone order lt same m = absurd (omega (arith, lt))
apart (def ∷ defs) start k j small alone order lt same m = elim (slice_get_cases def.accesses.items k).1 [
  | inl one ↦
      let k_is = first_region def defs start k one.0 one.1 one.3 in
      elim (slice_get_cases def.accesses.items j).1 [
        | inl other ↦
            let j_is = first_region def defs start j other.0 other.1 other.3 in
            let smalls = (All-head IsSmallTask def defs small).accesses in
            let m_k = subst (λ (r : Region). Meets r (region_at (regions_from start (def ∷ defs)) j)) k_is m in
            let m_both = subst (λ (r : Region). Meets (region_of start def.rank one.0) r) j_is m_k in
            let small_one = subst IsSmall one.3 (smalls k one.0 one.1) in
            let small_other = subst IsSmall other.3 (smalls j other.0 other.1) in
            let o = overlap_from_meets start start def.rank def.rank one.0 other.0 small_one small_other m_both in
            let there : get_or def.accesses.items k other.0 ≡ one.0 = get_or_default def.accesses.items k other.0 one.0 one.1 ∙ one.3 in
            All-head IsApart def defs alone k j other.0 order other.1
            (subst (λ (a : Access). Overlaps a.span (get_or def.accesses.items j other.0).span) (sym there)
            (subst (λ (a : Access). Overlaps one.0.span a.span) (sym other.3) o.overlap))
        | inr past ↦
            absurd (omega (
              arith,
              same,
              ap (λ (r : Region). r.task) k_is,
              ap (λ (r : Region). r.task) (other_region def defs start j past.0),
              from_start defs (start + 1) (j - length def.accesses.items) (omega (arith, lt, past.0, all_long def defs start)),
            ))
      ]
  | inr past ↦
      let j_past : length def.accesses.items ≤ j = omega (arith, past.0, order) in
      let k_is = other_region def defs start k past.0 in
      let j_is = other_region def defs start j j_past in
      apart defs (start + 1) (k - length def.accesses.items) (j - length def.accesses.items) (All-tail IsSmallTask def defs small)
      (All-tail IsApart def defs alone)
      (omega (arith, order, past.0)) (omega (arith, lt, j_past, all_long def defs start)) (sym (ap (λ (r : Region). r.task) k_is) ∙ same
      ∙ ap (λ (r : Region). r.task) j_is)
      (subst (λ (r : Region). Meets r (region_at (regions_from (start + 1) defs) (j - length def.accesses.items))) k_is
      (subst (λ (r : Region). Meets (region_at (regions_from start (def ∷ defs)) k) r) j_is m))
]

-- one more access is added
pub added_more : (task rank : ℕ) (accesses : List Access) (i : ℕ) (d : Access) (before now now' : List Region) (region : Region) → i < length accesses →
    now ≡ before ++ map (region_of task rank) (take i accesses) → region ≡ region_of task rank (get_or accesses i d) → now' ≡ now ++ region ∷ [] →
    now' ≡ before ++ map (region_of task rank) (take (i + 1) accesses)
added_more task rank accesses i d before now now' region lt so_far is pushed =
    pushed ∙ ap (λ (r : Region). now ++ r ∷ []) is ∙ ap (λ (l : List Region). l ++ region_of task rank (get_or accesses i d) ∷ []) so_far ∙
    append_assoc before (map (region_of task rank) (take i accesses)) (region_of task rank (get_or accesses i d) ∷ []) ∙
    ap (λ (l : List Region). before ++ l) (sym (map_more (region_of task rank) accesses i d lt))

-- one more task is added
pub regions_more : (tasks : List TaskDef) (task : ℕ) (def : TaskDef) (now now' all : List Region) → task < length tasks → def ≡ get_or tasks task def →
    now ++ regions_from task (drop task tasks) ≡ all → now' ≡ now ++ regions_of task def → now' ++ regions_from (task + 1) (drop (task + 1) tasks) ≡ all
regions_more tasks task def now now' all lt is so_far added =
    ap (λ (l : List Region). l ++ regions_from (task + 1) (drop (task + 1) tasks)) added
    ∙ append_assoc now (regions_of task def) (regions_from (task + 1) (drop (task + 1) tasks)) ∙
    ap (λ (d : TaskDef). now ++ regions_from task (d ∷ drop (task + 1) tasks)) is
    ∙ ap (λ (l : List TaskDef). now ++ regions_from task l) (sym (drop_more tasks task def lt)) ∙ so_far
