-- Which tasks precede which, by their regions on the line and by rank and epoch, and how many accesses there are.
use Rattle.std.proofs.Common.{◌≡◌, ℕ, ◌+◌, ◌<◌, ◌≤◌, ◌||◌, List, [], ◌∷◌, length, get_or, slice_get, Some, IsTrue, refl, ap, sym, ◌∙◌, subst, inl, inr, arith}
use Rattle.std.specs.List.{All, AllPairs, sum_by}
use Rattle.std.proofs.lemmas.List.{get_or_default, take_all}
use Rattle.std.proofs.lemmas.List.Sums.{sum_by-cons, sum_by_more}
use Rattle.std.proofs.lemmas.Option.{slice_get_within, slice_get_cases, get_or_from_slice_get}
use Rattle.std.proofs.lemmas.Bool.{cases_eq, cases_lt, or_cases, or_left, or_right}
use Rattle.rt_base.specs.declared.data.Access.{Access}
use Rattle.rt_base.specs.declared.data.TaskDef.{TaskDef}
use Rattle.rt_base.specs.declared.data.Program.{Program}
use Rattle.rt_base.specs.Spans.{is_written}
use Rattle.rt_base.specs.Precedes.{HoldsBack, SharesRegions, Precedes}
use Rattle.rt_base.specs.WellFormed.{InOrder}
use Rattle.region_deps.specs.declared.segments.Region.{Region}
use Rattle.region_deps.specs.Clashes.{region_at, task_at, Meets, Clash}
use Rattle.region_deps.specs.Lines.{region_of, regions_from, access_count, accesses_before, IsSmall, IsSmallTask}
use Rattle.region_deps.specs.Epochs.{rank_at, epoch_at}
use Rattle.region_deps.specs.Holding.{IsOrderly, region_count}
use Rattle.region_deps.proofs.RegionLemmas.{meets_from_overlap, overlap_from_meets, behind, among, apart, tasks_rise, all_long}
use Rattle.region_deps.proofs.EpochLemmas.{rank_of, epoch_of}

-- the rank and the epoch of a task by its number
pub rank_is : (tasks : List TaskDef) (task : ℕ) (def : TaskDef) → slice_get tasks task ≡ Some def → rank_at tasks task ≡ def.rank
rank_is tasks task def is = rank_of tasks task def (slice_get_within tasks task def is) (get_or_from_slice_get tasks task def def is)

pub epoch_is : (tasks : List TaskDef) (task : ℕ) (def : TaskDef) → slice_get tasks task ≡ Some def → epoch_at tasks task ≡ def.epoch
epoch_is tasks task def is = epoch_of tasks task def (slice_get_within tasks task def is) (get_or_from_slice_get tasks task def def is)

-- tasks stand in the order of rank, and of epoch within a rank
pub record IsAfter (tasks : List TaskDef) (u task : ℕ) : Type 0 where
  pub rank : rank_at tasks u ≤ rank_at tasks task
  pub epoch : rank_at tasks u ≡ rank_at tasks task → epoch_at tasks u ≤ epoch_at tasks task

pub after : (tasks : List TaskDef) → AllPairs InOrder tasks → (u task : ℕ) → u ≤ task → task < length tasks → IsAfter tasks u task
after tasks order u task le lt = elim (cases_eq u task) [
  | inl same ↦ record { rank = omega (arith, ap (rank_at tasks) same); epoch = λ _. omega (arith, ap (epoch_at tasks) same) }
  | inr other ↦ elim (slice_get_cases tasks task).1 [
    | inl found ↦
        let o = order u task found.0 (omega (arith, le, other)) lt in
        let r = rank_of tasks u (get_or tasks u found.0) (omega (arith, le, lt))
        (get_or_default tasks u (get_or tasks u found.0) found.0 (omega (arith, le, lt))) in
        let e = epoch_of tasks u (get_or tasks u found.0) (omega (arith, le, lt))
        (get_or_default tasks u (get_or tasks u found.0) found.0 (omega (arith, le, lt))) in
        let r' = rank_of tasks task (get_or tasks task found.0) lt (get_or_default tasks task (get_or tasks task found.0) found.0 lt) in
        let e' = epoch_of tasks task (get_or tasks task found.0) lt (get_or_default tasks task (get_or tasks task found.0) found.0 lt) in
        record { rank = omega (arith, o.0, r, r'); epoch = λ same. omega (arith, o.1 (sym r ∙ same ∙ r'), e, e') }
    | inr past ↦ absurd (omega (arith, past.0, lt))
  ]
]

small_def : (tasks : List TaskDef) → All IsSmallTask tasks → (task : ℕ) (def : TaskDef) → slice_get tasks task ≡ Some def → IsSmallTask def
small_def tasks small task def is = subst IsSmallTask (get_or_from_slice_get tasks task def def is) (small task def (slice_get_within tasks task def is))

-- a clash on the line is a task that precedes by its regions
pub precedes_from_clash : (program : Program) → IsOrderly program.tasks.items → All IsSmallTask program.tasks.items → (k j : ℕ)
    → Clash (regions_from 0 program.tasks.items) k j →
    Precedes program (task_at (regions_from 0 program.tasks.items) k) (task_at (regions_from 0 program.tasks.items) j)
precedes_from_clash program orderly small k j clash =
    let tasks : List TaskDef = program.tasks.items in
    let one = behind tasks 0 k (omega (arith, clash.earlier, clash.within)) in
    let other = behind tasks 0 j clash.within in
    let one_task : task_at (regions_from 0 tasks) k ≡ one.number = omega (arith, ap (λ (r : Region). r.task) one.is_region) in
    let other_task : task_at (regions_from 0 tasks) j ≡ other.number = omega (arith, ap (λ (r : Region). r.task) other.is_region) in
    let rises = tasks_rise tasks k j (omega (arith, clash.earlier)) clash.within in
    let later : task_at (regions_from 0 tasks) k < task_at (regions_from 0 tasks) j =
    elim (cases_eq (task_at (regions_from 0 tasks) k) (task_at (regions_from 0 tasks) j)) [
      | inl same ↦ absurd (apart tasks 0 k j small orderly.apart clash.earlier clash.within same clash.meets)
      | inr differ ↦ omega (arith, rises, differ)
    ] in
    let m = subst (λ (r : Region). Meets (region_of (0 + one.number) one.def.rank one.access) r) other.is_region
    (subst (λ (r : Region). Meets r (region_at (regions_from 0 tasks) j)) one.is_region clash.meets) in
    let small_one = subst IsSmall one.is_access ((small_def tasks small one.number one.def one.is_task).accesses one.index one.access one.within) in
    let small_other = subst IsSmall other.is_access ((small_def tasks small other.number other.def other.is_task).accesses other.index other.access
    other.within) in
    let o = overlap_from_meets (0 + one.number) (0 + other.number) one.def.rank other.def.rank one.access other.access small_one small_other m in
    let written : IsTrue (is_written one.access.mode || is_written other.access.mode) = elim clash.written [
      | inl writes ↦ or_left (is_written one.access.mode) (is_written other.access.mode) (sym (ap (λ (r : Region). r.writes) one.is_region) ∙ writes)
      | inr writes ↦ or_right (is_written one.access.mode) (is_written other.access.mode) (sym (ap (λ (r : Region). r.writes) other.is_region) ∙ writes)
    ] in
    record {
      earlier = one.def;
      later = other.def;
      is_earlier = subst (λ (t : ℕ). slice_get tasks t ≡ Some one.def) (sym one_task) one.is_task;
      is_later = subst (λ (t : ℕ). slice_get tasks t ≡ Some other.def) (sym other_task) other.is_task;
      order = later;
      before = (
        o.one_rank,
        inl (
          one.index,
          one.access,
          one.within,
          one.is_access,
          (other.index, other.access, other.within, other.is_access, (o.overlap, written)),
        ),
      );
    }

-- a task that precedes by its regions is a clash on the line
pub record IsClash (regions : List Region) (u task : ℕ) : Type 0 where
  pub one : ℕ
  pub other : ℕ
  pub of_one : task_at regions one ≡ u
  pub of_other : task_at regions other ≡ task
  pub clash : Clash regions one other

pub clash_from_precedes : (tasks : List TaskDef) (u task : ℕ) (earlier later : TaskDef) → slice_get tasks u ≡ Some earlier
    → slice_get tasks task ≡ Some later → u < task →
    earlier.rank ≡ later.rank → SharesRegions earlier later → IsClash (regions_from 0 tasks) u task
clash_from_precedes tasks u task earlier later is_earlier is_later order ranks shares =
    let one : Access = shares.1 in
    let inner : HoldsBack one later = shares.4 in
    let other : Access = inner.1 in
    let conflict = inner.4 in
    let k = among tasks 0 u shares.0 earlier one is_earlier shares.2 shares.3 in
    let j = among tasks 0 task inner.0 later other is_later inner.2 inner.3 in
    let k_task : task_at (regions_from 0 tasks) k.at ≡ u = omega (arith, ap (λ (r : Region). r.task) k.is) in
    let j_task : task_at (regions_from 0 tasks) j.at ≡ task = omega (arith, ap (λ (r : Region). r.task) j.is) in
    let before : k.at < j.at = elim (cases_lt k.at j.at) [
      | inl lt ↦ lt
      | inr above ↦ absurd (omega (arith, tasks_rise tasks j.at k.at above k.within, k_task, j_task, order))
    ] in
    let m = meets_from_overlap (0 + u) (0 + task) earlier.rank one other conflict.0 in
    let m' = subst (λ (n : ℕ). Meets (region_of (0 + u) earlier.rank one) (region_of (0 + task) n other)) ranks m in
    record {
      one = k.at;
      other = j.at;
      of_one = k_task;
      of_other = j_task;
      clash = record {
        earlier = before;
        within = j.within;
        meets = subst (λ (r : Region). Meets r (region_at (regions_from 0 tasks) j.at)) (sym k.is)
            (subst (λ (r : Region). Meets (region_of (0 + u) earlier.rank one) r) (sym j.is) m');
        written = elim (or_cases (is_written one.mode) (is_written other.mode) conflict.1) [
          | inl writes ↦ inl (ap (λ (r : Region). r.writes) k.is ∙ writes)
          | inr writes ↦ inr (ap (λ (r : Region). r.writes) j.is ∙ writes)
        ];
      };
    }

-- how many accesses there are
pub region_count_is : (tasks : List TaskDef) (start : ℕ) → length (regions_from start tasks) ≡ sum_by access_count tasks
region_count_is [] start = refl
region_count_is (def ∷ defs) start = omega (arith, all_long def defs start, region_count_is defs (start + 1), sum_by-cons access_count def defs)

pub before_all : (tasks : List TaskDef) → accesses_before tasks (length tasks) ≡ region_count tasks
before_all tasks = ap (λ (l : List TaskDef). sum_by access_count l) (take_all (length tasks) tasks (omega arith)) ∙ sym (region_count_is tasks 0)

pub before_more : (tasks : List TaskDef) (task : ℕ) → task < length tasks → accesses_before tasks task ≤ accesses_before tasks (task + 1)
before_more tasks task lt = elim (slice_get_cases tasks task).1 [
  | inl found ↦ omega (arith, sum_by_more access_count tasks task found.0 lt)
  | inr past ↦ absurd (omega (arith, past.0, lt))
]
