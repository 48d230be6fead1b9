-- A task may start exactly where the links let it in.
use Rattle.std.proofs.Common.{◌≡◌, ℕ, zero, suc, ◌+◌, ◌-◌, ◌<◌, ◌⊎◌, Bool, true, false, List, length, get_or, set, replicate, slice_get, Some, refl}
use Rattle.std.proofs.Common.{ap, sym, ◌∙◌, subst, inl, inr, arith}
use Rattle.std.proofs.lemmas.List.{get_or-set_other, get_or_past}
use Rattle.std.proofs.lemmas.Grind.{get_or-set_at}
use Rattle.std.proofs.lemmas.Option.{slice_get_within, slice_get_cases, slice_get-get_or, get_or_from_slice_get}
use Rattle.std.proofs.lemmas.Bool.{cases_eq, cases_lt, eq-eqb, eqb-true, false≢true}
use Rattle.rt_base.specs.declared.data.TaskDef.{TaskDef}
use Rattle.rt_base.specs.declared.data.Program.{Program}
use Rattle.rt_base.specs.Precedes.{Precedes, MayStart, LetsPass}
use Rattle.region_deps.specs.Links.{link, is_gone, IsLetIn, Waiting}
use Rattle.region_deps.specs.Clashes.{task_at, IsClosed}
use Rattle.region_deps.specs.Lines.{regions_from}
use Rattle.region_deps.specs.Epochs.{rank_at, epoch_at, IsGrouped}
use Rattle.region_deps.specs.Holding.{IsOrderly, region_count, IsUpToDate}
use Rattle.region_deps.proofs.LayoutLemmas.{never_gone}
use Rattle.region_deps.proofs.EpochLemmas.{own, differs, heads_rise, one_head, none_held, all_released}
use Rattle.region_deps.proofs.Precedence.{rank_is, epoch_is, after, precedes_from_clash, clash_from_precedes}

-- a mark that is set, and marks beside it
marked_at : (marks : List Bool) (u : ℕ) → get_or marks u false ≡ true → slice_get marks u ≡ Some true
marked_at marks u is = elim (cases_lt u (length marks)) [
  | inl within ↦ slice_get-get_or marks u false within ∙ ap Some is
  | inr past ↦ absurd (false≢true (sym (get_or_past marks u false past) ∙ is))
]

pub marked_by : (marks : List Bool) (t u : ℕ) → slice_get (set marks t true) u ≡ Some true → (u ≡ t) ⊎ (slice_get marks u ≡ Some true)
marked_by marks t u is = elim (cases_eq u t) [
  | inl same ↦ inl same
  | inr other ↦ inr (marked_at marks u (sym (get_or-set_other marks t u true false other) ∙ get_or_from_slice_get (set marks t true) u true false is))
]

pub marked_still : (marks : List Bool) (t u : ℕ) → slice_get marks u ≡ Some true → slice_get (set marks t true) u ≡ Some true
marked_still marks t u is = marked_at (set marks t true) u (elim (cases_eq u t) [
  | inl same ↦ get_or-set_at marks t u true false same (omega (arith, same, slice_get_within marks u true is))
  | inr other ↦ get_or-set_other marks t u true false other ∙ get_or_from_slice_get marks u true false is
])

pub never_marked : (n u : ℕ) → ¬ (slice_get (replicate n false) u ≡ Some true)
never_marked n u is = absurd (false≢true (sym (never_gone n u) ∙ get_or_from_slice_get (replicate n false) u true false is))

-- all earlier groups of the rank are released, where the task is let in
before_group : (tasks : List TaskDef) (w : Waiting) (first heads waiting : List ℕ) (released : List Bool) → IsUpToDate tasks w first heads waiting released →
    (fuel task u : ℕ) → task < fuel → task < length tasks → IsLetIn w.links (is_gone w.gone) task → u < get_or heads task 0
    → rank_at tasks u ≡ rank_at tasks task →
    slice_get released u ≡ Some true
before_group tasks w first heads waiting released h zero task u fueled lt let_in below ranks = absurd (omega (arith, fueled))
before_group tasks w first heads waiting released h (suc fuel) task u fueled lt let_in below ranks =
    let g = h.linked.grouped in
    let low = (g.each task lt).low in
    let before : ℕ = get_or heads task 0 - 1 in
    let next : get_or heads task 0 ≡ before + 1 = omega (arith, below) in
    let inside : before < length tasks = omega (arith, next, low, lt) in
    let up = after tasks h.orderly.order u before (omega (arith, next, below)) inside in
    let on = after tasks h.orderly.order before task (omega (arith, next, low)) lt in
    let one_rank : rank_at tasks before ≡ rank_at tasks task = omega (arith, up.rank, on.rank, ranks) in
    let source : ℕ = region_count tasks + get_or heads before 0 in
    let gone = let_in source (h.linked.barriers (link source task)
    (record { before = before; exists = lt; next = next; one_rank = one_rank; source = refl })) in
    let none = eqb-true (get_or waiting (get_or heads before 0) 0) 0 (sym (h.groups_gone before inside) ∙ gone) in
    let before_low = (g.each before inside).low in
    let empty = sym (h.counted (get_or heads before 0) (omega (arith, before_low, inside))) ∙ none in
    let all : (x : ℕ) → x < length heads → get_or heads x 0 ≡ get_or heads before 0 → slice_get released x ≡ Some true =
    none_held (get_or heads before 0) heads released (g.long ∙ sym h.released_long) empty in
    elim (cases_lt u (get_or heads before 0)) [
      | inl earlier ↦
          let done = all before (omega (arith, inside, g.long)) refl in
          before_group tasks w first heads waiting released h fuel before u (omega (arith, fueled, next, low)) inside
          (h.let_in before (h.started before done)) earlier (ranks ∙ sym one_rank)
      | inr from ↦ all u (omega (arith, below, low, lt, g.long)) (one_head tasks heads g u before from (omega (arith, next, below)) inside)
    ]

-- what is gone was let in first
pub closed : (tasks : List TaskDef) (w : Waiting) (first heads waiting : List ℕ) (released : List Bool) → IsUpToDate tasks w first heads waiting released →
    IsClosed (regions_from 0 tasks) w.links (is_gone w.gone)
closed tasks w first heads waiting released h k j within here gone =
    let done = marked_at released (task_at (regions_from 0 tasks) j) (sym (h.regions_gone j within) ∙ gone) in
    h.let_in (task_at (regions_from 0 tasks) j) (h.started (task_at (regions_from 0 tasks) j) done) k here

-- a released task lets each later one past, and no other task does
passes : (program : Program) (released : List Bool) (u t : ℕ) → slice_get released u ≡ Some true → LetsPass program (record { released = released }) u t
passes program released u t is = is

has_passed : (program : Program) (released : List Bool) (u t : ℕ) → LetsPass program (record { released = released }) u t → slice_get released u ≡ Some true
has_passed program released u t passed = passed

-- a task that is let in may start
pub starts_if_let_in : (program : Program) (w : Waiting) (first heads waiting : List ℕ) (released : List Bool)
    → IsUpToDate program.tasks.items w first heads waiting released →
    (task : ℕ) → task < length program.tasks.items → IsLetIn w.links (is_gone w.gone) task → MayStart program (record { released = released }) task
starts_if_let_in program w first heads waiting released h task lt let_in = record {
  exists = lt;
  freed = λ u p. passes program released u task (
      let tasks : List TaskDef = program.tasks.items in
      let g = h.linked.grouped in
      let ranks : rank_at tasks u ≡ rank_at tasks task = rank_is tasks u p.earlier p.is_earlier ∙ p.before.0 ∙ sym (rank_is tasks task p.later p.is_later) in
      elim p.before.1 [
        | inl shares ↦
            let c = clash_from_precedes tasks u task p.earlier p.later p.is_earlier p.is_later p.order p.before.0 shares in
            let gone = h.linked.full (is_gone w.gone) (closed tasks w first heads waiting released h) c.one c.other c.clash.within c.clash
            (subst (IsLetIn w.links (is_gone w.gone)) (sym c.of_other) let_in) in
            subst (λ (t : ℕ). slice_get released t ≡ Some true) c.of_one
            (marked_at released (task_at (regions_from 0 tasks) c.one) (sym (h.regions_gone c.one (omega (arith, c.clash.earlier, c.clash.within))) ∙ gone))
        | inr epochs ↦ elim (cases_lt u (get_or heads task 0)) [
          | inl below ↦ before_group tasks w first heads waiting released h (suc task) task u (omega arith) lt let_in below ranks
          | inr from ↦
              let one = one_head tasks heads g u task from (omega (arith, p.order)) lt in
              let same = sym (own tasks heads g u (omega (arith, p.order, lt))).epoch ∙ ap (epoch_at tasks) one ∙ (own tasks heads g task lt).epoch in
              absurd (omega (arith, epochs, same, epoch_is tasks u p.earlier p.is_earlier, epoch_is tasks task p.later p.is_later))
        ]
      ]);
}

-- each task of the group before precedes the task
precedes_by_epoch : (program : Program) (heads : List ℕ) → IsOrderly program.tasks.items → IsGrouped program.tasks.items heads → (task before x : ℕ)
    → task < length program.tasks.items →
    get_or heads task 0 ≡ before + 1 → rank_at program.tasks.items before ≡ rank_at program.tasks.items task → x < length program.tasks.items →
    get_or heads x 0 ≡ get_or heads before 0 → Precedes program x task
precedes_by_epoch program heads orderly g task before x lt next ranks x_in one =
    let tasks : List TaskDef = program.tasks.items in
    let low = (g.each task lt).low in
    let inside : before < length tasks = omega (arith, next, low, lt) in
    let before_low = (g.each before inside).low in
    let order : x < task = elim (cases_lt x task) [
      | inl below ↦ below
      | inr above ↦ absurd (omega (arith, heads_rise tasks heads g task x above x_in, one, next, before_low))
    ] in
    let own_x = own tasks heads g x x_in in
    let own_before = own tasks heads g before inside in
    let x_rank : rank_at tasks x ≡ rank_at tasks before = sym own_x.rank ∙ ap (rank_at tasks) one ∙ own_before.rank in
    let x_epoch : epoch_at tasks x ≡ epoch_at tasks before = sym own_x.epoch ∙ ap (epoch_at tasks) one ∙ own_before.epoch in
    let a = after tasks orderly.order before task (omega (arith, next, low)) lt in
    let epochs : epoch_at tasks before < epoch_at tasks task = elim (cases_eq (epoch_at tasks before) (epoch_at tasks task)) [
      | inl same ↦ absurd (differs tasks heads g task before lt next (ranks, same))
      | inr other ↦ omega (arith, a.epoch ranks, other)
    ] in
    elim (slice_get_cases tasks x).1 [
      | inl earlier ↦ elim (slice_get_cases tasks task).1 [
        | inl later ↦
            let r = rank_is tasks x earlier.0 earlier.2 in
            let r' = rank_is tasks task later.0 later.2 in
            let e = epoch_is tasks x earlier.0 earlier.2 in
            let e' = epoch_is tasks task later.0 later.2 in
            record {
              earlier = earlier.0;
              later = later.0;
              is_earlier = earlier.2;
              is_later = later.2;
              order = order;
              before = (sym r ∙ x_rank ∙ ranks ∙ r', inr (omega (arith, e, e', x_epoch, epochs)));
            }
        | inr past ↦ absurd (omega (arith, past.0, lt))
      ]
      | inr past ↦ absurd (omega (arith, past.0, x_in))
    ]

-- a task that may start is let in
pub let_in_if_starts : (program : Program) (w : Waiting) (first heads waiting : List ℕ) (released : List Bool)
    → IsUpToDate program.tasks.items w first heads waiting released →
    (task : ℕ) → MayStart program (record { released = released }) task → IsLetIn w.links (is_gone w.gone) task
let_in_if_starts program w first heads waiting released h task start k here =
    let tasks : List TaskDef = program.tasks.items in
    let g = h.linked.grouped in
    elim (h.linked.sound (link k task) here) [
      | inl waits ↦
          let p = subst (Precedes program (task_at (regions_from 0 tasks) k)) waits.of_task
          (precedes_from_clash program h.orderly h.small k waits.region waits.clash) in
          let done = get_or_from_slice_get released (task_at (regions_from 0 tasks) k) true false
          (has_passed program released (task_at (regions_from 0 tasks) k) task (start.freed (task_at (regions_from 0 tasks) k) p)) in
          h.regions_gone k (omega (arith, waits.clash.earlier, waits.clash.within)) ∙ done
      | inr b ↦
          let inside : b.before < length tasks = omega (arith, b.next, (g.each task b.exists).low, b.exists) in
          let empty = all_released (get_or heads b.before 0) heads released (g.long ∙ sym h.released_long)
          (λ x x_in one.
          has_passed program released x task
          (start.freed x (precedes_by_epoch program heads h.orderly g task b.before x b.exists b.next b.one_rank (omega (arith, x_in, g.long)) one))) in
          let none = h.counted (get_or heads b.before 0) (omega (arith, (g.each b.before inside).low, inside)) ∙ empty in
          ap (is_gone w.gone) b.source ∙ h.groups_gone b.before inside ∙ eq-eqb (get_or waiting (get_or heads b.before 0) 0) 0 none
    ]
