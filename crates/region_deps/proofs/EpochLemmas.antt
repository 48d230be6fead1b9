-- The heads of groups: what tells two groups apart, and that heads rise.
use Rattle.std.proofs.Common.{◌≡◌, ℕ, zero, suc, ◌+◌, ◌-◌, ◌<◌, ◌≤◌, ◌⊎◌, ◌↔◌, ◌==◌, Bool, true, false, not, ◌&&◌, cond, List, [], ◌∷◌, ◌++◌, length}
use Rattle.std.proofs.Common.{get_or, set, take, replicate, slice_get, Option, Some, None, IfSome, IfNone, refl, ap, sym, ◌∙◌, subst, inl, inr, arith}
use Rattle.std.specs.List.{Contains, count_by}
use Rattle.std.specs.Option.{option_to_list}
use Rattle.std.proofs.lemmas.List.{get_or-map, get_or_append_left, get_or_push, get_or-set_other, length-set, get_or_read, length-take}
use Rattle.std.proofs.lemmas.List.{length-replicate, get_or-replicate}
use Rattle.std.proofs.lemmas.List.Elements.{Contains-append_left, Contains-push, Contains-push_cases, Contains-append_cases}
use Rattle.std.proofs.lemmas.List.Sums.{sum_by-cons, sum_by_more, count_by-le-length}
use Rattle.std.proofs.lemmas.Option.{slice_get_within, same_Some}
use Rattle.std.proofs.lemmas.Bool.{cases_eq, eq-eqb, ne_eqb, and_left}
use Rattle.std.proofs.lemmas.Grind.{get_or-set_at}
use Rattle.rt_base.specs.declared.data.TaskDef.{TaskDef}
use Rattle.region_deps.specs.declared.graph.Link.{Link}
use Rattle.region_deps.specs.Links.{link}
use Rattle.region_deps.specs.Epochs.{rank_at, epoch_at, IsOneGroup, IsHead, IsGrouped, IsBarrier, HasBarriers, held_of}

-- the rank and the epoch of a task
pub rank_of : (tasks : List TaskDef) (task : ℕ) (def : TaskDef) → task < length tasks → get_or tasks task def ≡ def → rank_at tasks task ≡ def.rank
rank_of tasks task def lt is = get_or-map (λ (d : TaskDef). d.rank) tasks task def 0 lt ∙ ap (λ (d : TaskDef). d.rank) is

pub epoch_of : (tasks : List TaskDef) (task : ℕ) (def : TaskDef) → task < length tasks → get_or tasks task def ≡ def → epoch_at tasks task ≡ def.epoch
epoch_of tasks task def lt is = get_or-map (λ (d : TaskDef). d.epoch) tasks task def 0 lt ∙ ap (λ (d : TaskDef). d.epoch) is

-- two tasks are of one group or not
group_cases : (tasks : List TaskDef) (one other : ℕ) → IsOneGroup tasks one other ⊎ (¬ IsOneGroup tasks one other)
group_cases tasks one other = elim (cases_eq (rank_at tasks one) (rank_at tasks other)) [
  | inl ranks ↦ elim (cases_eq (epoch_at tasks one) (epoch_at tasks other)) [ inl epochs ↦ inl (ranks, epochs) | inr differ ↦ inr (λ same. differ same.1) ]
  | inr differ ↦ inr (λ same. differ same.0)
]

-- heads that are kept as the list grows
pub head_kept : (tasks : List TaskDef) (heads more : List ℕ) (task head : ℕ) → task ≤ length heads → IsHead tasks heads task head
    → IsHead tasks (heads ++ more) task head
head_kept tasks heads more task head le h = record {
  low = h.low;
  goes_on = λ before is same. h.goes_on before is same ∙ sym (get_or_append_left heads more 0 before (omega (arith, le, is)));
  begins = h.begins;
}

pub heads_more : (tasks : List TaskDef) (heads heads' : List ℕ) (next task : ℕ) → length heads ≡ task → heads' ≡ heads ++ next ∷ []
    → IsHead tasks heads task next →
    ((u : ℕ) → u < task → IsHead tasks heads u (get_or heads u 0)) → (u : ℕ) → u < task + 1 → IsHead tasks heads' u (get_or heads' u 0)
heads_more tasks heads heads' next task long e new each u lt =
    subst (λ (l : List ℕ). IsHead tasks l u (get_or l u 0)) (sym e) (elim (cases_eq u task) [
      | inl same ↦ subst (IsHead tasks (heads ++ next ∷ []) u) (sym (get_or_push heads next 0 u (long ∙ sym same)))
          (head_kept tasks heads (next ∷ []) u next (omega (arith, same, long)) (subst (λ (t : ℕ). IsHead tasks heads t next) (sym same) new))
      | inr other ↦ subst (IsHead tasks (heads ++ next ∷ []) u) (sym (get_or_append_left heads (next ∷ []) 0 u (omega (arith, lt, other, long))))
          (head_kept tasks heads (next ∷ []) u (get_or heads u 0) (omega (arith, lt, long)) (each u (omega (arith, lt, other))))
    ])

-- a task goes on in the group before it, or begins one
record IsStep (tasks : List TaskDef) (heads : List ℕ) (task : ℕ) : Type 0 where
  step : (IsOneGroup tasks task (suc task) × (get_or heads (suc task) 0 ≡ get_or heads task 0))
      ⊎ ((¬ IsOneGroup tasks task (suc task)) × (get_or heads (suc task) 0 ≡ suc task))

step_at : (tasks : List TaskDef) (heads : List ℕ) → IsGrouped tasks heads → (task : ℕ) → suc task < length tasks → IsStep tasks heads task
step_at tasks heads g task lt =
    let h = g.each (suc task) lt in
    record {
      step = elim (group_cases tasks task (suc task)) [
        | inl same ↦ inl (same, h.goes_on task (omega arith) same)
        | inr differ ↦ inr (differ, h.begins (λ before is same. differ (subst (λ (b : ℕ). IsOneGroup tasks b (suc task)) (omega (arith, is)) same)))
      ];
    }

-- a task and its head are of one group, and the head is its own head
pub record IsOwn (tasks : List TaskDef) (heads : List ℕ) (task : ℕ) : Type 0 where
  pub rank : rank_at tasks (get_or heads task 0) ≡ rank_at tasks task
  pub epoch : epoch_at tasks (get_or heads task 0) ≡ epoch_at tasks task
  pub head : get_or heads (get_or heads task 0) 0 ≡ get_or heads task 0

own_itself : (tasks : List TaskDef) (heads : List ℕ) (task : ℕ) → get_or heads task 0 ≡ task → IsOwn tasks heads task
own_itself tasks heads task is = record { rank = ap (rank_at tasks) is; epoch = ap (epoch_at tasks) is; head = ap (λ (t : ℕ). get_or heads t 0) is }

pub own : (tasks : List TaskDef) (heads : List ℕ) → IsGrouped tasks heads → (task : ℕ) → task < length tasks → IsOwn tasks heads task
own tasks heads g zero lt = own_itself tasks heads 0 (omega (arith, (g.each 0 lt).low))
own tasks heads g (suc task) lt = elim (step_at tasks heads g task lt).step [
  | inl on ↦
      let o = own tasks heads g task (omega (arith, lt)) in
      record {
        rank = ap (rank_at tasks) on.1 ∙ o.rank ∙ on.0.0;
        epoch = ap (epoch_at tasks) on.1 ∙ o.epoch ∙ on.0.1;
        head = ap (λ (t : ℕ). get_or heads t 0) on.1 ∙ o.head ∙ sym on.1;
      }
  | inr begins ↦ own_itself tasks heads (suc task) begins.1
]

-- the task before a head is of another group
pub differs : (tasks : List TaskDef) (heads : List ℕ) → IsGrouped tasks heads → (task before : ℕ) → task < length tasks → get_or heads task 0 ≡ before + 1
    → ¬ IsOneGroup tasks before task
differs tasks heads g zero before lt is same = absurd (omega (arith, is, (g.each 0 lt).low))
differs tasks heads g (suc task) before lt is same = elim (step_at tasks heads g task lt).step [
  | inl on ↦ differs tasks heads g task before (omega (arith, lt)) (sym on.1 ∙ is) (same.0 ∙ sym on.0.0, same.1 ∙ sym on.0.1)
  | inr begins ↦
      let at : before ≡ task = omega (arith, is, begins.1) in
      begins.0 (subst (λ (b : ℕ). IsOneGroup tasks b (suc task)) at same)
]

-- heads rise
pub heads_rise : (tasks : List TaskDef) (heads : List ℕ) → IsGrouped tasks heads → (u task : ℕ) → u ≤ task → task < length tasks
    → get_or heads u 0 ≤ get_or heads task 0
heads_rise tasks heads g u zero le lt = omega (arith, ap (λ (t : ℕ). get_or heads t 0) (let same : u ≡ 0 = omega (arith, le) in same))
heads_rise tasks heads g u (suc task) le lt = elim (cases_eq u (suc task)) [
  | inl same ↦ omega (arith, ap (λ (t : ℕ). get_or heads t 0) same)
  | inr other ↦
      let before = heads_rise tasks heads g u task (omega (arith, le, other)) (omega (arith, lt)) in
      elim (step_at tasks heads g task lt).step [
        | inl on ↦ omega (arith, before, on.1)
        | inr begins ↦ omega (arith, begins.1, le, (g.each u (omega (arith, le, lt))).low)
      ]
]

-- a task from the head of another one up to it has the same head
pub one_head : (tasks : List TaskDef) (heads : List ℕ) → IsGrouped tasks heads → (u task : ℕ) → get_or heads task 0 ≤ u → u ≤ task → task < length tasks
    → get_or heads u 0 ≡ get_or heads task 0
one_head tasks heads g u task from upto lt =
    omega (
      arith,
      heads_rise tasks heads g u task upto lt,
      heads_rise tasks heads g (get_or heads task 0) u from (omega (arith, upto, lt)),
      (own tasks heads g task lt).head,
    )

-- a task has one barrier at most
one_barrier : (tasks : List TaskDef) (heads : List ℕ) (accesses : ℕ) (one other : Link) → IsBarrier tasks heads accesses one
    → IsBarrier tasks heads accesses other → one.task ≡ other.task → one ≡ other
one_barrier tasks heads accesses one other b c same =
    let before : b.before ≡ c.before = omega (arith, b.next, c.next, ap (λ (t : ℕ). get_or heads t 0) same) in
    let source : one.source ≡ other.source = b.source ∙ ap (λ (t : ℕ). accesses + get_or heads t 0) before ∙ sym c.source in
    ap (λ (k : ℕ). link k one.task) source ∙ ap (λ (t : ℕ). link other.source t) same

-- the barrier of one more task is added
pub barriers_none : (tasks : List TaskDef) (heads : List ℕ) (accesses : ℕ) (links : List Link) → HasBarriers tasks heads accesses 0 links links
barriers_none tasks heads accesses links = record { kept = λ l here. here; made = λ l lt b. absurd (omega (arith, lt)); only = λ l here. inl here }

pub barriers_more : (tasks : List TaskDef) (heads : List ℕ) (accesses task : ℕ) (links links' links'' : List Link) (found : Option Link)
    → HasBarriers tasks heads accesses task links links' →
    IfSome found (λ l. (l.task ≡ task) × IsBarrier tasks heads accesses l) → IfNone found ((l : Link) → l.task ≡ task → ¬ IsBarrier tasks heads accesses l) →
    links'' ≡ links' ++ option_to_list found → HasBarriers tasks heads accesses (task + 1) links links''
barriers_more tasks heads accesses task links links' links'' None h some none e = record {
  kept = λ l here. subst (λ (x : List Link). Contains x l) (sym e) (Contains-append_left links' [] l (h.kept l here));
  made = λ l lt b. subst (λ (x : List Link). Contains x l) (sym e) (Contains-append_left links' [] l (elim (cases_eq l.task task) [
    | inl same ↦ absurd (none l same b)
    | inr other ↦ h.made l (omega (arith, lt, other)) b
  ]));
  only = λ l here. elim (Contains-append_cases links' [] l (subst
      (λ (x : List Link). Contains x l) e here)) [ inl before ↦ h.only l before | inr nowhere ↦ absurd (omega (arith, nowhere.1)) ];
}
barriers_more tasks heads accesses task links links' links'' (Some new) h some none e = record {
  kept = λ l here. subst (λ (x : List Link). Contains x l) (sym e) (Contains-append_left links' (new ∷ []) l (h.kept l here));
  made = λ l lt b. subst (λ (x : List Link). Contains x l) (sym e) (elim (cases_eq l.task task) [
    | inl same ↦ subst (Contains (links' ++ new ∷ [])) (one_barrier tasks heads accesses new l some.1 b (some.0 ∙ sym same)) (Contains-push links' new)
    | inr other ↦ Contains-append_left links' (new ∷ []) l (h.made l (omega (arith, lt, other)) b)
  ]);
  only = λ l here. elim (Contains-push_cases links' new l (subst (λ (x : List Link). Contains x l) e here)) [
    | inl before ↦ h.only l before
    | inr same ↦ inr (subst (IsBarrier tasks heads accesses) same some.1)
  ];
}

-- the groups of the heads so far are counted
pub record IsSized (heads : List ℕ) (i : ℕ) (sizes : List ℕ) : Type 0 where
  pub long : length sizes ≡ length heads
  pub counted : (head : ℕ) → head < length heads → get_or sizes head 0 ≡ count_by (λ x. x == head) (take i heads)

pub sized_none : (heads sizes : List ℕ) → sizes ≡ replicate (length heads) 0 → IsSized heads 0 sizes
sized_none heads sizes e = record {
  long = ap length e ∙ length-replicate (length heads) 0;
  counted = λ head lt. ap (λ (l : List ℕ). get_or l head 0) e ∙ get_or-replicate (length heads) head 0 0 lt;
}

pub sized_within : (heads : List ℕ) (i : ℕ) (sizes : List ℕ) (now : ℕ) → i < length heads → get_or heads i 0 ≤ i → IsSized heads i sizes
    → now ≡ get_or sizes (get_or heads i 0) now → now ≤ i
sized_within heads i sizes now within low s is =
    let here : ℕ = get_or heads i 0 in
    let read : now ≡ get_or sizes here 0 = get_or_read sizes here now (omega (arith, low, within, s.long)) is 0 in
    omega (arith, read, s.counted here (omega (arith, low, within)), count_by-le-length (λ x. x == here) (take i heads), length-take i heads)

pub sized_more : (heads : List ℕ) (i : ℕ) (sizes : List ℕ) (now : ℕ) → i < length heads → get_or heads i 0 ≤ i → IsSized heads i sizes
    → now ≡ get_or sizes (get_or heads i 0) now →
    IsSized heads (i + 1) (set sizes (get_or heads i 0) (now + 1))
sized_more heads i sizes now within low s is =
    let here : ℕ = get_or heads i 0 in
    let inside : here < length sizes = omega (arith, low, within, s.long) in
    let read : now ≡ get_or sizes here 0 = get_or_read sizes here now inside is 0 in
    record {
      long = length-set sizes here (now + 1) ∙ s.long;
      counted = λ head lt.
          let more = sum_by_more (λ x. cond (x == head) 1 0) heads i 0 within in
          elim (cases_eq head here) [
            | inl same ↦ omega (
              arith,
              get_or-set_at sizes here head (now + 1) 0 same inside,
              more,
              s.counted head lt,
              ap (λ (t : ℕ). get_or sizes t 0) same,
              read,
              ap {B = ℕ} (λ (b : Bool). cond b 1 0) (eq-eqb here head (sym same)),
            )
            | inr other ↦ omega (
              arith,
              get_or-set_other sizes here head (now + 1) 0 other,
              more,
              s.counted head lt,
              ap {B = ℕ} (λ (b : Bool). cond b 1 0) (ne_eqb here head (λ e. other (sym e))),
            )
          ];
    }

on_its_own : (b : Bool) → (b && not false) ≡ b
on_its_own true = refl
on_its_own false = refl

off : (b : Bool) → (b && not true) ≡ false
off true = refl
off false = refl

-- how many tasks of a group are held: at first all, and one less as one is released
pub held_at_first : (head : ℕ) (heads : List ℕ) → held_of head heads (replicate (length heads) false) ≡ count_by (λ x. x == head) heads
held_at_first head [] = refl
held_at_first head (first ∷ heads) =
    omega (
      arith,
      held_at_first head heads,
      sum_by-cons (λ x. cond (x == head) 1 0) first heads,
      ap {B = ℕ} (λ (b : Bool). cond b 1 0) (on_its_own (first == head)),
    )

pub held_less : (head : ℕ) (heads : List ℕ) (released : List Bool) (task : ℕ) → length heads ≡ length released → slice_get released task ≡ Some false →
    held_of head heads (set released task true) + cond (get_or heads task 0 == head) 1 0 ≡ held_of head heads released
held_less head [] released task long held = absurd (omega (arith, slice_get_within released task false held, long))
held_less head (first ∷ heads) [] task long held = absurd (omega (arith, long))
held_less head (first ∷ heads) (is_released ∷ released) zero long held =
    let is : is_released ≡ false = same_Some is_released false held in
    omega (
      arith,
      ap {B = ℕ} (λ (b : Bool). cond ((first == head) && not b) 1 0) is,
      ap {B = ℕ} (λ (b : Bool). cond b 1 0) (on_its_own (first == head)),
      ap {B = ℕ} (λ (b : Bool). cond b 1 0) (off (first == head)),
    )
held_less head (first ∷ heads) (is_released ∷ released) (suc task) long held = omega (arith, held_less head heads released task (omega (arith, long)) held)

-- where none is held, each task of the group is released, and the other way round
pub none_held : (head : ℕ) (heads : List ℕ) (released : List Bool) → length heads ≡ length released → held_of head heads released ≡ 0 → (task : ℕ)
    → task < length heads →
    get_or heads task 0 ≡ head → slice_get released task ≡ Some true
none_held head [] released long none task lt is = absurd (omega (arith, lt))
none_held head (first ∷ heads) [] long none task lt is = absurd (omega (arith, long))
none_held head (first ∷ heads) (true ∷ released) long none zero lt is = refl
none_held head (first ∷ heads) (false ∷ released) long none zero lt is =
    absurd (omega (
      arith,
      none,
      ap {B = ℕ} (λ (b : Bool). cond b 1 0) (on_its_own (first == head)),
      ap {B = ℕ} (λ (b : Bool). cond b 1 0) (eq-eqb first head is),
    ))
none_held head (first ∷ heads) (is_released ∷ released) long none (suc task) lt is =
    none_held head heads released (omega (arith, long)) (omega (arith, none)) task (omega (arith, lt)) is

pub all_released : (head : ℕ) (heads : List ℕ) (released : List Bool) → length heads ≡ length released →
    ((task : ℕ) → task < length heads → get_or heads task 0 ≡ head → slice_get released task ≡ Some true) → held_of head heads released ≡ 0
all_released head [] released long each = refl
all_released head (first ∷ heads) [] long each = refl
all_released head (first ∷ heads) (is_released ∷ released) long each =
    let later = all_released head heads released (omega (arith, long)) (λ task lt is. each (suc task) (omega (arith, lt)) is) in
    elim (cases_eq first head) [
      | inl same ↦
          let is : is_released ≡ true = same_Some is_released true (each 0 (omega arith) same) in
          omega (arith, later, ap {B = ℕ} (λ (b : Bool). cond ((first == head) && not b) 1 0) is, ap {B = ℕ} (λ (b : Bool). cond b 1 0) (off (first == head)))
      | inr other ↦ omega (arith, later, ap {B = ℕ} (λ (b : Bool). cond b 1 0) (and_left (first == head) (not is_released) (ne_eqb first head other)))
    ]

-- the head of the first task, of one that goes on, and of one that begins a group
pub head_first : (tasks : List TaskDef) (heads : List ℕ) (task : ℕ) → task ≡ 0 → IsHead tasks heads task 0
head_first tasks heads task first = record { low = omega arith; goes_on = λ before is same. absurd (omega (arith, first, is)); begins = λ none. sym first }

pub head_goes_on : (tasks : List TaskDef) (heads : List ℕ) (task head : ℕ) → 0 < task → ((k : ℕ) → k < task → get_or heads k 0 ≤ k)
    → head ≡ get_or heads (task - 1) 0 →
    IsOneGroup tasks (task - 1) task → IsHead tasks heads task head
head_goes_on tasks heads task head later low is same = record {
  low = omega (arith, is, low (task - 1) (omega (arith, later)));
  goes_on = λ before next _. is ∙ ap (λ (t : ℕ). get_or heads t 0) (let back : task - 1 ≡ before = omega (arith, next) in back);
  begins = λ none. absurd (none (task - 1) (omega (arith, later)) same);
}

pub head_begins : (tasks : List TaskDef) (heads : List ℕ) (task : ℕ) → ¬ IsOneGroup tasks (task - 1) task → IsHead tasks heads task task
head_begins tasks heads task differ = record {
  low = omega arith;
  goes_on = λ before next same. absurd (differ (subst (λ (b : ℕ). IsOneGroup tasks b task) (let back : before ≡ task - 1 = omega (arith, next) in back) same));
  begins = λ none. refl;
}

-- two tasks compared by what was read of them
pub group_read : (tasks : List TaskDef) (one other : ℕ) (def def' : TaskDef) → one < length tasks → other < length tasks → def ≡ get_or tasks one def
    → def' ≡ get_or tasks other def' →
    IsOneGroup tasks one other ↔ ((def.rank ≡ def'.rank) × (def.epoch ≡ def'.epoch))
group_read tasks one other def def' lt lt' is is' =
    let r = rank_of tasks one def lt (sym is) in
    let r' = rank_of tasks other def' lt' (sym is') in
    let e = epoch_of tasks one def lt (sym is) in
    let e' = epoch_of tasks other def' lt' (sym is') in
    (λ same. (sym r ∙ same.0 ∙ r', sym e ∙ same.1 ∙ e'), λ same. (r ∙ same.0 ∙ sym r', e ∙ same.1 ∙ sym e'))
