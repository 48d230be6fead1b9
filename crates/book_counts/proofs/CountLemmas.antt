-- What a book counts, before and after a move of a task.
use Rattle.std.proofs.Common.{◌≡◌, ◌≢◌, ℕ, zero, suc, ◌+◌, ◌<◌, ◌↔◌, Bool, true, false, not, cond, List, [], ◌∷◌, length, drop, get_or, slice_get, slice_set}
use Rattle.std.proofs.Common.{Option, Some, refl, sym, ap, ◌∙◌, subst, inl, inr, eqb-true, eq-eqb, arith}
use Rattle.std.specs.Prelude.{All, replicate, count_by}
use Rattle.std.proofs.lemmas.Bool.{cases_Bool}
use Rattle.std.proofs.lemmas.List.{length-set, length-replicate}
use Rattle.std.proofs.lemmas.List.Sums.{sum_by-cons, sum_by-set}
use Rattle.std.proofs.lemmas.Option.{slice_get_within, get_or_from_slice_get}
use Rattle.rt_base.specs.declared.data.ReqNo.{ReqNo}
use Rattle.rt_base.specs.declared.data.Phase.{Phase}
use Rattle.rt_base.specs.declared.data.Phase.TheVariants as phase
use Rattle.rt_base.specs.declared.data.Op.{Op}
use Rattle.rt_base.specs.declared.data.Op.TheVariants as op
use Rattle.rt_base.specs.declared.data.TaskDef.{TaskDef}
use Rattle.rt_base.specs.declared.data.Program.{Program}
use Rattle.rt_base.specs.Operations.{awaited}
use Rattle.rt_base.specs.Precedes.{LetGo, GoneMore, MayStart}
use Rattle.task_machine.proofs.Growth.{starts_more}
use Rattle.rt_base.specs.Exchange.{Exchange}
use Rattle.rt_base.specs.Completion.{is_complete}
use Rattle.rt_base.specs.State.{State, Task, is_released}
use Rattle.rt_base.specs.MayMove.{MayMoveAt, AreComplete}
use Rattle.task_local.specs.Local.{stop_at, stop}
use Rattle.task_machine.specs.Machine.{awaited_at, open_count}
use Rattle.book_counts.specs.Counted.{IsCounted, is_zero, is_unreleased, waits_at}
use Rattle.task_machine.proofs.Lists.{slice_get-set_same, slice_get-set_other, slice_set_same}
use Rattle.task_machine.proofs.Items.{either_place, at_replicate, same_some}
use Rattle.task_machine.proofs.Stops.{stop_held}

-- a count after one place was written
pub count-set : {X : Type 0} (f : X → Bool) (xs : List X) (i : ℕ) (was now : X) → slice_get xs i ≡ Some was
    → count_by f (slice_set xs i now) + cond (f was) 1 0 ≡ count_by f xs + cond (f now) 1 0
count-set f xs i was now here =
    subst (λ z. count_by f (slice_set xs i now) + cond (f z) 1 0 ≡ count_by f xs + cond (f now) 1 0) (get_or_from_slice_get xs i was was here)
    (sum_by-set (λ z. cond (f z) 1 0) xs i now was (slice_get_within xs i was here))

pub held_one : (at : Phase) → is_released at ≡ false → ◌≡◌ {A = ℕ} (cond (is_unreleased at) 1 0) 1
held_one at held = ap {B = ℕ} (λ b. cond (not b) 1 0) held

-- the phase at a place after one was written
written : {X : Type 0} (xs : List X) (t : ℕ) (was now at : X) → slice_get xs t ≡ Some was → slice_get (slice_set xs t now) t ≡ Some at → at ≡ now
written xs t was now at here there = same_some (sym there ∙ slice_get-set_same xs t now (slice_get_within xs t was here))

-- the counts after a move of a task, where the others wait for what they did or were told
pub counted_after : (p : Program) (g g' : LetGo) (h : List Bool) (phs : List Phase) (b b' : ℕ → List ReqNo) (x x' : Exchange) (n n' : ℕ)
    (ws mid ws' : List ℕ) (t : ℕ) (was now : Phase)
    → IsCounted p g h phs b x n ws → GoneMore g g' → slice_get phs t ≡ Some was → is_released was ≡ false → length mid ≡ length ws
    → ((u : ℕ) (at : Phase) → u ≢ t → slice_get phs u ≡ Some at → slice_get mid u ≡ Some (waits_at p x' h u at (b' u)))
    → ws' ≡ slice_set mid t (waits_at p x' h t now (b' t)) → n' + 1 ≡ n + cond (is_unreleased now) 1 0 → IsCounted p g' h (slice_set phs t now) b' x' n' ws'
counted_after p g g' h phs b b' x x' n n' ws mid ws' t was now counted more here held long others is_ws is_n =
    let within : t < length phs = slice_get_within phs t was here in
    let before : length ws ≡ length phs = counted.long in
    record {
      unreleased_is =
          let one = held_one was held in
          let moved = count-set is_unreleased phs t was now here in
          let counts = counted.unreleased_is in
          omega arith;
      long = ap (λ (z : List ℕ). length z) is_ws ∙ length-set mid t (waits_at p x' h t now (b' t)) ∙ long ∙ before ∙ sym (length-set phs t now);
      waits_are = λ u at there. elim (either_place u t) [
        | inl same ↦
            let is_at : at ≡ now = written phs t was now at here (subst (λ i. slice_get (slice_set phs t now) i ≡ Some at) same there) in
            subst (λ i. slice_get ws' i ≡ Some (waits_at p x' h i at (b' i))) (sym same)
            (subst (λ (q : Phase). slice_get ws' t ≡ Some (waits_at p x' h t q (b' t))) (sym is_at)
            (ap (λ (z : List ℕ). slice_get z t) is_ws ∙ slice_get-set_same mid t (waits_at p x' h t now (b' t)) (omega arith)))
        | inr other ↦
            ap (λ (z : List ℕ). slice_get z u) is_ws ∙ slice_get-set_other mid t u (waits_at p x' h t now (b' t)) other
            ∙ others u at other (sym (slice_get-set_other phs t u now other) ∙ there)
      ];
      let_in = λ u handed. starts_more p g g' u more (counted.let_in u handed);
    }

-- the others have bound what they had, so they wait for what they did
others_wait : (p : Program) (x : Exchange) (h : List Bool) (b b' : ℕ → List ReqNo) (ws : List ℕ) (u : ℕ) (at : Phase)
    → slice_get ws u ≡ Some (waits_at p x h u at (b u)) → b' u ≡ b u → slice_get ws u ≡ Some (waits_at p x h u at (b' u))
others_wait p x h b b' ws u at number same = number ∙ ap (λ (reqs : List ReqNo). Some (waits_at p x h u at reqs)) (sym same)

-- a move that changes nothing of what the others wait for
pub counted_move : (p : Program) (g g' : LetGo) (h : List Bool) (phs : List Phase) (b b' : ℕ → List ReqNo) (x : Exchange) (n n' : ℕ) (ws ws' : List ℕ)
    (t : ℕ) (was now : Phase)
    → IsCounted p g h phs b x n ws → GoneMore g g' → slice_get phs t ≡ Some was → is_released was ≡ false → ((u : ℕ) → u ≢ t → b' u ≡ b u)
    → ws' ≡ slice_set ws t (waits_at p x h t now (b' t)) → n' + 1 ≡ n + cond (is_unreleased now) 1 0 → IsCounted p g' h (slice_set phs t now) b' x n' ws'
counted_move p g g' h phs b b' x n n' ws ws' t was now counted more here held same is_ws is_n =
    counted_after p g g' h phs b b' x x n n' ws ws ws' t was now counted more here held refl
    (λ u at other there. others_wait p x h b b' ws u at (counted.waits_are u at there) (same u other)) is_ws is_n

-- a move after which the task still waits for nothing
pub counted_on : (p : Program) (g g' : LetGo) (h : List Bool) (phs : List Phase) (b b' : ℕ → List ReqNo) (x : Exchange) (n : ℕ) (ws : List ℕ) (t : ℕ)
    (was now : Phase)
    → IsCounted p g h phs b x n ws → GoneMore g g' → slice_get phs t ≡ Some was → is_released was ≡ false → is_released now ≡ false
    → ((u : ℕ) → u ≢ t → b' u ≡ b u) → waits_at p x h t was (b t) ≡ 0 → waits_at p x h t now (b' t) ≡ 0
    → IsCounted p g' h (slice_set phs t now) b' x n ws
counted_on p g g' h phs b b' x n ws t was now counted more here held held' same none none' =
    counted_move p g g' h phs b b' x n n ws ws t was now counted more here held same
    (sym (slice_set_same ws t (waits_at p x h t now (b' t)) (counted.waits_are t was here ∙ ap Some (none ∙ sym none'))))
    (ap (λ k. n + k) (sym (held_one now held')))

-- where a task stops it waits for nothing
stop_at_waits : (p : Program) (x : Exchange) (h : List Bool) (t k : ℕ) (ops : List Op) (bound : List ReqNo) → waits_at p x h t (stop_at k ops) bound ≡ 0
stop_at_waits p x h t k [] bound = refl
stop_at_waits p x h t k (op.Compute kind dst left right value step ∷ ops) bound = stop_at_waits p x h t (k + 1) ops bound
stop_at_waits p x h t k (op.Post how span peer tag comm status ∷ ops) bound = refl
stop_at_waits p x h t k (op.Await later handles status ∷ ops) bound = refl

pub stop_waits : (p : Program) (x : Exchange) (h : List Bool) (t : ℕ) (def : TaskDef) (k : ℕ) (bound : List ReqNo) → waits_at p x h t (stop def k) bound ≡ 0
unfolding stop
stop_waits p x h t def k bound = stop_at_waits p x h t k (drop k def.body.items) bound

-- where a task stops it is not released
pub stop_is_held : (def : TaskDef) (k : ℕ) → is_released (stop def k) ≡ false
unfolding stop
stop_is_held def k = stop_held k (drop k def.body.items)

-- a task that was handed out, if it waits, waits for nothing
pub handed_waits : (p : Program) (x : Exchange) (h : List Bool) (t : ℕ) (bound : List ReqNo) → get_or h t false ≡ true
    → waits_at p x h t phase.Waiting bound ≡ 0
handed_waits p x h t bound handed = ap {B = ℕ} (λ b. cond b 0 1) handed

-- the same, where another task was handed out
waits_handed : (p : Program) (x : Exchange) (h h' : List Bool) (t : ℕ) (at : Phase) (bound : List ReqNo) → get_or h' t false ≡ get_or h t false
    → waits_at p x h' t at bound ≡ waits_at p x h t at bound
waits_handed p x h h' t phase.Waiting bound same = ap {B = ℕ} (λ b. cond b 0 1) same
waits_handed p x h h' t (phase.At k) bound same = refl
waits_handed p x h h' t (phase.In k) bound same = refl
waits_handed p x h h' t phase.Ended bound same = refl
waits_handed p x h h' t phase.Returned bound same = refl
waits_handed p x h h' t phase.Released bound same = refl

get_or-other : (xs : List Bool) (t u : ℕ) (b : Bool) → u ≢ t → get_or (slice_set xs t b) u false ≡ get_or xs u false
get_or-other [] t u b other = refl
get_or-other (y ∷ ys) zero zero b other = absurd (other refl)
get_or-other (y ∷ ys) zero (suc u) b other = refl
get_or-other (y ∷ ys) (suc t) zero b other = refl
get_or-other (y ∷ ys) (suc t) (suc u) b other = get_or-other ys t u b (λ same. other (ap suc same))

-- the counts after a task was handed out
pub counted_ready : (p : Program) (g : LetGo) (h h' : List Bool) (phs : List Phase) (b : ℕ → List ReqNo) (x : Exchange) (n : ℕ) (ws ws' : List ℕ) (t : ℕ)
    → IsCounted p g h phs b x n ws → slice_get h t ≡ Some false → slice_get phs t ≡ Some phase.Waiting → MayStart p g t
    → h' ≡ slice_set h t true → ws' ≡ slice_set ws t 0 → IsCounted p g h' phs b x n ws'
counted_ready p g h h' phs b x n ws ws' t counted not_yet waits may is_h is_ws =
    let within : t < length h = slice_get_within h t false not_yet in
    let place : t < length phs = slice_get_within phs t phase.Waiting waits in
    let long : length ws ≡ length phs = counted.long in
    record {
      unreleased_is = counted.unreleased_is;
      long = ap (λ (z : List ℕ). length z) is_ws ∙ length-set ws t 0 ∙ long;
      waits_are = λ u at there. elim (either_place u t) [
        | inl same ↦
            let is_at : at ≡ phase.Waiting = same_some (sym there ∙ ap (slice_get phs) same ∙ waits) in
            let now : get_or h' t false ≡ true = get_or_from_slice_get h' t true false (ap (λ (z : List Bool). slice_get z t) is_h
            ∙ slice_get-set_same h t true within) in
            subst (λ i. slice_get ws' i ≡ Some (waits_at p x h' i at (b i))) (sym same)
            (subst (λ (q : Phase). slice_get ws' t ≡ Some (waits_at p x h' t q (b t))) (sym is_at)
            (ap (λ (z : List ℕ). slice_get z t) is_ws ∙ slice_get-set_same ws t 0 (omega arith) ∙ ap (λ handed. Some (cond handed 0 1)) (sym now)))
        | inr other ↦
            ap (λ (z : List ℕ). slice_get z u) is_ws ∙ slice_get-set_other ws t u 0 other ∙ counted.waits_are u at there
            ∙ ap Some (sym (waits_handed p x h h' u at (b u) (ap (λ (z : List Bool). get_or z u false) is_h ∙ get_or-other h t u true other)))
      ];
      let_in = λ u handed. elim (either_place u t) [
        | inl same ↦ subst (MayStart p g) (sym same) may
        | inr other ↦ counted.let_in u (sym (ap (λ (z : List Bool). slice_get z u) is_h ∙ slice_get-set_other h t u true other) ∙ handed)
      ];
    }

count_all : (n : ℕ) → count_by is_unreleased (replicate n phase.Waiting) ≡ n
count_all zero = refl
count_all (suc n) =
    let whole = sum_by-cons (λ (at : Phase). cond (is_unreleased at) 1 0) phase.Waiting (replicate n phase.Waiting) in
    let rest = count_all n in
    omega arith

pub of_replicate : {X : Type 0} (n : ℕ) (x y : X) (t : ℕ) → slice_get (replicate n x) t ≡ Some y → (y ≡ x) × (t < n)
of_replicate zero x y t here = absurd (cc)
of_replicate (suc n) x y zero here = (sym (same_some here), omega arith)
of_replicate (suc n) x y (suc t) here =
    let rest = of_replicate n x y t here in
    (rest.0, omega (arith, rest.1))

-- the counts of a new book
pub counted_first : (p : Program) (g : LetGo) (h : List Bool) (phs : List Phase) (b : ℕ → List ReqNo) (x : Exchange) (n : ℕ) (ws : List ℕ)
    → h ≡ replicate (length p.tasks.items) false → phs ≡ replicate (length p.tasks.items) phase.Waiting → n ≡ length p.tasks.items
    → ws ≡ replicate (length p.tasks.items) 1
    → IsCounted p g h phs b x n ws
counted_first p g h phs b x n ws is_h is_phs is_n is_ws =
    let tasks = length p.tasks.items in
    record {
      unreleased_is = is_n ∙ sym (ap (λ (z : List Phase). count_by is_unreleased z) is_phs ∙ count_all tasks);
      long = ap (λ (z : List ℕ). length z) is_ws ∙ length-replicate tasks 1
          ∙ sym (ap (λ (z : List Phase). length z) is_phs ∙ length-replicate tasks phase.Waiting);
      waits_are = λ t at here.
          let place = of_replicate tasks phase.Waiting at t (sym (ap (λ (z : List Phase). slice_get z t) is_phs) ∙ here) in
          let not_yet : get_or h t false ≡ false = get_or_from_slice_get h t false false (ap (λ (z : List Bool). slice_get z t) is_h
          ∙ at_replicate tasks false t place.1) in
          subst (λ (q : Phase). slice_get ws t ≡ Some (waits_at p x h t q (b t))) (sym place.0)
          (ap (λ (z : List ℕ). slice_get z t) is_ws ∙ at_replicate tasks 1 t place.1 ∙ ap (λ handed. Some (cond handed 0 1)) (sym not_yet));
      let_in = λ t handed.
          let never = of_replicate tasks false true t (sym (ap (λ (z : List Bool). slice_get z t) is_h) ∙ handed) in
          absurd (cc (never.0));
    }

-- no request of these is incomplete exactly where all are complete
pub none_incomplete : (p : Program) (x : Exchange) (reqs : List ReqNo) → (open_count p x reqs ≡ 0) ↔ AreComplete p x reqs
unfolding open_count
none_incomplete p x [] = (λ none. tt, λ all. refl)
none_incomplete p x (req ∷ reqs) =
    let whole = sum_by-cons (λ (r : ReqNo). cond (not (is_complete p x r)) 1 0) req reqs in
    let rest = none_incomplete p x reqs in
    elim (cases_Bool (is_complete p x req)) [
      | inl complete ↦
          let one = ap {B = ℕ} (λ b. cond (not b) 1 0) complete in
          (λ none. (complete, rest.0 (omega arith)), λ all. let more = rest.1 all.1 in omega arith)
      | inr incomplete ↦
          let one = ap {B = ℕ} (λ b. cond (not b) 1 0) incomplete in
          (λ none. absurd (omega arith), λ all. absurd (cc (all.0, incomplete)))
    ]

-- a task that was started may move exactly where it waits for nothing
pub waits_for_none : (p : Program) (s : State) (h : List Bool) (t : ℕ) (def : TaskDef) (task : Task) (at : Phase) → slice_get p.tasks.items t ≡ Some def
    → at ≢ phase.Waiting → (waits_at p s.exchange h t at task.bound ≡ 0) ↔ MayMoveAt p s.tasks s.exchange t def task at
waits_for_none p s h t def task phase.Waiting is_def started = absurd (started refl)
waits_for_none p s h t def task (phase.At k) is_def started = (λ none. tt, λ may. refl)
waits_for_none p s h t def task (phase.In k) is_def started =
    subst (λ (o : Option TaskDef). (open_count p s.exchange (awaited_at t o (Some (phase.In k))) ≡ 0) ↔ AreComplete p s.exchange (awaited t def k)) (sym is_def)
    (none_incomplete p s.exchange (awaited t def k))
waits_for_none p s h t def task phase.Ended is_def started = (λ none. tt, λ may. refl)
waits_for_none p s h t def task phase.Returned is_def started = none_incomplete p s.exchange task.bound
waits_for_none p s h t def task phase.Released is_def started = (λ none. absurd (cc none), λ may. absurd may)

-- a number that is 0 is counted, and where none is nothing is
pub zero_counts : (ws : List ℕ) (t : ℕ) → slice_get ws t ≡ Some 0 → count_by is_zero ws ≡ 0 → ⊥
zero_counts [] t here none = absurd (cc)
zero_counts (w ∷ ws) zero here none =
    let whole = sum_by-cons (λ k. cond (is_zero k) 1 0) w ws in
    let one = ap {B = ℕ} (λ b. cond b 1 0) (eq-eqb w 0 (same_some here)) in
    absurd (omega arith)
zero_counts (w ∷ ws) (suc t) here none =
    let whole = sum_by-cons (λ k. cond (is_zero k) 1 0) w ws in
    zero_counts ws t here (omega arith)

pub count_no_zero : (ws : List ℕ) → ((t : ℕ) → slice_get ws t ≡ Some 0 → ⊥) → count_by is_zero ws ≡ 0
count_no_zero [] none = refl
count_no_zero (w ∷ ws) none =
    let whole = sum_by-cons (λ k. cond (is_zero k) 1 0) w ws in
    let rest = count_no_zero ws (λ t. none (suc t)) in
    elim (cases_Bool (is_zero w)) [
      | inl is ↦ absurd (none zero (ap Some (eqb-true w 0 is)))
      | inr other ↦ let no = ap {B = ℕ} (λ b. cond b 1 0) other in omega arith
    ]

released_if : (at : Phase) → is_unreleased at ≡ false → at ≡ phase.Released
released_if phase.Waiting gone = absurd (cc)
released_if (phase.At k) gone = absurd (cc)
released_if (phase.In k) gone = absurd (cc)
released_if phase.Ended gone = absurd (cc)
released_if phase.Returned gone = absurd (cc)
released_if phase.Released gone = refl

-- no task is held exactly where all are released
pub all_gone : (phs : List Phase) → count_by is_unreleased phs ≡ 0 → (k : ℕ) (d : Phase) → k < length phs → get_or phs k d ≡ phase.Released
all_gone [] none k d lt = absurd (omega arith)
all_gone (at ∷ phs) none zero d lt =
    let whole = sum_by-cons (λ (q : Phase). cond (is_unreleased q) 1 0) at phs in
    elim (cases_Bool (is_unreleased at)) [
      | inl held ↦ let one = ap {B = ℕ} (λ b. cond b 1 0) held in absurd (omega arith)
      | inr gone ↦ released_if at gone
    ]
all_gone (at ∷ phs) none (suc k) d lt =
    let whole = sum_by-cons (λ (q : Phase). cond (is_unreleased q) 1 0) at phs in
    all_gone phs (omega arith) k d (omega arith)

pub none_unreleased : (phs : List Phase) → All (λ at. at ≡ phase.Released) phs → count_by is_unreleased phs ≡ 0
none_unreleased [] all = refl
none_unreleased (at ∷ phs) all =
    let whole = sum_by-cons (λ (q : Phase). cond (is_unreleased q) 1 0) at phs in
    let first = ap {B = ℕ} (λ (q : Phase). cond (is_unreleased q) 1 0) (all zero at (omega arith)) in
    let rest = none_unreleased phs (λ k d lt. all (suc k) d (omega arith)) in
    omega arith
