-- How the bounds of all accesses tell how many pieces there are.
use Rattle.std.proofs.Common.{◌≡◌, ◌∙◌, ℕ, zero, suc, ◌+◌, ◌-◌, ◌*◌, ◌<◌, ◌≤◌, ◌↔◌, cond, Bool, true, false, ◌&&◌, ◌||◌, nat_eq, nat_lt, nat_le, List}
use Rattle.std.proofs.Common.{[], ◌∷◌, ◌++◌, length, get_or, slice_index_or, take, Contains, count_by, sum_by, max, refl, sym, ap, append-nil}
use Rattle.std.proofs.Common.{append_assoc, take_all, subst, arith, ⊎_elim}
use Rattle.std.specs.List.{list_any, AllByRecursion}
use Rattle.std.specs.List.Sorted.{IsStrictlyIncreasing, IsNonDecreasing, IsStrictlySortedBy}
use Rattle.std.specs.Ordering.{nat_cmp}
use Rattle.std.specs.declared.cmp.Ordering.TheVariants.{Less}
use Rattle.std.proofs.lemmas.Bool.{cases_Bool, eqb-true, eq-eqb, false≢true, or_cases, or_left, or_right, le-leb, lt-leb}
use Rattle.std.proofs.lemmas.List.Sums.{sum_by-cons, sum_by_more_le}
use Rattle.std.proofs.lemmas.Grind.{common_steps, take_at_read}
use Rattle.cell_spans.proofs.CoveringLemmas.{same_tests, small_after}
use Rattle.cell_spans.proofs.RequestLemmas.{any_append}
use Rattle.std.proofs.lemmas.Bool.Decides.{nat_tests}
use Rattle.std.proofs.lemmas.Map.Keys.{sorted_from_strictly_increasing, non_decreasing_from_sorted, sorted_head, sorted_tail}
use Rattle.rt_base.specs.declared.data.Span.{Span}
use Rattle.rt_base.specs.declared.data.Access.{Access}
use Rattle.rt_base.specs.declared.data.TaskDef.{TaskDef}
use Rattle.rt_base.specs.Touched.{numbers_from}
use Rattle.rt_base.specs.Pieces.{is_bound, is_bound_of, pieces_of, pieces}
use Rattle.cell_spans.specs.Line.{IsSmall}
use Rattle.cell_spans.specs.Covering.{AreSmall}
use Rattle.cell_spans.specs.Cuts.{spot, bounds_of, all_bounds, AreTasksSmall, cut_cells, cut_by_accesses, cut_by_tasks}
use Rattle.cell_spans.proofs.CountLemmas.{count_first, count_yes, count_no}

-- numbers that rise don't fall
pub rises_ascends : (xs : List ℕ) → IsStrictlyIncreasing xs → IsNonDecreasing xs
rises_ascends xs rises = non_decreasing_from_sorted xs (sorted_from_strictly_increasing xs rises)

-- no number stands twice
AreDistinct : List ℕ → Type 0
AreDistinct [] = Unit {0}
AreDistinct (x ∷ xs) = (list_any (nat_eq x) xs ≡ false) × AreDistinct xs

above_none : (x : ℕ) (xs : List ℕ) → AllByRecursion (λ y. nat_cmp x y ≡ Less) xs → list_any (nat_eq x) xs ≡ false
above_none x [] all = refl
above_none x (y ∷ ys) all = rw (not_it, above_none x ys all.1) refl
  where
    not_it : nat_eq x y ≡ false
    not_it = differs x y all.0
      where
        differs : (a b : ℕ) → nat_cmp a b ≡ Less → nat_eq a b ≡ false
        differs a b h = grind (arith, nat_tests)

distinct_from : (xs : List ℕ) → IsStrictlySortedBy nat_cmp xs → AreDistinct xs
unfolding AreDistinct
distinct_from [] sorted = tt
distinct_from (x ∷ xs) sorted = (above_none x xs (sorted_head nat_cmp x xs sorted), distinct_from xs (sorted_tail nat_cmp x xs sorted))

-- so a number counts once, where it stands
one_place : (v : ℕ) (xs : List ℕ) → AreDistinct xs → count_by (nat_eq v) xs ≡ cond (list_any (nat_eq v) xs) 1 0
unfolding AreDistinct
one_place v [] distinct = refl
one_place v (x ∷ xs) distinct =
    ⊎_elim (λ (yes : nat_eq v x ≡ true). let same : v ≡ x = eqb-true v x yes in
    let none : list_any (nat_eq v) xs ≡ false = ap (λ n. list_any (nat_eq n) xs) same ∙ distinct.0 in
    count_yes (nat_eq v) x xs yes ∙ ap {B = ℕ} (λ n. 1 + n) (one_place v xs distinct.1 ∙ ap {B = ℕ} (λ b. cond b 1 0) none)
    ∙ ap {B = ℕ} (λ b. cond (b || list_any (nat_eq v) xs) 1 0) (sym yes))
    (λ (not_it : nat_eq v x ≡ false). count_no (nat_eq v) x xs not_it ∙ one_place v xs distinct.1
    ∙ ap {B = ℕ} (λ b. cond (b || list_any (nat_eq v) xs) 1 0) (sym not_it))
    (cases_Bool (nat_eq v x))

-- below the next number are those below this one, and this one
below_next : (b : ℕ) (xs : List ℕ) → count_by (λ number. nat_lt number (b + 1)) xs ≡ count_by (λ number. nat_lt number b) xs + count_by (nat_eq b) xs
below_next b [] = refl
below_next b (x ∷ xs) = omega (
  arith,
  below_next b xs,
  count_first (λ number. nat_lt number (b + 1)) x xs,
  count_first (λ number. nat_lt number b) x xs,
  count_first (nat_eq b) x xs,
  one b x,
)
  where
    one : (a y : ℕ) → cond (nat_lt y (a + 1)) 1 0 ≡ cond (nat_lt y a) 1 0 + cond (nat_eq a y) 1 0
    one a y = grind (arith, nat_tests)

-- the cells from the first on that stand among the numbers
counted : (base first count : ℕ) (cuts : List ℕ) → AreDistinct cuts
    → count_by (λ number. nat_lt number (base + (first + count))) cuts
    ≡ count_by (λ number. nat_lt number (base + first)) cuts + count_by (λ cell. list_any (nat_eq (base + cell)) cuts) (numbers_from first count)
counted base first zero cuts distinct =
    let at : count_by (λ number. nat_lt number (base + (first + 0))) cuts ≡ count_by (λ number. nat_lt number (base + first)) cuts
    = ap (λ b. count_by (λ number. nat_lt number b) cuts) (omega arith) in omega arith
counted base first (suc count) cuts distinct =
    let end : count_by (λ number. nat_lt number (base + (first + suc count))) cuts ≡ count_by (λ number. nat_lt number (base + (suc first + count))) cuts
    = ap (λ b. count_by (λ number. nat_lt number b) cuts) (omega arith) in
    let next : count_by (λ number. nat_lt number (base + suc first)) cuts ≡ count_by (λ number. nat_lt number (base + first + 1)) cuts
    = ap (λ b. count_by (λ number. nat_lt number b) cuts) (omega arith) in
    omega (
      arith,
      end,
      next,
      counted base (suc first) count cuts distinct,
      below_next (base + first) cuts,
      one_place (base + first) cuts distinct,
      count_first (λ cell. list_any (nat_eq (base + cell)) cuts) first (numbers_from (suc first) count),
    )

pub cells_counted : (cuts : List ℕ) (rank : ℕ) (span : Span) → IsStrictlyIncreasing cuts → span.from ≤ span.to
    → count_by (λ number. nat_lt number (spot rank span.array span.to)) cuts
    ≡ count_by (λ number. nat_lt number (spot rank span.array span.from)) cuts + cut_cells cuts rank span
cells_counted cuts rank span rises ordered =
    ap (λ n. count_by (λ number. nat_lt number ((rank * 65536 + span.array) * 4294967296 + n)) cuts) (omega arith)
    ∙ counted ((rank * 65536 + span.array) * 4294967296) span.from (span.to - span.from) cuts (distinct_from cuts (sorted_from_strictly_increasing cuts rises))

-- each bound of an access stands among the bounds, at the place of its cell
bound_at : (rank other array cell : ℕ) (span : Span) → rank < 65536 → other < 65536 → array < 65536 → cell < 4294967296 → IsSmall span
    → nat_eq (spot rank array cell) (spot other span.array span.from) ≡ (nat_eq other rank && (nat_eq span.array array && nat_eq span.from cell))
bound_at rank other array cell span rank_fits other_fits array_fits cell_fits small = grind (arith, nat_tests)

to_at : (rank other array cell : ℕ) (span : Span) → rank < 65536 → other < 65536 → array < 65536 → cell < 4294967296 → IsSmall span
    → nat_eq (spot rank array cell) (spot other span.array span.to) ≡ (nat_eq other rank && (nat_eq span.array array && nat_eq span.to cell))
to_at rank other array cell span rank_fits other_fits array_fits cell_fits small = grind (arith, nat_tests)

distribute : (x a f t rest : Bool) → ((x && (a && f)) || ((x && (a && t)) || (x && rest))) ≡ (x && ((a && (f || t)) || rest))
distribute false a f t rest = refl
distribute true true true t rest = refl
distribute true true false t rest = or_assoc t rest
  where
    or_assoc : (p q : Bool) → (p || q) ≡ (p || q)
    or_assoc p q = refl
distribute true false f t rest = refl

never : (x : Bool) → (x && false) ≡ false
never true = refl
never false = refl

-- among the bounds of the accesses of one rank, and of all tasks
among_accesses : (rank other array cell : ℕ) (accesses : List Access) → rank < 65536 → other < 65536 → array < 65536 → cell < 4294967296 → AreSmall accesses
    → list_any (nat_eq (spot rank array cell)) (bounds_of other accesses)
    ≡ (nat_eq other rank && list_any (λ (access : Access). is_bound array cell access.span) accesses)
among_accesses rank other array cell [] rank_fits other_fits array_fits cell_fits small = sym (never (nat_eq other rank))
among_accesses rank other array cell (access ∷ accesses) rank_fits other_fits array_fits cell_fits small =
    rw (
      bound_at rank other array cell access.span rank_fits other_fits array_fits cell_fits small.0,
      to_at rank other array cell access.span rank_fits other_fits array_fits cell_fits small.0,
      among_accesses rank other array cell accesses rank_fits other_fits array_fits cell_fits small.1,
    )
    (distribute (nat_eq other rank) (nat_eq access.span.array array) (nat_eq access.span.from cell) (nat_eq access.span.to cell)
    (list_any (λ (a : Access). is_bound array cell a.span) accesses))

pub among_tasks : (rank array cell : ℕ) (tasks : List TaskDef) → rank < 65536 → array < 65536 → cell < 4294967296 → AreTasksSmall tasks
    → list_any (nat_eq (spot rank array cell)) (all_bounds tasks) ≡ is_bound_of tasks rank array cell
among_tasks rank array cell [] rank_fits array_fits cell_fits small = refl
among_tasks rank array cell (task ∷ tasks) rank_fits array_fits cell_fits small =
    any_append (nat_eq (spot rank array cell)) (bounds_of task.rank task.accesses.items) (all_bounds tasks)
    ∙ ap (λ b. b || list_any (nat_eq (spot rank array cell)) (all_bounds tasks))
    (among_accesses rank task.rank array cell task.accesses.items rank_fits small.0 array_fits cell_fits small.1)
    ∙ ap (λ b. (nat_eq task.rank rank && list_any (λ (access : Access). is_bound array cell access.span) task.accesses.items) || b)
    (among_tasks rank array cell tasks rank_fits array_fits cell_fits small.2)

-- one access more
pub bounds_more : (rank : ℕ) (accesses : List Access) (access : Access)
    → bounds_of rank (accesses ++ access ∷ [])
    ≡ (bounds_of rank accesses ++ spot rank access.span.array access.span.from ∷ []) ++ spot rank access.span.array access.span.to ∷ []
bounds_more rank [] access = refl
bounds_more rank (first ∷ accesses) access =
    ap (λ rest. spot rank first.span.array first.span.from ∷ spot rank first.span.array first.span.to ∷ rest) (bounds_more rank accesses access)

-- one task more
pub tasks_more : (tasks : List TaskDef) (task : TaskDef) → all_bounds (tasks ++ task ∷ []) ≡ all_bounds tasks ++ bounds_of task.rank task.accesses.items
tasks_more [] task = append-nil _
tasks_more (first ∷ tasks) task =
    ap (λ rest. bounds_of first.rank first.accesses.items ++ rest) (tasks_more tasks task)
    ∙ sym (append_assoc (bounds_of first.rank first.accesses.items) (all_bounds tasks) (bounds_of task.rank task.accesses.items))

pub tasks_small_more : (tasks : List TaskDef) (task : TaskDef) → AreTasksSmall tasks → task.rank < 65536 → AreSmall task.accesses.items
    → AreTasksSmall (tasks ++ task ∷ [])
tasks_small_more [] task small rank accesses = (rank, accesses, tt)
tasks_small_more (first ∷ tasks) task small rank accesses = (small.0, small.1, tasks_small_more tasks task small.2 rank accesses)

-- after one access more of a list, and after one task more
pub access_done : (rank : ℕ) (accesses : List Access) (i : ℕ) (d : Access) (start items new : List ℕ) → i < length accesses
    → items ≡ start ++ bounds_of rank (take i accesses)
    → new ≡ (items ++ spot rank (get_or accesses i d).span.array (get_or accesses i d).span.from ∷ []) ++ spot rank (get_or accesses i d).span.array
    (get_or accesses i d).span.to ∷ []
    → new ≡ start ++ bounds_of rank (take (i + 1) accesses)
access_done rank accesses i d start items new inside so_far added =
    added ∙ rejoined start (bounds_of rank (take i accesses)) items _ _ so_far
    ∙ ap (λ bounds. start ++ bounds) (sym (bounds_more rank (take i accesses) (get_or accesses i d)))
    ∙ ap (λ some. start ++ bounds_of rank some) (sym (take_at_read accesses i d inside).1)
  where
    rejoined : (xs ys zs : List ℕ) (a b : ℕ) → zs ≡ xs ++ ys → (zs ++ a ∷ []) ++ b ∷ [] ≡ xs ++ ((ys ++ a ∷ []) ++ b ∷ [])
    rejoined xs ys zs a b same = grind (arith, common_steps)

pub access_small : (accesses : List Access) (i : ℕ) (d : Access) → i < length accesses → AreSmall (take i accesses) → IsSmall (get_or accesses i d).span
    → AreSmall (take (i + 1) accesses)
access_small accesses i d inside small new =
    subst AreSmall (sym (take_at_read accesses i d inside).1) (small_after (take i accesses) (get_or accesses i d) small new)

task_taken : (tasks : List TaskDef) (i : ℕ) (task : TaskDef) → i < length tasks → task ≡ get_or tasks i task → take (i + 1) tasks ≡ take i tasks ++ task ∷ []
task_taken tasks i task inside is = (take_at_read tasks i task inside).1 ∙ ap (λ t. take i tasks ++ t ∷ []) (sym is)

pub task_done : (tasks : List TaskDef) (i : ℕ) (task : TaskDef) (accesses : List Access) (items new : List ℕ) → i < length tasks → task ≡ get_or tasks i task
    → accesses ≡ task.accesses.items → items ≡ all_bounds (take i tasks) → new ≡ items ++ bounds_of task.rank accesses → new ≡ all_bounds (take (i + 1) tasks)
task_done tasks i task accesses items new inside is accesses_are so_far added =
    added ∙ ap (λ bounds. bounds ++ bounds_of task.rank accesses) so_far ∙ ap (λ some. all_bounds (take i tasks) ++ bounds_of task.rank some) accesses_are
    ∙ sym (tasks_more (take i tasks) task) ∙ ap all_bounds (sym (task_taken tasks i task inside is))

pub task_small : (tasks : List TaskDef) (i : ℕ) (task : TaskDef) (accesses : List Access) → i < length tasks → task ≡ get_or tasks i task
    → accesses ≡ task.accesses.items
    → AreTasksSmall (take i tasks) → task.rank < 65536 → AreSmall accesses → AreTasksSmall (take (i + 1) tasks)
task_small tasks i task accesses inside is accesses_are so_far rank fits =
    subst AreTasksSmall (sym (task_taken tasks i task inside is)) (tasks_small_more (take i tasks) task so_far rank (subst AreSmall accesses_are fits))

-- a number stands in a list exactly where the test finds it
any_stands : (v : ℕ) (xs : List ℕ) → list_any (nat_eq v) xs ≡ true → Contains xs v
any_stands v [] found = absurd (false≢true found)
any_stands v (x ∷ xs) found =
    ⊎_elim (λ (here : nat_eq v x ≡ true). (0, omega arith, sym (eqb-true v x here)))
    (λ (later : list_any (nat_eq v) xs ≡ true). let rest : Contains xs v = any_stands v xs later in
    (suc rest.0, omega (arith, rest.1), rest.2)) (or_cases _ _ found)

stands_any : (v k : ℕ) (xs : List ℕ) → k < length xs → slice_index_or xs k v ≡ v → list_any (nat_eq v) xs ≡ true
stands_any v k [] inside is = absurd (omega arith)
stands_any v zero (x ∷ xs) inside is = or_left _ _ (eq-eqb v x (sym is))
stands_any v (suc k) (x ∷ xs) inside is = or_right _ _ (stands_any v k xs (omega arith) is)

pub same_found : (xs ys : List ℕ) → ((v : ℕ) → Contains xs v ↔ Contains ys v) → (v : ℕ) → list_any (nat_eq v) xs ≡ list_any (nat_eq v) ys
same_found xs ys same v = same_tests (list_any (nat_eq v) xs) (list_any (nat_eq v) ys) (Contains ys v)
    ((λ found. (same v).0 (any_stands v xs found)), (λ at. let there : Contains xs v = (same v).1 at in stands_any v there.0 xs there.1 there.2))
    ((λ found. any_stands v ys found), (λ at. stands_any v at.0 ys at.1 at.2))

-- the cuts count the pieces of each access, of those of a task, and of all tasks
same_cells : (f g : ℕ → Bool) (first count limit : ℕ) → first + count ≤ limit → ((cell : ℕ) → cell < limit → f cell ≡ g cell)
    → count_by f (numbers_from first count) ≡ count_by g (numbers_from first count)
same_cells f g first zero limit within same = refl
same_cells f g first (suc count) limit within same =
    omega (
      arith,
      count_first f first (numbers_from (suc first) count),
      count_first g first (numbers_from (suc first) count),
      same_cells f g (suc first) count limit (omega arith) same,
      ap {B = ℕ} (λ b. cond b 1 0) (same first (omega arith)),
    )

module _ (cuts : List ℕ) (tasks : List TaskDef) (same : (v : ℕ) → Contains cuts v ↔ Contains (all_bounds tasks) v) (small : AreTasksSmall tasks) where
  one_access : (rank : ℕ) (access : Access) → rank < 65536 → IsSmall access.span → cut_cells cuts rank access.span ≡ pieces_of tasks rank access
  one_access rank access rank_fits fits =
      same_cells (λ cell. list_any (nat_eq (spot rank access.span.array cell)) cuts) (is_bound_of tasks rank access.span.array) access.span.from
      (access.span.to - access.span.from)
      (max access.span.to access.span.from) (omega arith)
      (λ cell below. same_found cuts (all_bounds tasks) same (spot rank access.span.array cell)
      ∙ among_tasks rank access.span.array cell tasks rank_fits fits.0 (omega arith) small)

  some_accesses : (rank : ℕ) (accesses : List Access) → rank < 65536 → AreSmall accesses
      → cut_by_accesses cuts rank accesses ≡ sum_by (pieces_of tasks rank) accesses
  some_accesses rank [] rank_fits fits = refl
  some_accesses rank (access ∷ accesses) rank_fits fits =
      sum_by-cons (λ (a : Access). cut_cells cuts rank a.span) access accesses
      ∙ ap {B = ℕ} (λ n. n + cut_by_accesses cuts rank accesses) (one_access rank access rank_fits fits.0)
      ∙ ap {B = ℕ} (λ n. pieces_of tasks rank access + n) (some_accesses rank accesses rank_fits fits.1)
      ∙ sym (sum_by-cons (pieces_of tasks rank) access accesses)

  some_tasks : (some : List TaskDef) → AreTasksSmall some
      → cut_by_tasks cuts some ≡ sum_by (λ (task : TaskDef). sum_by (pieces_of tasks task.rank) task.accesses.items) some
  some_tasks [] fits = refl
  some_tasks (task ∷ more) fits =
      sum_by-cons (λ (t : TaskDef). cut_by_accesses cuts t.rank t.accesses.items) task more
      ∙ ap {B = ℕ} (λ n. n + cut_by_tasks cuts more) (some_accesses task.rank task.accesses.items fits.0 fits.1)
      ∙ ap {B = ℕ} (λ n. sum_by (pieces_of tasks task.rank) task.accesses.items + n) (some_tasks more fits.2)
      ∙ sym (sum_by-cons (λ (t : TaskDef). sum_by (pieces_of tasks t.rank) t.accesses.items) task more)

  pub pieces_are : cut_by_tasks cuts tasks ≡ pieces tasks
  unfolding pieces
  pieces_are = some_tasks tasks small

-- what was counted within the limit answers the question
pub all_within : (cuts : List ℕ) (tasks : List TaskDef) (total i most : ℕ) → cut_by_tasks cuts tasks ≡ pieces tasks → length tasks ≤ i
    → total ≡ cut_by_tasks cuts (take i tasks) → total ≤ most
    → true ≡ nat_le (pieces tasks) most
all_within cuts tasks total i most are end total_is within =
    sym (le-leb _ _ (omega (arith, are, total_is, ap (cut_by_tasks cuts) (take_all i tasks end))))

pub too_many : (cuts : List ℕ) (tasks : List TaskDef) (total i most : ℕ) (task : TaskDef) → cut_by_tasks cuts tasks ≡ pieces tasks → i < length tasks
    → task ≡ get_or tasks i task
    → total ≡ cut_by_tasks cuts (take i tasks) → most < total + cut_by_accesses cuts task.rank task.accesses.items → false ≡ nat_le (pieces tasks) most
too_many cuts tasks total i most task are inside is total_is past =
    sym (lt-leb _ _ (omega (
      arith,
      are,
      total_is,
      past,
      sum_by_more_le (λ (t : TaskDef). cut_by_accesses cuts t.rank t.accesses.items) tasks i task inside,
      ap {B = ℕ} (λ (t : TaskDef). cut_by_accesses cuts t.rank t.accesses.items) is,
    )))
