-- A span of a fresh copy has the cells of the memory, over however many regions it lies.
use Rattle.std.proofs.Common.{◌≡◌, ℕ, zero, suc, ◌+◌, ◌-◌, ◌*◌, ◌^◌, ◌<◌, ◌≤◌, not, ℤ, pos, List, [], ◌∷◌, ◌++◌, length, get_or, take, drop, All, ◌⊎◌}
use Rattle.std.proofs.Common.{inl, inr, ⊎_elim, sym, ap, ◌∙◌, refl, subst, length-append, length-take-le, length-drop, get_or-take, get_or-drop}
use Rattle.std.proofs.Common.{get_or-append-add, ext_get_or, ne_eqb, arith}
use Rattle.std.proofs.lemmas.Bool.{cases_lt, cases_eq}
use Rattle.std.proofs.lemmas.Bool.Decides.{nat_tests}
use Rattle.std.proofs.lemmas.List.{get_or_append_left}
use Rattle.std.proofs.lemmas.List.Elements.{All-nil, All-cons, All-head, All-tail}
use Rattle.std.proofs.lemmas.List.Sums.{sum_by-cons, sum_by-le}
use Rattle.rt_base.specs.declared.data.Span.{Span}
use Rattle.rt_base.specs.declared.data.Access.{Access}
use Rattle.rt_base.specs.declared.data.Mode.TheVariants as mode
use Rattle.rt_base.specs.declared.data.TaskDef.{TaskDef}
use Rattle.rt_base.specs.declared.data.Program.{Program}
use Rattle.rt_base.specs.Spans.{span_len}
use Rattle.rt_base.specs.Layout.{address, memory_len}
use Rattle.rt_base.specs.WellFormed.{WellFormed, IsTask, MayRead}
use Rattle.task_local.specs.declared.index.Region.{Region}
use Rattle.task_local.specs.Regions.{cells_before, regions, loaded_regions, loaded, cells_of_span}
use Rattle.task_local.specs.Kept.{first_cell, end_cell, region_len, region_before, place_in, cell_total, IsRegion, RegionLies}
use Rattle.task_local.proofs.Places.{place_among, place-rises, place_in-regions, cell_total-regions, declared_fits}
use Rattle.task_local.proofs.Order.{Rises, Rises-regions}
use Rattle.task_local.proofs.Searches.{ended, not_begun}
use Rattle.task_local.proofs.Programs.{lies_in, regions_lie, filled_low}

-- the number of a cell, by array and then by cell
abbrev number : ℕ → ℕ → ℕ
number array cell = array * 2 ^ 32 + cell

-- the region begins later, has this cell, or has ended
abbrev Stands : ℕ → ℕ → Region → Type 0
Stands array cell region =
    (number array cell < first_cell region)
    ⊎ (((first_cell region ≤ number array cell) × (number array cell < end_cell region)) ⊎ (end_cell region ≤ number array cell))

stands : (array cell : ℕ) (region : Region) → Stands array cell region
stands array cell region =
    ⊎_elim (λ (lt : number array cell < first_cell region). inl lt)
    (λ (ge : first_cell region ≤ number array cell).
    ⊎_elim (λ (lt : number array cell < end_cell region). inr (inl (ge, lt))) (λ (over : end_cell region ≤ number array cell). inr (inr over))
    (cases_lt (number array cell) (end_cell region)))
    (cases_lt (number array cell) (first_cell region))

all_are_regions : (ordered : List Region) → Rises ordered → All IsRegion ordered
all_are_regions [] rises = All-nil IsRegion
all_are_regions (x ∷ xs) rises = All-cons IsRegion x xs rises.0 (all_are_regions xs rises.2)

-- regions behind one that ends after a cell have none of the cells before it
pub later_have_none : (x : Region) (xs : List Region) (array cell : ℕ) → Rises (x ∷ xs) → number array cell ≤ end_cell x → place_in xs array cell ≡ 0
later_have_none x xs array cell rises before =
    let none = sum_by-le (region_before array cell) 0 xs
    (λ k d within.
    let after = rises.1 k d within in
    let zero_there = not_begun array cell (get_or xs k d) (all_are_regions xs rises.2 k d within) (omega (arith, after)) in
    omega arith) in
    omega arith

-- the same of a region that begins later, and of those behind it
all_have_none : (x : Region) (xs : List Region) (array cell : ℕ) → Rises (x ∷ xs) → number array cell ≤ first_cell x → place_in (x ∷ xs) array cell ≡ 0
all_have_none x xs array cell rises before =
    let some = rises.0.0 in
    let rest = later_have_none x xs array cell rises (omega arith) in
    let here = not_begun array cell x rises.0 before in
    omega (arith, sum_by-cons (region_before array cell) x xs)

covered : (array cell : ℕ) (x : Region) → cell < 2 ^ 32 → IsRegion x → first_cell x ≤ number array cell → number array cell < end_cell x
    → (x.access.span.array ≡ array) × (x.access.span.from ≤ cell) × (cell < x.access.span.to)
covered array cell x low is begun open_still =
    let few = is.1 in
    let array_is : x.access.span.array ≡ array = omega arith in
    (array_is, omega arith, omega arith)

pub before_covered : (array cell : ℕ) (x : Region) → x.access.span.array ≡ array → x.access.span.from ≤ cell → cell < x.access.span.to
    → cells_before array cell x.access ≡ cell - x.access.span.from
before_covered array cell x same above below = grind (arith, nat_tests)

next_at_most : (array cell : ℕ) (x : Region) → x.access.span.array ≡ array → x.access.span.from ≤ cell
    → cells_before array (cell + 1) x.access ≤ (cell + 1) - x.access.span.from
next_at_most array cell x same above = grind (arith, nat_tests)

-- one cell on, at most one place on
rises_by_one : (array cell : ℕ) → cell + 1 < 2 ^ 32 → (ordered : List Region) → Rises ordered
    → place_in ordered array (cell + 1) ≤ place_in ordered array cell + 1
rises_by_one array cell low [] rises = omega arith
rises_by_one array cell low (x ∷ xs) rises =
    let here = sum_by-cons (region_before array cell) x xs in
    let next = sum_by-cons (region_before array (cell + 1)) x xs in
    ⊎_elim (λ (lt : number array cell < first_cell x). let none = all_have_none x xs array (cell + 1) rises (omega arith) in omega arith)
    (⊎_elim
    (λ (open_now : (first_cell x ≤ number array cell) × (number array cell < end_cell x)).
    let at = covered array cell x (omega arith) rises.0 open_now.0 open_now.1 in
    let none = later_have_none x xs array (cell + 1) rises (omega (arith, open_now.1)) in
    let own = before_covered array cell x at.0 at.1 at.2 in
    let own_next : cells_before array (cell + 1) x.access ≤ (cell + 1) - x.access.span.from = next_at_most array cell x at.0 at.1 in
    let from_below = at.1 in
    omega arith)
    (λ (over : end_cell x ≤ number array cell).
    let rest = rises_by_one array cell low xs rises.2 in
    let own = ended array cell x (omega arith) rises.0 over in
    let own_next = ended array (cell + 1) x low rises.0 (omega arith) in
    omega arith))
    (stands array cell x)

-- ---- the cells of a fresh copy

at_front : (p : Program) (rank : ℕ) (memory rest : List ℤ) (array cell : ℕ) (x : Region) → x.access.span.array ≡ array → x.access.span.from ≤ cell
    → cell < x.access.span.to
    → RegionLies p rank x → length memory ≡ memory_len p
    → get_or (take (span_len x.access.span) (drop (address p rank x.access.span.array x.access.span.from) memory) ++ rest) (cell - x.access.span.from) (pos 0)
    ≡ get_or memory (address p rank array cell) (pos 0)
at_front p rank memory rest array cell x same above below lies long =
    let at : ℕ = address p rank x.access.span.array x.access.span.from in
    let count : ℕ = span_len x.access.span in
    let k : ℕ = cell - x.access.span.from in
    let room : count ≤ length (drop at memory) = omega (arith, length-drop at memory, lies.inside) in
    let len : length (take count (drop at memory)) ≡ count = length-take-le count (drop at memory) room in
    let place : at + k ≡ address p rank array cell =
    subst (λ a. address p rank a x.access.span.from + k ≡ address p rank array cell) (sym same) (omega arith) in
    get_or_append_left (take count (drop at memory)) rest (pos 0) k (omega arith)
    ∙ get_or-take count (drop at memory) k (pos 0) (omega arith)
    ∙ get_or-drop at memory k (pos 0)
    ∙ ap (λ i. get_or memory i (pos 0)) place

at_place : (p : Program) (rank : ℕ) (memory : List ℤ) (array cell : ℕ) → cell + 1 < 2 ^ 32 → length memory ≡ memory_len p
    → (ordered : List Region) → Rises ordered → All (RegionLies p rank) ordered → place_in ordered array cell + 1 ≤ place_in ordered array (cell + 1)
    → get_or (loaded_regions p rank ordered memory) (place_in ordered array cell) (pos 0) ≡ get_or memory (address p rank array cell) (pos 0)
at_place p rank memory array cell low long [] rises lies more = absurd (omega arith)
at_place p rank memory array cell low long (x ∷ xs) rises lies more =
    let here = sum_by-cons (region_before array cell) x xs in
    let next = sum_by-cons (region_before array (cell + 1)) x xs in
    let at : ℕ = address p rank x.access.span.array x.access.span.from in
    let front : List ℤ = take (span_len x.access.span) (drop at memory) in
    let rest : List ℤ = loaded_regions p rank xs memory in
    let lies_here : RegionLies p rank x = All-head (RegionLies p rank) x xs lies in
    ⊎_elim (λ (lt : number array cell < first_cell x). absurd (omega (arith, all_have_none x xs array (cell + 1) rises (omega arith))))
    (⊎_elim
    (λ (open_now : (first_cell x ≤ number array cell) × (number array cell < end_cell x)).
    let found = covered array cell x (omega arith) rises.0 open_now.0 open_now.1 in
    let none = later_have_none x xs array cell rises (omega (arith, open_now.1)) in
    let own = before_covered array cell x found.0 found.1 found.2 in
    let place : place_in (x ∷ xs) array cell ≡ cell - x.access.span.from = omega arith in
    ap (λ i. get_or (front ++ rest) i (pos 0)) place ∙ at_front p rank memory rest array cell x found.0 found.1 found.2 lies_here long)
    (λ (over : end_cell x ≤ number array cell).
    let own = ended array cell x (omega arith) rises.0 over in
    let own_next = ended array (cell + 1) x low rises.0 (omega arith) in
    let room : span_len x.access.span ≤ length (drop at memory) = omega (arith, length-drop at memory, lies_here.inside) in
    let len : length front ≡ span_len x.access.span = length-take-le (span_len x.access.span) (drop at memory) room in
    let place : place_in (x ∷ xs) array cell ≡ length front + place_in xs array cell = omega arith in
    ap (λ i. get_or (front ++ rest) i (pos 0)) place
    ∙ get_or-append-add front rest (place_in xs array cell) (pos 0)
    ∙ at_place p rank memory array cell low long xs rises.2 (All-tail (RegionLies p rank) x xs lies) (omega arith)))
    (stands array cell x)

length-loaded : (p : Program) (rank : ℕ) (memory : List ℤ) → length memory ≡ memory_len p → (ordered : List Region) → All (RegionLies p rank) ordered
    → length (loaded_regions p rank ordered memory) ≡ cell_total ordered
length-loaded p rank memory long [] lies = refl
length-loaded p rank memory long (x ∷ xs) lies =
    let at : ℕ = address p rank x.access.span.array x.access.span.from in
    let lies_here : RegionLies p rank x = All-head (RegionLies p rank) x xs lies in
    let room : span_len x.access.span ≤ length (drop at memory) = omega (arith, length-drop at memory, lies_here.inside) in
    let len = length-take-le (span_len x.access.span) (drop at memory) room in
    let rest = length-loaded p rank memory long xs (All-tail (RegionLies p rank) x xs lies) in
    omega (
      arith,
      length-append (take (span_len x.access.span) (drop at memory)) (loaded_regions p rank xs memory),
      sum_by-cons region_len x xs,
    )

-- a cell that is declared has a place of its own, in the regions too
pub more_of_regions : (accesses : List Access) (array cell : ℕ) → place_among accesses array cell + 1 ≤ place_among accesses array (cell + 1)
    → place_in (regions accesses) array cell + 1 ≤ place_in (regions accesses) array (cell + 1)
more_of_regions accesses array cell more = omega (arith, place_in-regions accesses array cell, place_in-regions accesses array (cell + 1))

-- the places of a span follow one another
pub run_is : (ordered : List Region) (array from count : ℕ) → Rises ordered → from + count < 2 ^ 32
    → ((cell : ℕ) → from ≤ cell → cell < from + count → place_in ordered array cell + 1 ≤ place_in ordered array (cell + 1))
    → (k : ℕ) → k ≤ count → place_in ordered array (from + k) ≡ place_in ordered array from + k
run_is ordered array from count rises low more zero within = let e : from + 0 ≡ from = omega arith in ap (λ c. place_in ordered array c) e ∙ omega arith
run_is ordered array from count rises low more (suc k) within =
    let before = run_is ordered array from count rises low more k (omega arith) in
    let least = more (from + k) (omega arith) (omega arith) in
    let most = rises_by_one array (from + k) (omega arith) ordered rises in
    let e : from + suc k ≡ (from + k) + 1 = omega arith in
    ap (λ c. place_in ordered array c) e ∙ omega arith

filled_span : (p : Program) (task : TaskDef) (memory : List ℤ) (span : Span) → WellFormed p → IsTask p task → length memory ≡ memory_len p → MayRead p task span
    → (span_len span ≡ 0 → ⊥)
    → take (span_len span) (drop (place_among task.accesses.items span.array span.from) (loaded p task memory))
    ≡ take (span_len span) (drop (address p task.rank span.array span.from) memory)
filled_span p task memory span well is long may some =
    let accesses : List Access = task.accesses.items in
    let ordered : List Region = regions accesses in
    let rises = Rises-regions accesses (filled_low p task well is) is.apart in
    let lies = regions_lie p task well is in
    let fresh : List ℤ = loaded_regions p task.rank ordered memory in
    let count : ℕ = span_len span in
    let at : ℕ = address p task.rank span.array span.from in
    let place : ℕ = place_among accesses span.array span.from in
    let whole = lies_in p task.rank (record { mode = mode.In; span = span }) well is.rank may.in_array (ap not (ne_eqb (span_len span) 0 some)) in
    let ordered_bounds = may.in_array.ordered in
    let total = length-loaded p task.rank memory long ordered lies in
    let fits = declared_fits accesses span may.declared in
    let cells = cell_total-regions accesses in
    let fresh_room : count ≤ length (drop place fresh) = omega (arith, length-drop place fresh) in
    let room : count ≤ length (drop at memory) = omega (arith, length-drop at memory, whole.inside) in
    let fresh_len = length-take-le count (drop place fresh) fresh_room in
    let len = length-take-le count (drop at memory) room in
    let low : span.from + count < 2 ^ 32 = omega (arith, whole.inside, whole.small) in
    let more = λ (cell : ℕ) (above : span.from ≤ cell) (below : cell < span.from + count).
    more_of_regions accesses span.array cell (place-rises accesses span.array cell (may.declared cell (above, omega arith))) in
    ext_get_or (pos 0) (take count (drop place fresh)) (take count (drop at memory)) (fresh_len ∙ sym len)
    (λ k lt.
    let within : k < count = omega arith in
    let run : place_in ordered span.array (span.from + k) ≡ place_in ordered span.array span.from + k =
    run_is ordered span.array span.from count rises low more k (omega arith) in
    let start = place_in-regions accesses span.array span.from in
    let cell_is : place + k ≡ place_in ordered span.array (span.from + k) = omega arith in
    let found = at_place p task.rank memory span.array (span.from + k) (omega arith) long ordered rises lies
    (more (span.from + k) (omega arith) (omega arith)) in
    let next : address p task.rank span.array (span.from + k) ≡ at + k = omega arith in
    get_or-take count (drop place fresh) k (pos 0) within
    ∙ get_or-drop place fresh k (pos 0)
    ∙ ap (λ i. get_or fresh i (pos 0)) cell_is
    ∙ found
    ∙ ap (λ i. get_or memory i (pos 0)) next
    ∙ sym (get_or-take count (drop at memory) k (pos 0) within ∙ get_or-drop at memory k (pos 0)))

pub fresh_span : (p : Program) (task : TaskDef) (memory : List ℤ) (span : Span) → WellFormed p → IsTask p task → length memory ≡ memory_len p
    → MayRead p task span
    → cells_of_span task span (loaded p task memory) ≡ take (span_len span) (drop (address p task.rank span.array span.from) memory)
fresh_span p task memory span well is long may =
    ⊎_elim (λ (none : span_len span ≡ 0). subst (λ n. take n (drop (place_among task.accesses.items span.array span.from) (loaded p task memory))
    ≡ take n (drop (address p task.rank span.array span.from) memory)) (sym none) refl)
    (λ (some : span_len span ≡ 0 → ⊥). filled_span p task memory span well is long may some)
    (cases_eq (span_len span) 0)
