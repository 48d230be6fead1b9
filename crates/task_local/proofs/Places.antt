-- Regions as the same accesses in another order, and where a span lies in the copy.
use Rattle.std.proofs.Common.{◌≡◌, ℕ, zero, suc, ◌+◌, ◌<◌, ◌≤◌, Bool, true, false, not, ◌==◌, List, [], ◌∷◌, length, get_or, take, drop, All, Any}
use Rattle.std.proofs.Common.{filter, sum_by, IsPermutation, if◌then◌else◌, sym, ap, ◌∙◌, refl, subst, eqb-true, arith}
use Rattle.std.proofs.lemmas.Bool.Decides.{nat_tests}
use Rattle.std.proofs.lemmas.List.Elements.{All-filter, filter_passes}
use Rattle.std.proofs.lemmas.List.Sums.{sum_by-cons, sum_by-drop_more, sum_by-take-drop, sum_by-le-sum_by}
use Rattle.std.proofs.lemmas.List.Sorted.{IsPermutation-refl, IsPermutation-cons, IsPermutation-middle, IsPermutation-sym, IsPermutation-trans}
use Rattle.std.proofs.lemmas.List.Sorted.{All-permutation, sum_by-IsPermutation}
use Rattle.rt_base.specs.declared.data.Span.{Span}
use Rattle.rt_base.specs.declared.data.Access.{Access}
use Rattle.rt_base.specs.Spans.{span_len}
use Rattle.rt_base.specs.WellFormed.{Declares, IsDeclared}
use Rattle.task_local.specs.declared.index.Region.{Region}
use Rattle.task_local.specs.Regions.{numbered, begins_before, placed_in_order, in_order, regions, cells_before}
use Rattle.task_local.specs.Kept.{is_nonempty, place_in, cell_total, FitsIn}

-- the access isn't empty
abbrev pub is_filled : Access → Bool
is_filled access = not (span_len access.span == 0)

-- ---- accesses with their numbers

pub length-numbered : (n : ℕ) (accesses : List Access) → length (numbered n accesses) ≡ length accesses
length-numbered n [] = refl
length-numbered n (access ∷ accesses) = ap suc (length-numbered (n + 1) accesses)

-- the access with each number is that at its place
pub access_at : (n : ℕ) (accesses : List Access) (i : ℕ) (d : Region) → (get_or (numbered n accesses) i d).access ≡ get_or accesses i d.access
access_at n [] i d = refl
access_at n (access ∷ accesses) zero d = refl
access_at n (access ∷ accesses) (suc i) d = access_at (n + 1) accesses i d

pub All-numbered : (P : Access → Type 0) (n : ℕ) (accesses : List Access) → All P accesses → All (λ (region : Region). P region.access) (numbered n accesses)
All-numbered P n accesses all = λ k d within.
    subst P (sym (access_at n accesses k d)) (all k d.access (omega (arith, length-numbered n accesses)))

pub sum_by-numbered : (f : Access → ℕ) (n : ℕ) (accesses : List Access)
    → sum_by (λ (region : Region). f region.access) (numbered n accesses) ≡ sum_by f accesses
sum_by-numbered f n [] = refl
sum_by-numbered f n (access ∷ accesses) =
    let rest = sum_by-numbered f (n + 1) accesses in
    omega (
      arith,
      sum_by-cons (λ (region : Region). f region.access) (record { number = n; access = access }) (numbered (n + 1) accesses),
      sum_by-cons f access accesses,
    )

-- ---- regions are the filled accesses in another order

placed_either : (region next : Region) (others placed : List Region) (first : Bool) → IsPermutation (region ∷ others) placed
    → IsPermutation (region ∷ (next ∷ others)) (if first then region ∷ (next ∷ others) else next ∷ placed)
placed_either region next others placed true moved = IsPermutation-refl _
placed_either region next others placed false moved =
    IsPermutation-trans _ _ _ (IsPermutation-sym _ _ (IsPermutation-middle (next ∷ []) region others)) (IsPermutation-cons next _ _ moved)

pub IsPermutation-placed_in_order : (region : Region) (others : List Region) → IsPermutation (region ∷ others) (placed_in_order region others)
IsPermutation-placed_in_order region [] = IsPermutation-refl _
IsPermutation-placed_in_order region (next ∷ others) =
    placed_either region next others _ (begins_before region next) (IsPermutation-placed_in_order region others)

region_either : (region : Region) (found ordered : List Region) (empty : Bool) → IsPermutation found ordered
    → IsPermutation (if not empty then region ∷ found else found) (if empty then ordered else placed_in_order region ordered)
region_either region found ordered true moved = moved
region_either region found ordered false moved =
    IsPermutation-trans _ _ _ (IsPermutation-cons region _ _ moved) (IsPermutation-placed_in_order region ordered)

pub IsPermutation-in_order : (all : List Region) → IsPermutation (filter is_nonempty all) (in_order all)
IsPermutation-in_order [] = IsPermutation-refl _
IsPermutation-in_order (region ∷ others) =
    region_either region _ _ (span_len region.access.span == 0) (IsPermutation-in_order others)

-- what holds of each holds of each in order, which has a cell
pub All-in_order : (P : Region → Type 0) (all : List Region) → All P all → All P (in_order all)
All-in_order P all holds = All-permutation P _ _ (IsPermutation-in_order all) (All-filter is_nonempty P all holds)

pub All-regions : (P : Access → Type 0) (accesses : List Access) → All P accesses → All (λ (region : Region). P region.access) (regions accesses)
All-regions P accesses all = All-in_order (λ (region : Region). P region.access) (numbered 0 accesses) (All-numbered P 0 accesses all)

pub in_order_filled : (all : List Region) → All (λ region. is_nonempty region ≡ true) (in_order all)
in_order_filled all = All-permutation (λ region. is_nonempty region ≡ true) _ _ (IsPermutation-in_order all) (filter_passes is_nonempty all)

pub regions_filled : (accesses : List Access) → All (λ region. is_nonempty region ≡ true) (regions accesses)
regions_filled accesses = in_order_filled (numbered 0 accesses)

-- ---- sums over regions

-- empty accesses add nothing
abbrev pub Skips : (Access → ℕ) → Type 0
Skips f = (access : Access) → span_len access.span ≡ 0 → f access ≡ 0

filtered_either : (f : Region → ℕ) (region : Region) (found all : List Region) (empty : Bool) → (empty ≡ true → f region ≡ 0)
    → sum_by f found ≡ sum_by f all → sum_by f (if not empty then region ∷ found else found) ≡ sum_by f (region ∷ all)
filtered_either f region found all true none same = let z = none refl in omega (arith, sum_by-cons f region all)
filtered_either f region found all false none same = omega (arith, sum_by-cons f region all, sum_by-cons f region found)

sum_by-filled : (f : Access → ℕ) → Skips f → (all : List Region)
    → sum_by (λ (region : Region). f region.access) (filter is_nonempty all) ≡ sum_by (λ (region : Region). f region.access) all
sum_by-filled f skips [] = refl
sum_by-filled f skips (region ∷ others) =
    filtered_either (λ (region : Region). f region.access) region _ others (span_len region.access.span == 0)
    (λ e. skips region.access (eqb-true _ _ e)) (sum_by-filled f skips others)

pub sum_by-regions : (f : Access → ℕ) → Skips f → (accesses : List Access)
    → sum_by (λ (region : Region). f region.access) (regions accesses) ≡ sum_by f accesses
sum_by-regions f skips accesses =
    sum_by-IsPermutation (λ (region : Region). f region.access) _ _ (IsPermutation-in_order (numbered 0 accesses))
    ∙ sum_by-filled f skips (numbered 0 accesses) ∙ sum_by-numbered f 0 accesses

-- ---- how many cells come before a cell

-- how many cells of these accesses come before a cell, and how many they have
abbrev pub place_among : List Access → ℕ → ℕ → ℕ
place_among accesses array cell = sum_by (cells_before array cell) accesses

abbrev pub cells_among : List Access → ℕ
cells_among accesses = sum_by (λ (access : Access). span_len access.span) accesses

pub cells_before-skips : (array cell : ℕ) → Skips (cells_before array cell)
cells_before-skips array cell access empty = grind (arith, nat_tests)

pub cells_before-le : (array cell : ℕ) (access : Access) → cells_before array cell access ≤ span_len access.span
cells_before-le array cell access = grind (arith, nat_tests)

cells_before-rises : (array cell : ℕ) (access : Access) → cells_before array cell access ≤ cells_before array (cell + 1) access
cells_before-rises array cell access = grind (arith, nat_tests)

cells_before-covered : (array cell : ℕ) (access : Access) → Declares array cell access
    → cells_before array cell access + 1 ≤ cells_before array (cell + 1) access
cells_before-covered array cell access declares =
    let same = declares.0 in let above = declares.1.0 in let below = declares.1.1 in grind (arith, nat_tests)

-- a sum of terms no one of which falls, and one of which rises
sum_by-rises : (f g : Access → ℕ) (accesses : List Access) (i : ℕ) (x : Access) → i < length accesses → ((access : Access) → f access ≤ g access)
    → f (get_or accesses i x) + 1 ≤ g (get_or accesses i x) → sum_by f accesses + 1 ≤ sum_by g accesses
sum_by-rises f g accesses i x within below here =
    omega (
      arith,
      sum_by-take-drop f accesses i,
      sum_by-take-drop g accesses i,
      sum_by-drop_more f accesses i x within,
      sum_by-drop_more g accesses i x within,
      sum_by-le-sum_by f g (take i accesses) below,
      sum_by-le-sum_by f g (drop (i + 1) accesses) below,
    )

pub place-rises : (accesses : List Access) (array cell : ℕ) → Any (Declares array cell) accesses
    → place_among accesses array cell + 1 ≤ place_among accesses array (cell + 1)
place-rises accesses array cell any =
    sum_by-rises (cells_before array cell) (cells_before array (cell + 1)) accesses any.0 any.1 any.2 (cells_before-rises array cell)
    (cells_before-covered array cell (get_or accesses any.0 any.1) (subst (Declares array cell) (sym any.3) any.4))

place-run : (accesses : List Access) (array from count : ℕ)
    → ((cell : ℕ) → from ≤ cell → cell < from + count → Any (Declares array cell) accesses)
    → place_among accesses array from + count ≤ place_among accesses array (from + count)
place-run accesses array from zero declared = let e : from + 0 ≡ from = omega arith in rw e (omega arith)
place-run accesses array from (suc count) declared =
    let shorter = place-run accesses array from count (λ cell above below. declared cell above (omega arith)) in
    let step = place-rises accesses array (from + count) (declared (from + count) (omega arith) (omega arith)) in
    let e : from + suc count ≡ (from + count) + 1 = omega arith in
    rw e (omega arith)

-- the places of a declared span lie in the copy
pub declared_fits : (accesses : List Access) (span : Span) → IsDeclared accesses span
    → place_among accesses span.array span.from + span_len span ≤ cells_among accesses
declared_fits accesses span declared =
    let run = place-run accesses span.array span.from (span_len span) (λ cell above below. declared cell (above, omega arith)) in
    let within = sum_by-le-sum_by (cells_before span.array (span.from + span_len span)) (λ (access : Access). span_len access.span) accesses
    (cells_before-le span.array (span.from + span_len span)) in
    omega arith

pub place_in-regions : (accesses : List Access) (array cell : ℕ) → place_in (regions accesses) array cell ≡ place_among accesses array cell
place_in-regions accesses array cell = sum_by-regions (cells_before array cell) (cells_before-skips array cell) accesses

pub cell_total-regions : (accesses : List Access) → cell_total (regions accesses) ≡ cells_among accesses
cell_total-regions accesses = sum_by-regions (λ (access : Access). span_len access.span) (λ access empty. empty) accesses

pub declared_fits_in : (accesses : List Access) (span : Span) → IsDeclared accesses span → FitsIn (regions accesses) (cells_among accesses) span
declared_fits_in accesses span declared =
    omega (arith, place_in-regions accesses span.array span.from, declared_fits accesses span declared)
