-- Regions rise by their first cells, and are the only such order of the filled accesses.
use Rattle.std.proofs.Common.{◌≡◌, ◌≢◌, ℕ, zero, suc, ◌+◌, ◌-◌, ◌^◌, ◌<◌, ◌≤◌, Bool, true, false, not, cond, ◌==◌, List, [], ◌∷◌, length, get_or, All}
use Rattle.std.proofs.Common.{AllPairs, filter, sum_by, IsPermutation, if◌then◌else◌, sym, ap, ap₂, ◌∙◌, refl, inl, inr, ⊎_elim, ◌⊎◌, subst, arith}
use Rattle.std.proofs.lemmas.Bool.{cases_lt}
use Rattle.std.proofs.lemmas.Bool.Decides.{nat_tests}
use Rattle.std.proofs.lemmas.List.Elements.{All-nil, All-cons, All-head, All-tail, All-weaker}
use Rattle.std.proofs.lemmas.List.Sums.{sum_by-cons, sum_by-le}
use Rattle.std.proofs.lemmas.List.Sorted.{All-permutation, sum_by-IsPermutation}
use Rattle.std.specs.List.Sorted.{IsNonDecreasingBy}
use Rattle.rt_base.specs.declared.data.Access.{Access}
use Rattle.rt_base.specs.declared.data.Mode.{Mode}
use Rattle.rt_base.specs.declared.data.Mode.TheVariants as mode
use Rattle.rt_base.specs.Spans.{span_len, Overlaps}
use Rattle.task_local.specs.declared.index.Region.{Region}
use Rattle.task_local.specs.Regions.{numbered, begins_before, placed_in_order, in_order, regions}
use Rattle.task_local.specs.Kept.{first_cell, is_nonempty, EndsBefore, IsRegion}
use Rattle.task_local.proofs.Places.{is_filled, length-numbered, access_at, All-numbered, IsPermutation-placed_in_order, IsPermutation-in_order}
use Rattle.task_local.proofs.Places.{All-in_order, in_order_filled}

-- each region ends before the later ones begin
abbrev pub Rises : List Region → Type 0
Rises [] = Unit {0}
Rises (region ∷ others) = IsRegion region × All (EndsBefore region) others × Rises others

pub filled_is : (access : Access) → is_filled access ≡ true → access.span.from < access.span.to
filled_is access filled = grind (arith, nat_tests)

cases_le : (m n : ℕ) → (m ≤ n) ⊎ (n < m)
cases_le m n = ⊎_elim (λ (lt : n < m). inr lt) (λ (le : m ≤ n). inl le) (cases_lt n m)

-- a region that begins no later than another of its array, and shares no cell with it, ends before it begins
ends_first : (one other : Region) → IsRegion one → IsRegion other → one.access.span.array ≡ other.access.span.array
    → one.access.span.from ≤ other.access.span.from
    → ¬ Overlaps one.access.span other.access.span → one.access.span.to ≤ other.access.span.from
ends_first one other is_one is_other array from apart =
    ⊎_elim (λ (le : one.access.span.to ≤ other.access.span.from). le)
    (λ (lt : other.access.span.from < one.access.span.to). absurd (apart (array, (other.access.span.from, (from, lt), (omega arith, is_other.0)))))
    (cases_le one.access.span.to other.access.span.from)

overlaps_too : (one other : Region) → ¬ Overlaps one.access.span other.access.span → ¬ Overlaps other.access.span one.access.span
overlaps_too one other apart = λ shared. apart (sym shared.0, (shared.1.0, shared.1.2, shared.1.1))

-- what the test of the definition means
begins_true : (one other : Region) → begins_before one other ≡ true
    → (one.access.span.array < other.access.span.array) ⊎ ((one.access.span.array ≡ other.access.span.array) × (one.access.span.from ≤ other.access.span.from))
begins_true one other before =
    ⊎_elim (λ (lt : one.access.span.array < other.access.span.array). inl lt)
    (λ (ge : other.access.span.array ≤ one.access.span.array). inr (grind (arith, nat_tests), grind (arith, nat_tests)))
    (cases_lt one.access.span.array other.access.span.array)

begins_false : (one other : Region) → begins_before one other ≡ false
    → (other.access.span.array < one.access.span.array) ⊎ ((other.access.span.array ≡ one.access.span.array) × (other.access.span.from ≤ one.access.span.from))
begins_false one other before =
    ⊎_elim (λ (lt : other.access.span.array < one.access.span.array). inl lt)
    (λ (ge : one.access.span.array ≤ other.access.span.array). inr (grind (arith, nat_tests), grind (arith, nat_tests)))
    (cases_lt other.access.span.array one.access.span.array)

ends_before : (one other : Region) → IsRegion one → IsRegion other → ¬ Overlaps one.access.span other.access.span
    → (one.access.span.array < other.access.span.array) ⊎ ((one.access.span.array ≡ other.access.span.array)
    × (one.access.span.from ≤ other.access.span.from)) → EndsBefore one other
ends_before one other is_one is_other apart before =
    ⊎_elim (λ (lt : one.access.span.array < other.access.span.array). omega (arith, is_one.1))
    (λ (same : (one.access.span.array ≡ other.access.span.array) × (one.access.span.from ≤ other.access.span.from)).
    let le = ends_first one other is_one is_other same.0 same.1 apart in omega (arith, same.0))
    before

-- ---- the regions of the definition rise

Rises-either : (region next : Region) (others placed : List Region) (first : Bool) → IsRegion region → (first ≡ true → EndsBefore region next)
    → (first ≡ false → All (EndsBefore next) placed) → Rises (next ∷ others) → Rises placed
    → Rises (if first then region ∷ (next ∷ others) else next ∷ placed)
Rises-either region next others placed true is_region below later rises placed_rises =
    let first : EndsBefore region next = below refl in
    let filled : next.access.span.from < next.access.span.to = rises.0.0 in (
      is_region,
      All-cons (EndsBefore region) next others first
          (All-weaker (EndsBefore next) (EndsBefore region) (λ other after. omega (arith, first, after)) others rises.1),
      rises,
    )
Rises-either region next others placed false is_region below later rises placed_rises = (rises.0, later refl, placed_rises)

-- shares no cell with the region
abbrev Misses : Region → Region → Type 0
Misses region other = ¬ Overlaps region.access.span other.access.span

Rises-placed : (region : Region) (others : List Region) → IsRegion region → All IsRegion others → All (Misses region) others → Rises others
    → Rises (placed_in_order region others)
Rises-placed region [] is_region are_regions apart rises = (is_region, All-nil (EndsBefore region), tt)
Rises-placed region (next ∷ others) is_region are_regions apart rises =
    let next_is = All-head IsRegion next others are_regions in
    let next_apart : Misses region next = All-head (Misses region) next others apart in
    let rest = Rises-placed region others is_region (All-tail IsRegion next others are_regions) (All-tail (Misses region) next others apart) rises.2 in
    Rises-either region next others _ (begins_before region next) is_region
    (λ e. ends_before region next is_region next_is next_apart (begins_true region next e))
    (λ e. All-permutation (EndsBefore next) _ _ (IsPermutation-placed_in_order region others)
    (All-cons (EndsBefore next) region others
    (ends_before next region next_is is_region (overlaps_too region next next_apart) (begins_false region next e)) rises.1))
    rises rest

region_rises : (region : Region) (ordered : List Region) (empty : Bool) → (empty ≡ false → Rises (placed_in_order region ordered))
    → Rises ordered → Rises (if empty then ordered else placed_in_order region ordered)
region_rises region ordered true placed rises = rises
region_rises region ordered false placed rises = placed refl

AllPairs-tail : (R : Region → Region → Type 0) (x : Region) (xs : List Region) → AllPairs R (x ∷ xs) → AllPairs R xs
AllPairs-tail R x xs pairs = λ i j d below within. pairs (suc i) (suc j) d (omega arith) (omega arith)

AllPairs-head : (R : Region → Region → Type 0) (x : Region) (xs : List Region) → AllPairs R (x ∷ xs) → All (R x) xs
AllPairs-head R x xs pairs = λ k d within. pairs zero (suc k) d (omega arith) (omega arith)

-- what is asked of accesses: they share no cell
abbrev pub AreApart : List Access → Type 0
AreApart accesses = AllPairs (λ (one other : Access). ¬ Overlaps one.span other.span) accesses

-- a filled access has cells with low numbers
abbrev pub IsLowFilled : Access → Type 0
IsLowFilled access = is_filled access ≡ true → access.span.to < 2 ^ 32

-- the same of an access with its number
abbrev IsLowRegion : Region → Type 0
IsLowRegion region = IsLowFilled region.access

are_regions_in_order : (all : List Region) → All IsLowRegion all → All IsRegion (in_order all)
are_regions_in_order all low = λ k d within.
    let filled = in_order_filled all k d within in
    (filled_is (get_or (in_order all) k d).access filled, All-in_order IsLowRegion all low k d within filled)

pub all_regions : (accesses : List Access) → All IsLowFilled accesses → All IsRegion (regions accesses)
all_regions accesses low = are_regions_in_order (numbered 0 accesses) (All-numbered IsLowFilled 0 accesses low)

Rises-in_order : (all : List Region) → All IsLowRegion all → AllPairs Misses all → Rises (in_order all)
Rises-in_order [] low apart = tt
Rises-in_order (region ∷ others) low apart =
    let low_rest = All-tail IsLowRegion region others low in
    let rest = Rises-in_order others low_rest (AllPairs-tail Misses region others apart) in
    let apart_rest = All-in_order (Misses region) others (AllPairs-head Misses region others apart) in
    region_rises region (in_order others) (span_len region.access.span == 0)
    (λ e. let here : is_nonempty region ≡ true = ap not e in
    Rises-placed region (in_order others) (filled_is region.access here, All-head IsLowRegion region others low here) (are_regions_in_order others low_rest)
    apart_rest rest)
    rest

-- accesses that share no cell share none with their numbers
numbered_apart : (accesses : List Access) → AreApart accesses → AllPairs Misses (numbered 0 accesses)
numbered_apart accesses apart = λ i j d below within.
    subst (λ (one : Access). ¬ Overlaps one.span (get_or (numbered 0 accesses) j d).access.span) (sym (access_at 0 accesses i d))
    (subst (λ (other : Access). ¬ Overlaps (get_or accesses i d.access).span other.span) (sym (access_at 0 accesses j d))
    (apart i j d.access below (omega (arith, length-numbered 0 accesses))))

pub Rises-regions : (accesses : List Access) → All IsLowFilled accesses → AreApart accesses → Rises (regions accesses)
Rises-regions accesses low apart = Rises-in_order (numbered 0 accesses) (All-numbered IsLowFilled 0 accesses low) (numbered_apart accesses apart)

-- by places: each ends before each later one begins
rises_at : (ordered : List Region) → Rises ordered → (i j : ℕ) (d : Region) → i < j → j < length ordered → EndsBefore (get_or ordered i d) (get_or ordered j d)
rises_at [] rises i j d below within = absurd (omega arith)
rises_at (x ∷ xs) rises zero zero d below within = absurd (omega arith)
rises_at (x ∷ xs) rises zero (suc j) d below within = rises.1 j d (omega arith)
rises_at (x ∷ xs) rises (suc i) zero d below within = absurd (omega arith)
rises_at (x ∷ xs) rises (suc i) (suc j) d below within = rises_at xs rises.2 i j d (omega arith) (omega arith)

pub regions_in_order : (accesses : List Access) → All IsLowFilled accesses → AreApart accesses → AllPairs EndsBefore (regions accesses)
regions_in_order accesses low apart = λ i j d below within. rises_at (regions accesses) (Rises-regions accesses low apart) i j d below within

-- ---- and no other list of the same accesses has them in this order

-- an region counts for so much, where its first cell has this number
abbrev weigh : ℕ → (Region → ℕ) → Region → ℕ
weigh key weight region = cond (first_cell region == key) (weight region) 0

weigh-other : (key : ℕ) (weight : Region → ℕ) (region : Region) → first_cell region ≢ key → weigh key weight region ≡ 0
weigh-other key weight region other = grind (arith, nat_tests)

weigh-own : (key : ℕ) (weight : Region → ℕ) (region : Region) → first_cell region ≡ key → weigh key weight region ≡ weight region
weigh-own key weight region own = grind (arith, nat_tests)

weigh-others : (key : ℕ) (weight : Region → ℕ) (accesses : List Region) → All (λ (region : Region). first_cell region ≢ key) accesses
    → sum_by (weigh key weight) accesses ≡ 0
weigh-others key weight accesses others =
    let none = sum_by-le (weigh key weight) 0 accesses
    (All-weaker (λ (region : Region). first_cell region ≢ key) (λ (region : Region). weigh key weight region ≤ 0)
    (λ region other. let z = weigh-other key weight region other in omega arith) accesses others) in
    omega arith

-- the distance of two numbers, and of two accesses, which is 0 where they are the same
abbrev apart_by : ℕ → ℕ → ℕ
apart_by one other = (one - other) + (other - one)

abbrev number_of : Mode → ℕ
number_of mode.In = 0
number_of mode.Out = 1
number_of mode.Inout = 2

abbrev differs_by : Region → Region → ℕ
differs_by one other =
    apart_by one.number other.number + apart_by (number_of one.access.mode)
    (number_of other.access.mode) + apart_by one.access.span.array other.access.span.array
    + apart_by one.access.span.from other.access.span.from + apart_by one.access.span.to other.access.span.to

differs_by-itself : (one : Region) → differs_by one one ≡ 0
differs_by-itself one = omega arith

same_mode : (one other : Mode) → number_of one ≡ number_of other → one ≡ other
same_mode mode.In mode.In e = refl
same_mode mode.In mode.Out e = absurd (omega arith)
same_mode mode.In mode.Inout e = absurd (omega arith)
same_mode mode.Out mode.In e = absurd (omega arith)
same_mode mode.Out mode.Out e = refl
same_mode mode.Out mode.Inout e = absurd (omega arith)
same_mode mode.Inout mode.In e = absurd (omega arith)
same_mode mode.Inout mode.Out e = absurd (omega arith)
same_mode mode.Inout mode.Inout e = refl

same_make : (make : ℕ → Mode → ℕ → ℕ → ℕ → Region) (i j : ℕ) (m n : Mode) (a b c d e f : ℕ) → i ≡ j → m ≡ n → a ≡ b → c ≡ d → e ≡ f
    → make i m a c e ≡ make j n b d f
same_make make i j m n a b c d e f numbers modes arrays froms tos = cc

differs_by-none : (one other : Region) → differs_by one other ≡ 0 → one ≡ other
differs_by-none one other none =
    let numbers : one.number ≡ other.number = omega arith in
    let modes : one.access.mode ≡ other.access.mode = same_mode one.access.mode other.access.mode (omega arith) in
    let arrays : one.access.span.array ≡ other.access.span.array = omega arith in
    let froms : one.access.span.from ≡ other.access.span.from = omega arith in
    let tos : one.access.span.to ≡ other.access.span.to = omega arith in
    same_make (λ n m a f t. record { number = n; access = record { mode = m; span = record { array = a; from = f; to = t } } }) one.number other.number
    one.access.mode other.access.mode
    one.access.span.array other.access.span.array one.access.span.from other.access.span.from one.access.span.to other.access.span.to numbers modes arrays
    froms tos

-- two lists of the same accesses give the same sums
abbrev SameSums : List Region → List Region → Type 0
SameSums one other = (f : Region → ℕ) → sum_by f one ≡ sum_by f other

-- the first region of a list that doesn't fall has the least first cell
abbrev pub Climbs : List Region → Type 0
Climbs [] = Unit {0}
Climbs (region ∷ others) = All (λ (other : Region). first_cell region ≤ first_cell other) others × Climbs others

-- no region of a list has a lower first cell than all of another with the same sums
not_below : (x : Region) (xs : List Region) (y : Region) (ys : List Region) → All (λ (region : Region). first_cell x ≤ first_cell region) xs
    → SameSums (x ∷ xs) (y ∷ ys) → first_cell x ≤ first_cell y
not_below x xs y ys later same =
    ⊎_elim (λ (le : first_cell x ≤ first_cell y). le)
    (λ (lt : first_cell y < first_cell x).
    absurd (omega (
      arith,
      same (weigh (first_cell y) (λ region. 1)),
      sum_by-cons (weigh (first_cell y) (λ region. 1)) x xs,
      sum_by-cons (weigh (first_cell y) (λ region. 1)) y ys,
      weigh-own (first_cell y) (λ region. 1) y refl,
      weigh-other (first_cell y) (λ region. 1) x (λ e. omega arith),
      weigh-others (first_cell y) (λ region. 1) xs
          (All-weaker (λ (region : Region). first_cell x ≤ first_cell region) (λ (region : Region). first_cell region ≢ first_cell y)
          (λ region le. λ e. omega arith) xs later),
    )))
    (cases_le (first_cell x) (first_cell y))

pub one_order : (one other : List Region) → Rises one → Climbs other → SameSums one other → one ≡ other
one_order [] [] rises climbs same = refl
one_order [] (y ∷ ys) rises climbs same = absurd (omega (arith, same (λ region. 1), sum_by-cons (λ (region : Region). 1) y ys))
one_order (x ∷ xs) [] rises climbs same = absurd (omega (arith, same (λ region. 1), sum_by-cons (λ (region : Region). 1) x xs))
one_order (x ∷ xs) (y ∷ ys) rises climbs same =
    let begun : x.access.span.from < x.access.span.to = rises.0.0 in
    let later : All (λ (region : Region). first_cell x < first_cell region) xs =
    All-weaker (EndsBefore x) (λ (region : Region). first_cell x < first_cell region) (λ region after. omega (arith, after)) xs rises.1 in
    let low : first_cell y ≤ first_cell x = not_below y ys x xs climbs.0 (λ f. sym (same f)) in
    let high : first_cell x ≤ first_cell y = not_below x xs y ys
    (All-weaker (λ (region : Region). first_cell x < first_cell region) (λ (region : Region). first_cell x ≤ first_cell region)
    (λ region lt. omega arith) xs later) same in
    let keys : first_cell y ≡ first_cell x = omega arith in
    let none : sum_by (weigh (first_cell x) (λ region. differs_by region x)) xs ≡ 0 =
    weigh-others (first_cell x) (λ region. differs_by region x) xs
    (All-weaker (λ (region : Region). first_cell x < first_cell region) (λ (region : Region). first_cell region ≢ first_cell x)
    (λ region lt. λ e. omega arith) xs later) in
    let sums = same (weigh (first_cell x) (λ region. differs_by region x)) in
    let own : y ≡ x = differs_by-none y x (omega (
      arith,
      sums,
      none,
      differs_by-itself x,
      weigh-own (first_cell x) (λ region. differs_by region x) x refl,
      weigh-own (first_cell x) (λ region. differs_by region x) y keys,
      sum_by-cons (weigh (first_cell x) (λ region. differs_by region x)) x xs,
      sum_by-cons (weigh (first_cell x) (λ region. differs_by region x)) y ys,
    )) in
    let rest : xs ≡ ys = one_order xs ys rises.2 climbs.1
    (λ f. omega (arith, same f, sum_by-cons f x xs, sum_by-cons f y ys, ap f own)) in
    ap₂ (λ (a : Region) (b : List Region). a ∷ b) (sym own) rest

-- a list that a sort left climbs
Climbs-from_sorted : (accesses : List Region) → IsNonDecreasingBy first_cell accesses → Climbs accesses
Climbs-from_sorted [] sorted = tt
Climbs-from_sorted (region ∷ others) sorted = (
  λ k d within. sorted zero (suc k) d (omega arith) (omega arith),
  Climbs-from_sorted others (λ i j d le within. sorted (suc i) (suc j) d (omega arith) (omega arith)),
)

-- the filled accesses with their numbers, sorted by their first cells, are the regions
pub sorted_is_regions : (accesses : List Access) (ordered : List Region) → All IsLowFilled accesses → AreApart accesses
    → IsPermutation (filter is_nonempty (numbered 0 accesses)) ordered → IsNonDecreasingBy first_cell ordered → ordered ≡ regions accesses
sorted_is_regions accesses ordered low apart moved sorted =
    sym (one_order (regions accesses) ordered (Rises-regions accesses low apart) (Climbs-from_sorted ordered sorted)
    (λ f. sum_by-IsPermutation f _ _ (IsPermutation-in_order (numbered 0 accesses)) ∙ sym (sum_by-IsPermutation f _ _ moved)))
