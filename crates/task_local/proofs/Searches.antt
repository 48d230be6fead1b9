-- The place of a cell by the last region that has begun there.
use Rattle.std.proofs.Common.{◌≡◌, ℕ, zero, suc, ◌+◌, ◌*◌, ◌^◌, ◌<◌, ◌≤◌, List, length, get_or, take, drop, All, AllPairs, sum_by, slice_index, sym}
use Rattle.std.proofs.Common.{ap, ◌∙◌, refl, subst, get_or-drop, length-drop, arith}
use Rattle.std.proofs.lemmas.Bool.{cases_order}
use Rattle.std.proofs.lemmas.Bool.Decides.{nat_tests}
use Rattle.std.proofs.lemmas.List.Sums.{sum_by_more, sum_by-drop_more, sum_by-take-drop, sum_by-le, sum_by-le-sum_by}
use Rattle.std.proofs.Common.{⊎_elim}
use Rattle.std.specs.List.Sorted.{IsNonDecreasingBy}
use Rattle.rt_base.specs.declared.data.Access.{Access}
use Rattle.task_local.specs.declared.index.Region.{Region}
use Rattle.task_local.specs.Regions.{regions}
use Rattle.task_local.specs.Kept.{first_cell, end_cell, region_len, region_before, place_in, cell_total, IsRegion, EndsBefore, IsIndex, HasOffsets, HasBegun}
use Rattle.task_local.proofs.Places.{cells_among, cells_before-le, cell_total-regions}
use Rattle.task_local.proofs.Order.{IsLowFilled, AreApart, all_regions, regions_in_order}

-- the regions of a task, with their offsets, are an index
pub regions_are_index : (accesses : List Access) (ordered : List Region) (offsets : List ℕ) → All IsLowFilled accesses → AreApart accesses
    → cells_among accesses < 2 ^ 63
    → ordered ≡ regions accesses → HasOffsets ordered offsets → IsIndex ordered offsets
regions_are_index accesses ordered offsets low apart total is places = record {
  filled = subst (All IsRegion) (sym is) (all_regions accesses low);
  order = subst (AllPairs EndsBefore) (sym is) (regions_in_order accesses low apart);
  total = (let e = ap cell_total is ∙ cell_total-regions accesses in omega arith);
  places = places;
}

-- so many cells are few
pub regions_total : (accesses : List Access) (ordered : List Region) → cells_among accesses < 2 ^ 63 → ordered ≡ regions accesses → cell_total ordered < 2 ^ 63
regions_total accesses ordered total is = let e = ap cell_total is ∙ cell_total-regions accesses in omega arith

-- first cells never fall
pub first_cells_climb : (ordered : List Region) (offsets : List ℕ) → IsIndex ordered offsets → IsNonDecreasingBy first_cell ordered
first_cells_climb ordered offsets is = λ i j d le within.
    ⊎_elim (λ (same : i ≡ j). subst (λ k. first_cell (get_or ordered i d) ≤ first_cell (get_or ordered k d)) same (omega arith))
    (⊎_elim (λ (lt : i < j). let ends = is.order i j d lt within in let here = is.filled i d (omega arith) in omega (arith, ends, here.0))
    (λ (gt : j < i). absurd (omega arith)))
    (cases_order i j)

-- all cells of a region that has ended come before, and none of one that begins later
pub ended : (array cell : ℕ) (region : Region) → cell < 2 ^ 32 → IsRegion region → end_cell region ≤ array * 2 ^ 32 + cell
    → region_before array cell region ≡ region_len region
ended array cell region low is over = let few = is.1 in grind (arith, nat_tests)

pub not_begun : (array cell : ℕ) (region : Region) → IsRegion region → array * 2 ^ 32 + cell ≤ first_cell region → region_before array cell region ≡ 0
not_begun array cell region is later = let some = is.0 in let few = is.1 in grind (arith, nat_tests)

-- sums of the front agree where the terms agree
front_agrees : (f g : Region → ℕ) (xs : List Region) (d : Region) (n : ℕ) → n ≤ length xs
    → ((k : ℕ) → k < n → f (get_or xs k d) ≡ g (get_or xs k d)) → sum_by f (take n xs) ≡ sum_by g (take n xs)
front_agrees f g xs d zero within agree = refl
front_agrees f g xs d (suc n) within agree =
    let e : suc n ≡ n + 1 = omega arith in
    let shorter = front_agrees f g xs d n (omega arith) (λ k lt. agree k (omega arith)) in
    let here = agree n (omega arith) in
    rw e (sum_by_more f xs n d (omega arith) ∙ (ap (λ m. m + f (get_or xs n d)) shorter ∙ ap (λ m. sum_by g (take n xs) + m) here)
    ∙ sym (sum_by_more g xs n d (omega arith)))

-- regions that begin later add nothing
later_add_nothing : (ordered : List Region) (offsets : List ℕ) (array cell n : ℕ) → IsIndex ordered offsets → HasBegun ordered (array * 2 ^ 32 + cell) n
    → sum_by (region_before array cell) (drop n ordered) ≡ 0
later_add_nothing ordered offsets array cell n is has =
    let none = sum_by-le (region_before array cell) 0 (drop n ordered)
    (λ k d within.
    let len = length-drop n ordered in
    let zero_there : region_before array cell (get_or ordered (n + k) d) ≡ 0 =
    not_begun array cell (get_or ordered (n + k) d) (is.filled (n + k) d (omega arith)) (let later = has.later (n + k) d (omega arith) (omega arith) in
    omega (arith, later)) in
    let there = ap (region_before array cell) (get_or-drop n ordered k d) in
    omega arith) in
    omega arith

pub place_none : (ordered : List Region) (offsets : List ℕ) (array cell : ℕ) → IsIndex ordered offsets → HasBegun ordered (array * 2 ^ 32 + cell) 0
    → place_in ordered array cell ≡ 0
place_none ordered offsets array cell is has = later_add_nothing ordered offsets array cell 0 is has

pub place_last : (ordered : List Region) (offsets : List ℕ) (array cell last : ℕ) (d : Region) → IsIndex ordered offsets → cell < 2 ^ 32
    → HasBegun ordered (array * 2 ^ 32 + cell) (last + 1)
    → slice_index offsets last + region_before array cell (get_or ordered last d) ≡ place_in ordered array cell
place_last ordered offsets array cell last d is low has =
    let within = has.within in
    let begun = has.begun last d (omega arith) in
    let front = front_agrees (region_before array cell) region_len ordered d last (omega arith)
    (λ k lt. let ends = is.order k last d lt (omega arith) in
    ended array cell (get_or ordered k d) low (is.filled k d (omega arith)) (omega (arith, ends, begun))) in
    let offset = is.places.before last (omega arith) in
    let rest = later_add_nothing ordered offsets array cell (last + 1) is has in
    omega (
      arith,
      sum_by-take-drop (region_before array cell) ordered last,
      sum_by-drop_more (region_before array cell) ordered last d (omega arith),
      rest,
      front,
      offset,
    )

pub place_is_small : (ordered : List Region) (offsets : List ℕ) (array cell : ℕ) → IsIndex ordered offsets → place_in ordered array cell < 2 ^ 63
place_is_small ordered offsets array cell is =
    let most = sum_by-le-sum_by (region_before array cell) region_len ordered (λ (region : Region). cells_before-le array cell region.access) in
    let total = is.total in omega arith
