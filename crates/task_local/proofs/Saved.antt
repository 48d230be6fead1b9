-- What is put back: a span that may be written has the cells of the copy, and the other cells stay.
use Rattle.std.proofs.Common.{◌≡◌, ℕ, zero, suc, ◌+◌, ◌-◌, ◌*◌, ◌^◌, ◌<◌, ◌≤◌, Bool, true, false, not, ◌==◌, ℤ, pos, List, [], ◌∷◌, ◌++◌, length}
use Rattle.std.proofs.Common.{get_or, take, drop, All, Any, sum_by, slice_get, Some, if◌then◌else◌, ◌⊎◌, inl, inr, ⊎_elim, sym, ap, ◌∙◌, refl, subst}
use Rattle.std.proofs.Common.{length-take-le, length-drop, get_or-take, get_or-drop, get_or-append-add, ext_get_or, ne_eqb, eqb-true, mul_comm, arith}
use Rattle.std.proofs.lemmas.Bool.{cases_lt, cases_eq}
use Rattle.std.proofs.lemmas.Nat.{mul-add-lt}
use Rattle.std.proofs.lemmas.List.{get_or_append_left}
use Rattle.std.proofs.lemmas.List.Elements.{All-head, All-tail}
use Rattle.std.proofs.lemmas.List.Sums.{sum_by-cons, sum_by_more}
use Rattle.std.proofs.lemmas.Option.{slice_get-get_or, slice_get_past}
use Rattle.rt_base.specs.declared.data.Span.{Span}
use Rattle.rt_base.specs.declared.data.Access.{Access}
use Rattle.rt_base.specs.declared.data.Mode.TheVariants as mode
use Rattle.rt_base.specs.declared.data.TaskDef.{TaskDef}
use Rattle.rt_base.specs.declared.data.Program.{Program}
use Rattle.rt_base.specs.Spans.{span_len, is_written}
use Rattle.rt_base.specs.Layout.{address, array_place, array_len, array_count, memory_len}
use Rattle.rt_base.specs.WellFormed.{WellFormed, IsTask, IsSpan, MayWrite, Declares, region_cells}
use Rattle.task_local.specs.declared.index.Region.{Region}
use Rattle.task_local.specs.Regions.{numbered, begins_before, placed_in_order, in_order, regions, spliced, put_back, saved_regions, saved, cells_of_span}
use Rattle.task_local.specs.Kept.{first_cell, end_cell, is_nonempty, region_len, region_before, place_in, cell_total, IsRegion, RegionLies, EndsBefore}
use Rattle.task_local.specs.Laws.{IsCellAt}
use Rattle.task_local.proofs.Places.{place_among, All-regions, regions_filled, place-rises, place_in-regions, cell_total-regions, declared_fits}
use Rattle.task_local.proofs.Order.{filled_is, Rises, Rises-regions}
use Rattle.task_local.proofs.Copies.{length-spliced}
use Rattle.task_local.proofs.Searches.{ended}
use Rattle.task_local.proofs.Programs.{lies_in, filled_low}
use Rattle.task_local.proofs.Fresh.{later_have_none, before_covered, more_of_regions, run_is}

-- ---- cells that are written into a list

get_or-spliced_before : (at from : ℕ) (cells whole : List ℤ) → at < from → from ≤ length whole
    → get_or (spliced from cells whole) at (pos 0) ≡ get_or whole at (pos 0)
get_or-spliced_before at from cells whole before within =
    let len = length-take-le from whole within in
    get_or_append_left (take from whole) _ (pos 0) at (omega arith) ∙ get_or-take from whole at (pos 0) before

get_or-spliced_behind : (at from : ℕ) (cells whole : List ℤ) → from + length cells ≤ at → from ≤ length whole
    → get_or (spliced from cells whole) at (pos 0) ≡ get_or whole at (pos 0)
get_or-spliced_behind at from cells whole behind within =
    let len = length-take-le from whole within in
    let k : ℕ = at - (from + length cells) in
    let rest : List ℤ = drop (from + length cells) whole in
    let place : at ≡ length (take from whole) + (length cells + k) = omega arith in
    let there : (from + length cells) + k ≡ at = omega arith in
    ap (λ i. get_or (spliced from cells whole) i (pos 0)) place
    ∙ get_or-append-add (take from whole) (cells ++ rest) (length cells + k) (pos 0)
    ∙ get_or-append-add cells rest k (pos 0)
    ∙ get_or-drop (from + length cells) whole k (pos 0)
    ∙ ap (λ i. get_or whole i (pos 0)) there

get_or-spliced_inside : (k from : ℕ) (cells whole : List ℤ) → k < length cells → from ≤ length whole
    → get_or (spliced from cells whole) (from + k) (pos 0) ≡ get_or cells k (pos 0)
get_or-spliced_inside k from cells whole inside within =
    let len = length-take-le from whole within in
    let place : from + k ≡ length (take from whole) + k = omega arith in
    ap (λ i. get_or (spliced from cells whole) i (pos 0)) place
    ∙ get_or-append-add (take from whole) (cells ++ drop (from + length cells) whole) k (pos 0)
    ∙ get_or_append_left cells _ (pos 0) k inside

-- ---- where regions lie in the memory

abbrev start : Program → ℕ → Region → ℕ
start p rank region = address p rank region.access.span.array region.access.span.from

-- the address lies before the region or behind it
abbrev Misses : Program → ℕ → ℕ → Region → Type 0
Misses p rank at region = (at < start p rank region) ⊎ (start p rank region + span_len region.access.span ≤ at)

-- each region lies in so many cells of memory, and ends before the later ones begin
abbrev Ascends : Program → ℕ → ℕ → List Region → Type 0
Ascends p rank long [] = Unit {0}
Ascends p rank long (x ∷ xs) =
    (start p rank x + span_len x.access.span ≤ long) × All (λ (y : Region). start p rank x + span_len x.access.span ≤ start p rank y) xs
    × Ascends p rank long xs

-- arrays before another have no more cells than those before a later one
sums_rise : (m n : ℕ) (lens : List ℕ) → m ≤ n → sum_by (λ (x : ℕ). x) (take m lens) ≤ sum_by (λ (x : ℕ). x) (take n lens)
sums_rise zero n lens le = omega arith
sums_rise (suc m) zero lens le = absurd (omega arith)
sums_rise (suc m) (suc n) [] le = omega arith
sums_rise (suc m) (suc n) (len ∷ lens) le =
    let rest = sums_rise m n lens (omega arith) in
    omega (arith, sum_by-cons (λ (x : ℕ). x) len (take m lens), sum_by-cons (λ (x : ℕ). x) len (take n lens))

-- the region has cells, in its array and in the memory
record IsPlacedRegion (p : Program) (rank : ℕ) (region : Region) : Type 0 where
  filled : IsRegion region
  in_array : region.access.span.to ≤ array_len p rank region.access.span.array
  there : array_place p rank region.access.span.array < length p.lens.items
  lies : RegionLies p rank region

ends_before_start : (p : Program) (rank : ℕ) (x y : Region) → IsPlacedRegion p rank x → IsPlacedRegion p rank y → EndsBefore x y
    → start p rank x + span_len x.access.span ≤ start p rank y
ends_before_start p rank x y is_x is_y ends =
    let some = is_x.filled.0 in
    let low_x = is_x.filled.1 in
    let some_y = is_y.filled.0 in
    let low_y = is_y.filled.1 in
    ⊎_elim
    (λ (lt : x.access.span.array < y.access.span.array).
    let sums = sum_by_more (λ (n : ℕ). n) p.lens.items (array_place p rank x.access.span.array) 0 is_x.there in
    let rise = sums_rise (array_place p rank x.access.span.array + 1) (array_place p rank y.access.span.array) p.lens.items (omega arith) in
    let inside = is_x.in_array in
    omega arith)
    (λ (ge : y.access.span.array ≤ x.access.span.array).
    let same : y.access.span.array ≡ x.access.span.array = omega arith in
    let before : x.access.span.to ≤ y.access.span.from = omega arith in
    subst (λ a. start p rank x + span_len x.access.span ≤ address p rank a y.access.span.from) (sym same) (omega arith))
    (cases_lt x.access.span.array y.access.span.array)

ascends : (p : Program) (rank : ℕ) (ordered : List Region) → Rises ordered → All (IsPlacedRegion p rank) ordered → Ascends p rank (memory_len p) ordered
ascends p rank [] rises placed = tt
ascends p rank (x ∷ xs) rises placed =
    let here : IsPlacedRegion p rank x = All-head (IsPlacedRegion p rank) x xs placed in
    let rest = All-tail (IsPlacedRegion p rank) x xs placed in
    (here.lies.inside, λ k d within. ends_before_start p rank x (get_or xs k d) here (rest k d within) (rises.1 k d within), ascends p rank xs rises.2 rest)

placed_is : (p : Program) (rank : ℕ) (region : Region) → WellFormed p → rank < p.ranks → IsSpan p rank region.access.span → is_nonempty region ≡ true
    → IsPlacedRegion p rank region
placed_is p rank region well exists span filled =
    let fills : region.access.span.from < region.access.span.to = filled_is region.access filled in
    let lies = lies_in p rank region.access well exists span filled in
    let array = span.array fills in
    let within : rank * array_count p + region.access.span.array < array_count p * p.ranks =
    mul-add-lt rank (array_count p) region.access.span.array p.ranks exists array in
    let lens = well.lens in
    let other_way : array_count p * p.ranks ≡ p.ranks * array_count p = mul_comm (array_count p) p.ranks in
    record {
      filled = (fills, omega (arith, lies.inside, lies.small));
      in_array = span.inside fills;
      there = omega arith;
      lies = lies;
    }

regions_ascend : (p : Program) (task : TaskDef) → WellFormed p → IsTask p task → Ascends p task.rank (memory_len p) (regions task.accesses.items)
regions_ascend p task well is =
    ascends p task.rank (regions task.accesses.items) (Rises-regions task.accesses.items (filled_low p task well is) is.apart)
    (λ k d within.
    placed_is p task.rank (get_or (regions task.accesses.items) k d) well is.rank
    (All-regions (λ (access : Access). IsSpan p task.rank access.span) task.accesses.items is.regions k d within)
    (regions_filled task.accesses.items k d within))

-- ---- one region is put back

length-put_either : (written : Bool) (from : ℕ) (cells memory : List ℤ) → from + length cells ≤ length memory
    → length (if written then spliced from cells memory else memory) ≡ length memory
length-put_either true from cells memory fits = length-spliced from cells memory fits
length-put_either false from cells memory fits = refl

kept_either : (written : Bool) (at from : ℕ) (cells memory : List ℤ) → from ≤ length memory → (written ≡ true → (at < from) ⊎ (from + length cells ≤ at))
    → get_or (if written then spliced from cells memory else memory) at (pos 0) ≡ get_or memory at (pos 0)
kept_either true at from cells memory within misses =
    ⊎_elim (λ (before : at < from). get_or-spliced_before at from cells memory before within)
    (λ (behind : from + length cells ≤ at). get_or-spliced_behind at from cells memory behind within) (misses refl)
kept_either false at from cells memory within misses = refl

-- ---- all regions are put back

length-saved : (p : Program) (rank long : ℕ) (ordered : List Region) → Ascends p rank long ordered → (copy memory : List ℤ) → length copy ≡ cell_total ordered
    → length memory ≡ long → length (saved_regions p rank ordered copy memory) ≡ long
length-saved p rank long [] ascend copy memory cells is_long = is_long
length-saved p rank long (x ∷ xs) ascend copy memory cells is_long =
    let count : ℕ = span_len x.access.span in
    let total = sum_by-cons region_len x xs in
    let len = length-take-le count copy (omega arith) in
    length-saved p rank long xs ascend.2 (drop count copy) (put_back p rank x.access (take count copy) memory) (omega (arith, length-drop count copy))
    (length-put_either (is_written x.access.mode) (start p rank x) (take count copy) memory (omega (arith, ascend.0)) ∙ is_long)

-- a cell that no written region has stays
saved_keeps : (p : Program) (rank long at : ℕ) (ordered : List Region) → Ascends p rank long ordered
    → All (λ (region : Region). is_written region.access.mode ≡ true → Misses p rank at region) ordered → (copy memory : List ℤ)
    → length copy ≡ cell_total ordered
    → length memory ≡ long → get_or (saved_regions p rank ordered copy memory) at (pos 0) ≡ get_or memory at (pos 0)
saved_keeps p rank long at [] ascend missed copy memory cells is_long = refl
saved_keeps p rank long at (x ∷ xs) ascend missed copy memory cells is_long =
    let count : ℕ = span_len x.access.span in
    let total = sum_by-cons region_len x xs in
    let len = length-take-le count copy (omega arith) in
    let put = put_back p rank x.access (take count copy) memory in
    let fits = ascend.0 in
    let missed_here : is_written x.access.mode ≡ true → Misses p rank at x =
    All-head (λ (region : Region). is_written region.access.mode ≡ true → Misses p rank at region) x xs missed in
    let missed_later = All-tail (λ (region : Region). is_written region.access.mode ≡ true → Misses p rank at region) x xs missed in
    saved_keeps p rank long at xs ascend.2 missed_later (drop count copy) put (omega (arith, length-drop count copy))
    (length-put_either (is_written x.access.mode) (start p rank x) (take count copy) memory (omega arith) ∙ is_long)
    ∙ kept_either (is_written x.access.mode) at (start p rank x) (take count copy) memory (omega arith)
    (λ written. ⊎_elim (λ (before : at < start p rank x). inl before) (λ (behind : start p rank x + count ≤ at). inr (omega arith)) (missed_here written))

-- ---- the region that writes a cell

abbrev Writes : ℕ → ℕ → Access → Type 0
Writes array cell access = Declares array cell access × (is_written access.mode ≡ true)

abbrev RegionWrites : ℕ → ℕ → Region → Type 0
RegionWrites array cell region = Writes array cell region.access

first_or_later : (P : Region → Type 0) (x : Region) (xs : List Region) (i : ℕ) (y : Region) → i < length (x ∷ xs) → get_or (x ∷ xs) i y ≡ y → P y → P x
    ⊎ Any P xs
first_or_later P x xs zero y within is holds = inl (subst P (sym is) holds)
first_or_later P x xs (suc i) y within is holds = inr (i, y, omega arith, is, holds)

either_of : (P : Region → Type 0) (x : Region) (xs : List Region) → Any P (x ∷ xs) → P x ⊎ Any P xs
either_of P x xs any = first_or_later P x xs any.0 any.1 any.2 any.3 any.4

here_of : (P : Region → Type 0) (x : Region) (xs : List Region) → P x → Any P (x ∷ xs)
here_of P x xs holds = (0, x, omega arith, refl, holds)

later_of : (P : Region → Type 0) (x : Region) (xs : List Region) → Any P xs → Any P (x ∷ xs)
later_of P x xs any = (suc any.0, any.1, omega (arith, any.2), any.3, any.4)

placed_either : (P : Region → Type 0) (region next : Region) (others : List Region) (first : Bool) → Any P (region ∷ (next ∷ others))
    → Any P (next ∷ placed_in_order region others) → Any P (if first then region ∷ (next ∷ others) else next ∷ placed_in_order region others)
placed_either P region next others true one other = one
placed_either P region next others false one other = other

placed_here : (P : Region → Type 0) (region : Region) (others : List Region) → P region → Any P (placed_in_order region others)
placed_here P region [] holds = here_of P region [] holds
placed_here P region (next ∷ others) holds =
    placed_either P region next others (begins_before region next) (here_of P region (next ∷ others) holds)
    (later_of P next (placed_in_order region others) (placed_here P region others holds))

placed_later : (P : Region → Type 0) (region : Region) (others : List Region) → Any P others → Any P (placed_in_order region others)
placed_later P region [] any = absurd (omega (arith, any.2))
placed_later P region (next ∷ others) any =
    placed_either P region next others (begins_before region next) (later_of P region (next ∷ others) any)
    (⊎_elim (λ (holds : P next). here_of P next (placed_in_order region others) holds)
    (λ (later : Any P others). later_of P next (placed_in_order region others) (placed_later P region others later))
    (either_of P next others any))

region_either : (P : Region → Type 0) (region : Region) (ordered : List Region) (empty : Bool) → (empty ≡ true → Any P ordered)
    → Any P (placed_in_order region ordered) → Any P (if empty then ordered else placed_in_order region ordered)
region_either P region ordered true rest placed = rest refl
region_either P region ordered false rest placed = placed

-- one that writes a cell is in order, too
some_in_order : (P : Region → Type 0) → ((region : Region) → P region → span_len region.access.span ≡ 0 → ⊥) → (all : List Region) → Any P all
    → Any P (in_order all)
some_in_order P filled [] any = absurd (omega (arith, any.2))
some_in_order P filled (region ∷ others) any =
    ⊎_elim
    (λ (holds : P region). region_either P region (in_order others) (span_len region.access.span == 0) (λ e. absurd (filled region holds (eqb-true _ _ e)))
    (placed_here P region (in_order others) holds))
    (λ (later : Any P others). let rest = some_in_order P filled others later in
    region_either P region (in_order others) (span_len region.access.span == 0) (λ e. rest) (placed_later P region (in_order others) rest))
    (either_of P region others any)

-- and has its number
some_numbered : (P : Access → Type 0) (n : ℕ) (accesses : List Access) (i : ℕ) (y : Access) → i < length accesses → get_or accesses i y ≡ y → P y
    → Any (λ (region : Region). P region.access) (numbered n accesses)
some_numbered P n [] i y within is holds = absurd (omega arith)
some_numbered P n (access ∷ accesses) zero y within is holds =
    here_of (λ (region : Region). P region.access) (record { number = n; access = access }) (numbered (n + 1) accesses) (subst P (sym is) holds)
some_numbered P n (access ∷ accesses) (suc i) y within is holds =
    later_of (λ (region : Region). P region.access) (record { number = n; access = access }) (numbered (n + 1) accesses)
    (some_numbered P (n + 1) accesses i y (omega arith) is holds)

-- an access with a cell that it writes is a region
some_region : (P : Access → Type 0) → ((access : Access) → P access → span_len access.span ≡ 0 → ⊥) → (accesses : List Access) → Any P accesses
    → Any (λ (region : Region). P region.access) (regions accesses)
some_region P filled accesses any =
    some_in_order (λ (region : Region). P region.access) (λ region holds. filled region.access holds) (numbered 0 accesses)
    (some_numbered P 0 accesses any.0 any.1 any.2 any.3 any.4)

-- ---- a cell that may be written

written_here : (p : Program) (rank : ℕ) (x : Region) (memory cells : List ℤ) (array cell : ℕ) → RegionWrites array cell x
    → start p rank x + length cells ≤ length memory
    → length cells ≡ span_len x.access.span → get_or (put_back p rank x.access cells memory) (address p rank array cell) (pos 0) ≡ get_or cells
    (cell - x.access.span.from) (pos 0)
written_here p rank x memory cells array cell writes fits len =
    let from : ℕ = start p rank x in
    let k : ℕ = cell - x.access.span.from in
    let above = writes.0.1.0 in
    let below = writes.0.1.1 in
    let place : address p rank array cell ≡ from + k =
    subst (λ a. address p rank a cell ≡ from + k) writes.0.0 (omega arith) in
    let put : put_back p rank x.access cells memory ≡ spliced from cells memory =
    ap (λ (written : Bool). if written then spliced from cells memory else memory) writes.1 in
    ap (λ (whole : List ℤ). get_or whole (address p rank array cell) (pos 0)) put
    ∙ ap (λ i. get_or (spliced from cells memory) i (pos 0)) place
    ∙ get_or-spliced_inside k from cells memory (omega arith) (omega arith)

at_saved : (p : Program) (rank array cell long : ℕ) → cell + 1 < 2 ^ 32 → (ordered : List Region) → Rises ordered → Ascends p rank long ordered
    → Any (RegionWrites array cell) ordered → (copy memory : List ℤ) → length copy ≡ cell_total ordered → length memory ≡ long
    → get_or (saved_regions p rank ordered copy memory) (address p rank array cell) (pos 0) ≡ get_or copy (place_in ordered array cell) (pos 0)
at_saved p rank array cell long low [] rises ascend any copy memory cells is_long = absurd (omega (arith, any.2))
at_saved p rank array cell long low (x ∷ xs) rises ascend any copy memory cells is_long =
    let count : ℕ = span_len x.access.span in
    let total = sum_by-cons region_len x xs in
    let places = sum_by-cons (region_before array cell) x xs in
    let front : List ℤ = take count copy in
    let put : List ℤ = put_back p rank x.access front memory in
    let len : length front ≡ count = length-take-le count copy (omega arith) in
    let rest_len : length (drop count copy) ≡ cell_total xs = omega (arith, length-drop count copy) in
    let fits = ascend.0 in
    let put_len : length put ≡ long = length-put_either (is_written x.access.mode) (start p rank x) front memory (omega arith) ∙ is_long in
    ⊎_elim
    (λ (writes : RegionWrites array cell x).
    let same = writes.0.0 in
    let above = writes.0.1.0 in
    let below = writes.0.1.1 in
    let none = later_have_none x xs array cell rises (omega arith) in
    let own = before_covered array cell x same above below in
    let place : place_in (x ∷ xs) array cell ≡ cell - x.access.span.from = omega arith in
    let low_end : address p rank array cell < start p rank x + count = subst (λ a. address p rank a cell < start p rank x + count) same (omega arith) in
    saved_keeps p rank long (address p rank array cell) xs ascend.2 (λ k d within written. let after = ascend.1 k d within in inl (omega arith))
    (drop count copy) put rest_len put_len
    ∙ written_here p rank x memory front array cell writes (omega arith) len
    ∙ get_or-take count copy (cell - x.access.span.from) (pos 0) (omega arith)
    ∙ ap (λ i. get_or copy i (pos 0)) (sym place))
    (λ (later : Any (RegionWrites array cell) xs).
    let y : Region = later.1 in
    let writes : RegionWrites array cell y = later.4 in
    let ends : end_cell x ≤ first_cell y = subst (λ (z : Region). end_cell x ≤ first_cell z) later.3 (rises.1 later.0 y later.2) in
    let same = writes.0.0 in
    let above = writes.0.1.0 in
    let over : end_cell x ≤ array * 2 ^ 32 + cell = omega arith in
    let own = ended array cell x (omega arith) rises.0 over in
    let place : count + place_in xs array cell ≡ place_in (x ∷ xs) array cell = omega arith in
    at_saved p rank array cell long low xs rises.2 ascend.2 later (drop count copy) put rest_len put_len
    ∙ get_or-drop count copy (place_in xs array cell) (pos 0)
    ∙ ap (λ i. get_or copy i (pos 0)) place)
    (either_of (RegionWrites array cell) x xs any)

length-kept : (p : Program) (task : TaskDef) (copy memory : List ℤ) → WellFormed p → IsTask p task → length copy ≡ region_cells task
    → length memory ≡ memory_len p
    → length (saved p task copy memory) ≡ memory_len p
length-kept p task copy memory well is cells long =
    length-saved p task.rank (memory_len p) (regions task.accesses.items) (regions_ascend p task well is) copy memory
    (cells ∙ sym (cell_total-regions task.accesses.items)) long

written_span : (p : Program) (task : TaskDef) (copy memory : List ℤ) (span : Span) → WellFormed p → IsTask p task → length copy ≡ region_cells task
    → length memory ≡ memory_len p → MayWrite p task span → (span_len span ≡ 0 → ⊥)
    → take (span_len span) (drop (address p task.rank span.array span.from) (saved p task copy memory))
    ≡ take (span_len span) (drop (place_among task.accesses.items span.array span.from) copy)
written_span p task copy memory span well is cells long may some =
    let accesses : List Access = task.accesses.items in
    let ordered : List Region = regions accesses in
    let rises = Rises-regions accesses (filled_low p task well is) is.apart in
    let after : List ℤ = saved p task copy memory in
    let count : ℕ = span_len span in
    let at : ℕ = address p task.rank span.array span.from in
    let place : ℕ = place_among accesses span.array span.from in
    let whole = lies_in p task.rank (record { mode = mode.In; span = span }) well is.rank may.in_array (ap not (ne_eqb (span_len span) 0 some)) in
    let ordered_bounds = may.in_array.ordered in
    let fits = declared_fits accesses span may.declared in
    let total : length copy ≡ cell_total ordered = cells ∙ sym (cell_total-regions accesses) in
    let after_len = length-kept p task copy memory well is cells long in
    let room : count ≤ length (drop at after) = omega (arith, length-drop at after, whole.inside) in
    let copy_room : count ≤ length (drop place copy) = omega (arith, length-drop place copy) in
    let len = length-take-le count (drop at after) room in
    let copy_len = length-take-le count (drop place copy) copy_room in
    let low : span.from + count < 2 ^ 32 = omega (arith, whole.inside, whole.small) in
    let more = λ (cell : ℕ) (above : span.from ≤ cell) (below : cell < span.from + count).
    more_of_regions accesses span.array cell (place-rises accesses span.array cell (may.declared cell (above, omega arith))) in
    ext_get_or (pos 0) (take count (drop at after)) (take count (drop place copy)) (len ∙ sym copy_len)
    (λ k lt.
    let within : k < count = omega arith in
    let run = run_is ordered span.array span.from count rises low more k (omega arith) in
    let begins = place_in-regions accesses span.array span.from in
    let cell_is : place_in ordered span.array (span.from + k) ≡ place + k = omega arith in
    let writes = some_region (Writes span.array (span.from + k)) (λ access has none. absurd (omega (arith, has.0.1.0, has.0.1.1))) accesses
    (may.writable (span.from + k) (omega arith, omega arith)) in
    let next : at + k ≡ address p task.rank span.array (span.from + k) = omega arith in
    get_or-take count (drop at after) k (pos 0) within
    ∙ get_or-drop at after k (pos 0)
    ∙ ap (λ i. get_or after i (pos 0)) next
    ∙ at_saved p task.rank span.array (span.from + k) (memory_len p) (omega arith) ordered rises (regions_ascend p task well is) writes copy memory total long
    ∙ ap (λ i. get_or copy i (pos 0)) cell_is
    ∙ sym (get_or-take count (drop place copy) k (pos 0) within ∙ get_or-drop place copy k (pos 0)))

pub saved_span : (p : Program) (task : TaskDef) (copy memory : List ℤ) (span : Span) → WellFormed p → IsTask p task → length copy ≡ region_cells task
    → length memory ≡ memory_len p → MayWrite p task span
    → take (span_len span) (drop (address p task.rank span.array span.from) (saved p task copy memory)) ≡ cells_of_span task span copy
saved_span p task copy memory span well is cells long may =
    ⊎_elim (λ (none : span_len span ≡ 0). subst (λ n. take n (drop (address p task.rank span.array span.from) (saved p task copy memory))
    ≡ take n (drop (place_among task.accesses.items span.array span.from) copy)) (sym none) refl)
    (λ (some : span_len span ≡ 0 → ⊥). written_span p task copy memory span well is cells long may some)
    (cases_eq (span_len span) 0)

-- ---- the other cells

misses_cell : (p : Program) (rank at : ℕ) (region : Region) → ¬ IsCellAt p rank region.access.span at → Misses p rank at region
misses_cell p rank at region other =
    ⊎_elim (λ (before : at < start p rank region). inl before)
    (λ (begun : start p rank region ≤ at).
    ⊎_elim
    (λ (inside : at < start p rank region + span_len region.access.span).
    absurd (other (region.access.span.from + (at - start p rank region), (omega arith, omega arith), omega arith)))
    (λ (behind : start p rank region + span_len region.access.span ≤ at). inr behind)
    (cases_lt at (start p rank region + span_len region.access.span)))
    (cases_lt at (start p rank region))

pub others_stay : (p : Program) (task : TaskDef) (copy memory : List ℤ) (at : ℕ) → WellFormed p → IsTask p task → length copy ≡ region_cells task
    → length memory ≡ memory_len p
    → All (λ (access : Access). is_written access.mode ≡ true → ¬ IsCellAt p task.rank access.span at) task.accesses.items
    → slice_get (saved p task copy memory) at ≡ slice_get memory at
others_stay p task copy memory at well is cells long others =
    let ordered : List Region = regions task.accesses.items in
    let after : List ℤ = saved p task copy memory in
    let len = length-kept p task copy memory well is cells long in
    let missed : All (λ (region : Region). is_written region.access.mode ≡ true → Misses p task.rank at region) ordered = λ k d within written.
    misses_cell p task.rank at (get_or ordered k d)
    (All-regions (λ (access : Access). is_written access.mode ≡ true → ¬ IsCellAt p task.rank access.span at) task.accesses.items others k d within written) in
    let same = saved_keeps p task.rank (memory_len p) at ordered (regions_ascend p task well is) missed copy memory
    (cells ∙ sym (cell_total-regions task.accesses.items)) long in
    ⊎_elim
    (λ (within : at < length memory). slice_get-get_or after at (pos 0) (omega arith) ∙ ap (λ (c : ℤ). Some c) same
    ∙ sym (slice_get-get_or memory at (pos 0) within))
    (λ (past : length memory ≤ at). slice_get_past after at (omega arith) ∙ sym (slice_get_past memory at past))
    (cases_lt at (length memory))
