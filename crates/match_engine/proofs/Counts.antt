-- Counts of slots.
use Rattle.std.proofs.Common.{◌≡◌, ℕ, ◌+◌, ◌≤◌, ◌<◌, Bool, List, [], ◌∷◌, length, map, take, get_or, set, sum_by, count_by, slice_get, Option, Some, sym}
use Rattle.std.proofs.Common.{refl, ap, ◌∙◌, arith}
use Rattle.std.proofs.lemmas.List.{map-set, get_or-map, length-map, take_all}
use Rattle.std.proofs.lemmas.Simd.{map-map}
use Rattle.std.proofs.lemmas.Option.{option_and_then_some, slice_get_within}
use Rattle.std.proofs.lemmas.List.Sums.{sum_by-cons, sum_by_more_le_part, count_by-le-length}
use Rattle.match_engine.specs.declared.slots.Slot.{Slot}
use Rattle.rt_base.specs.declared.data.ReqNo.{ReqNo}
use Rattle.match_engine.specs.declared.slots.Progress.{Progress}
use Rattle.match_engine.specs.Slots.{marked, marked_by, slot_at}

-- a sum over a list's images
pub sum_by-map : {X Y : Type 0} (f : Y → ℕ) (v : X → Y) (xs : List X) → sum_by f (map v xs) ≡ sum_by (λ x. f (v x)) xs
sum_by-map f v [] = refl
sum_by-map f v (x ∷ xs) = sum_by-cons f (v x) (map v xs) ∙ ap (λ (n : ℕ). f (v x) + n) (sum_by-map f v xs) ∙ sym (sum_by-cons (λ y. f (v y)) x xs)

-- what a loop over all rows made of them
pub made_of_rows : {R X Y : Type 0} (f : X → Y) (v : R → X) (rows : List R) (i : ℕ) (made : List Y) → length rows ≤ i
    → made ≡ map (λ row. f (v row)) (take i rows) → made ≡ map f (map v rows)
made_of_rows f v rows i made past is = is ∙ ap (map (λ row. f (v row))) (take_all i rows past) ∙ sym (map-map f v rows)

-- what is counted in the rows so far and in the next is no more than all rows have
pub counts_within : {R : Type 0} (test : Slot → Bool) (v : R → List Slot) (rows : List R) (i : ℕ) (d : R) → i < length rows
    → sum_by (λ row. count_by test (v row)) (take i rows) + count_by test (v (get_or rows i d)) ≤ sum_by length (map v rows)
counts_within test v rows i d below =
    omega (
      arith,
      sum_by-map length v rows,
      count_by-le-length test (v (get_or rows i d)),
      sum_by_more_le_part (λ row. count_by test (v row)) (λ row. length (v row)) rows i d below (λ row. count_by-le-length test (v row)),
    )

-- a request with a slot is one of a task with a row
pub row_within : (slots : List (List Slot)) (req : ReqNo) (slot : Slot) → slot_at slots req ≡ Some slot → req.task.0 < length slots
row_within slots req slot taken =
    option_and_then_some (λ (row : List Slot). slice_get row req.nth) (slice_get slots req.task.0) slot taken
    (λ row is found. slice_get_within slots req.task.0 row is)

-- a slot is written in a row of its own
pub marked_in : {R : Type 0} (v : R → List Slot) (rows : List R) (there here : R) (slots : List (List Slot)) (req : ReqNo) (slot : Slot) (progress : Progress)
    → map v rows ≡ slots → slot_at slots req ≡ Some slot → here ≡ get_or rows req.task.0 here
    → v there ≡ set (v here) req.nth (record slot { progress = progress })
    → map v (set rows req.task.0 there) ≡ marked slots req progress
marked_in v rows there here slots req slot progress same taken here_is there_is =
    let below : req.task.0 < length rows = omega (
      arith,
      length-map rows v,
      ap (λ (all : List (List Slot)). length all) same,
      row_within slots req slot taken,
    ) in
    let write : List Slot → List Slot = λ row. set row req.nth (record slot { progress = progress }) in
    let found : get_or (map v rows) req.task.0 [] ≡ v here = get_or-map v rows req.task.0 here [] below ∙ ap v (sym here_is) in
    map-set v rows req.task.0 there
    ∙ ap (λ (row : List Slot). set (map v rows) req.task.0 row) (there_is ∙ ap write (sym found))
    ∙ ap (λ (all : List (List Slot)). set all req.task.0 (write (get_or all req.task.0 []))) same
    ∙ ap (λ (o : Option Slot). marked_by slots req progress o) (sym taken)
