-- What a request has, once another or the same got further.
use Rattle.std.proofs.Common.{◌≡◌, ℕ, ◌+◌, ◌≤◌, ◌<◌, Bool, true, false, cond, List, [], length, get_or, set, count_by, slice_get, Option, Some, None}
use Rattle.std.proofs.Common.{option_and_then, IsSome, is_some, sym, refl, ap, ◌∙◌, arith, ◌⊎◌, inl, inr, ◌==◌, ◌&&◌}
use Rattle.std.proofs.lemmas.List.{get_or-set_same, get_or-set_other, length-set}
use Rattle.std.proofs.lemmas.List.Sums.{sum_by-set}
use Rattle.std.proofs.lemmas.Bool.{cases_lt, cases_eq, cases_Bool, eq-eqb, ne_eqb, eqb-true, cond-true, cond-false, false≢true}
use Rattle.std.proofs.lemmas.Option.{option_and_then_some, slice_get_within, slice_get-get_or, get_or_from_slice_get, slice_get_past}
use Rattle.rt_base.specs.declared.data.ReqNo.{ReqNo}
use Rattle.rt_base.specs.Matching.{same_request}
use Rattle.match_engine.specs.declared.slots.Slot.{Slot}
use Rattle.match_engine.specs.declared.slots.Progress.{Progress}
use Rattle.match_engine.specs.Slots.{slots_that, marked, marked_by, slot_at}

elsewhere : {X : Type 0} (xs : List X) (i j : ℕ) (y : X) → (i ≡ j → ⊥) → (j < length xs) ⊎ (length xs ≤ j) → slice_get (set xs i y) j ≡ slice_get xs j
elsewhere xs i j y other (inl below) =
    slice_get-get_or (set xs i y) j y (omega (arith, length-set xs i y, below)) ∙ ap Some (get_or-set_other xs i j y y (λ e. other (sym e)))
    ∙ sym (slice_get-get_or xs j y below)
elsewhere xs i j y other (inr past) = slice_get_past (set xs i y) j (omega (arith, length-set xs i y, past)) ∙ sym (slice_get_past xs j past)

-- a write to a list is read where it was written, and nowhere else
pub slice_get-set : {X : Type 0} (xs : List X) (i j : ℕ) (y : X) → i < length xs → slice_get (set xs i y) j ≡ cond (i == j) (Some y) (slice_get xs j)
slice_get-set xs i j y below =
    elim (cases_eq i j) [
      | inl same ↦ ap (λ (n : ℕ). slice_get (set xs i y) n) (sym same)
          ∙ (slice_get-get_or (set xs i y) i y (omega (arith, length-set xs i y, below)) ∙ ap Some (get_or-set_same xs i y y below))
          ∙ sym (cond-true (i == j) (Some y) (slice_get xs j) (eq-eqb i j same))
      | inr other ↦ elsewhere xs i j y other (cases_lt j (length xs)) ∙ sym (cond-false (i == j) (Some y) (slice_get xs j) (ne_eqb i j other))
    ]

-- the row of a request's task, and the request's slot in it
pub found_in_row : (slots : List (List Slot)) (req : ReqNo) (slot : Slot) → slot_at slots req ≡ Some slot
    → (row : List Slot) × (slice_get slots req.task.0 ≡ Some row) × (slice_get row req.nth ≡ Some slot)
found_in_row slots req slot taken =
    option_and_then_some (λ (row : List Slot). slice_get row req.nth) (slice_get slots req.task.0) slot taken (λ row is found. (row, is, found))

written_row : (slots : List (List Slot)) (req q : ReqNo) (row : List Slot) (new : Slot) → slice_get slots req.task.0 ≡ Some row → req.nth < length row
    → ((req.task.0 == q.task.0) ≡ true) ⊎ ((req.task.0 == q.task.0) ≡ false)
    → option_and_then (λ (r : List Slot). slice_get r q.nth) (cond (req.task.0 == q.task.0) (Some (set row req.nth new)) (slice_get slots q.task.0))
    ≡ cond (same_request req q) (Some new) (slot_at slots q)
written_row slots req q row new here within (inl same) =
    ap (λ (b : Bool). option_and_then (λ (r : List Slot). slice_get r q.nth) (cond b (Some (set row req.nth new)) (slice_get slots q.task.0))) same
    ∙ slice_get-set row req.nth q.nth new within
    ∙ ap (λ (o : Option Slot). cond (req.nth == q.nth) (Some new) o)
    (ap (λ (o : Option (List Slot)). option_and_then (λ (r : List Slot). slice_get r q.nth) o)
    (sym here ∙ ap (λ (t : ℕ). slice_get slots t) (eqb-true req.task.0 q.task.0 same)))
    ∙ ap (λ (b : Bool). cond (b && (req.nth == q.nth)) (Some new) (slot_at slots q)) (sym same)
written_row slots req q row new here within (inr other) =
    ap (λ (b : Bool). option_and_then (λ (r : List Slot). slice_get r q.nth) (cond b (Some (set row req.nth new)) (slice_get slots q.task.0))) other
    ∙ ap (λ (b : Bool). cond (b && (req.nth == q.nth)) (Some new) (slot_at slots q)) (sym other)

-- the request itself has got further, and every other is where it was
pub slot_at-written : (slots : List (List Slot)) (req q : ReqNo) (slot new : Slot) → slot_at slots req ≡ Some slot
    → slot_at (set slots req.task.0 (set (get_or slots req.task.0 []) req.nth new)) q ≡ cond (same_request req q) (Some new) (slot_at slots q)
slot_at-written slots req q slot new taken =
    let found = found_in_row slots req slot taken in
    let row = found.0 in
    let here : get_or slots req.task.0 [] ≡ row = get_or_from_slice_get slots req.task.0 row [] found.1 in
    let below : req.task.0 < length slots = slice_get_within slots req.task.0 row found.1 in
    let within : req.nth < length row = slice_get_within row req.nth slot found.2 in
    ap (λ (r : List Slot). slot_at (set slots req.task.0 (set r req.nth new)) q) here
    ∙ ap (λ (o : Option (List Slot)). option_and_then (λ (r : List Slot). slice_get r q.nth) o)
    (slice_get-set slots req.task.0 q.task.0 (set row req.nth new) below)
    ∙ written_row slots req q row new found.1 within (cases_Bool (req.task.0 == q.task.0))

-- this slot, with other progress
abbrev pub got_to : Progress → Slot → Slot
got_to progress slot = record slot { progress = progress }

pub slot_at-marked : (slots : List (List Slot)) (req q : ReqNo) (slot : Slot) (progress : Progress) → slot_at slots req ≡ Some slot
    → slot_at (marked slots req progress) q ≡ cond (same_request req q) (Some (got_to progress slot)) (slot_at slots q)
slot_at-marked slots req q slot progress taken =
    ap (λ (o : Option Slot). slot_at (marked_by slots req progress o) q) taken ∙ slot_at-written slots req q slot (got_to progress slot) taken

kept : (slots : List (List Slot)) (req q : ReqNo) (progress : Progress) (o : Option Slot) → slot_at slots req ≡ o → IsSome o → IsSome (slot_at slots q)
    → (same_request req q ≡ true) ⊎ (same_request req q ≡ false) → IsSome (slot_at (marked slots req progress) q)
kept slots req q progress None is here there cases = absurd (false≢true here)
kept slots req q progress (Some slot) is here there (inl same) =
    ap is_some (slot_at-marked slots req q slot progress is ∙ cond-true (same_request req q) (Some (got_to progress slot)) (slot_at slots q) same)
kept slots req q progress (Some slot) is here there (inr other) =
    ap is_some (slot_at-marked slots req q slot progress is ∙ cond-false (same_request req q) (Some (got_to progress slot)) (slot_at slots q) other) ∙ there

-- who has a slot keeps one
pub keeps_slot : (slots : List (List Slot)) (req q : ReqNo) (progress : Progress) → IsSome (slot_at slots req) → IsSome (slot_at slots q)
    → IsSome (slot_at (marked slots req progress) q)
keeps_slot slots req q progress here there = kept slots req q progress (slot_at slots req) refl here there (cases_Bool (same_request req q))

-- one slot more or fewer passes a test
pub slots_that-marked : (test : Slot → Bool) (slots : List (List Slot)) (req : ReqNo) (slot : Slot) (progress : Progress) → slot_at slots req ≡ Some slot
    → slots_that test (marked slots req progress) + cond (test slot) 1 0 ≡ slots_that test slots + cond (test (got_to progress slot)) 1 0
slots_that-marked test slots req slot progress taken =
    let found = found_in_row slots req slot taken in
    let row = found.0 in
    let new = got_to progress slot in
    let here : get_or slots req.task.0 [] ≡ row = get_or_from_slice_get slots req.task.0 row [] found.1 in
    let below : req.task.0 < length slots = slice_get_within slots req.task.0 row found.1 in
    let within : req.nth < length row = slice_get_within row req.nth slot found.2 in
    let mark : marked slots req progress ≡ set slots req.task.0 (set row req.nth new) =
    ap (λ (o : Option Slot). marked_by slots req progress o) taken ∙ ap (λ (r : List Slot). set slots req.task.0 (set r req.nth new)) here in
    let inner = sum_by-set (λ s. cond (test s) 1 0) row req.nth new slot within in
    let there : get_or row req.nth slot ≡ slot = get_or_from_slice_get row req.nth slot slot found.2 in
    let outer = sum_by-set (count_by test) slots req.task.0 (set row req.nth new) [] below in
    omega (arith, ap (slots_that test) mark, inner, outer, ap (λ (s : Slot). cond {A = ℕ} (test s) 1 0) there, ap (count_by test) here)
