-- The places of tickets, after one of them was written.
use Rattle.std.proofs.Common.{◌≡◌, ℕ, zero, suc, ◌<◌, Bool, true, false, ◌&&◌, ◌||◌, ◌==◌, cond, List, [], ◌∷◌, ◌++◌, length, map, replicate, slice_get}
use Rattle.std.proofs.Common.{slice_set, get_or}
use Rattle.std.proofs.Common.{Option, Some, None, option_map, option_and_then, unwrap_or, IsSome, is_some, ◌⊎◌, inl, inr, refl, sym, ap, ◌∙◌, subst, arith}
use Rattle.std.specs.List.{list_any}
use Rattle.std.proofs.lemmas.List.{map-set, get_or-map, length-map}
use Rattle.std.proofs.lemmas.Option.{get_or_from_slice_get, slice_get_within}
use Rattle.std.proofs.lemmas.Bool.{cases_eq, eq-eqb, ne_eqb, false≢true, cases_Bool, or_cases, or_left}
use Rattle.rt_base.specs.declared.data.ReqNo.{ReqNo}
use Rattle.rt_base.specs.Matching.{same_request}
use Rattle.rt_base.proofs.SameRequest.{same_request-comm, one_request}
use Rattle.task_machine.specs.Owed.{IsOneOf}
use Rattle.task_machine.proofs.Lists.{slice_get-set_same, slice_get-set_other}
use Rattle.tidy_runs.proofs.Bodies.{in_either, in_left, in_right}
use Rattle.meet_hall.specs.Holders.{HolderIs, TicketIs, ticket_from}
use Rattle.shared_tasks.specs.Owing.{place_in, lying_in, with_ticket, HasIssued, HasOpened, issuing_all}

-- a place in a row, where there is one
abbrev in_row : ℕ → Option (List (Option TicketIs)) → Option (Option TicketIs)
in_row n o = option_and_then (λ (row : List (Option TicketIs)). slice_get row n) o

within_row : (n : ℕ) (row : List (Option TicketIs)) (o : Option (Option TicketIs)) → slice_get row n ≡ o → is_some o ≡ true → n < length row
within_row n row None here has = absurd (false≢true has)
within_row n row (Some lies) here has = slice_get_within row n lies here

-- a place has its row
has_row : (n : ℕ) (o : Option (List (Option TicketIs))) → is_some (in_row n o) ≡ true → (row : List (Option TicketIs)) × (o ≡ Some row) × (n < length row)
has_row n None has = absurd (false≢true has)
has_row n (Some row) has = (row, refl, within_row n row (slice_get row n) refl has)

in_written_row : (row : List (Option TicketIs)) (n m : ℕ) (lies : Option TicketIs) → n < length row → (n ≡ m) ⊎ (n ≡ m → ⊥)
    → slice_get (slice_set row n lies) m ≡ cond (n == m) (Some lies) (slice_get row m)
in_written_row row n m lies within (inl same) =
    ap (λ (k : ℕ). slice_get (slice_set row n lies) k) (sym same) ∙ slice_get-set_same row n lies within
    ∙ ap (λ (b : Bool). cond b (Some lies) (slice_get row m)) (sym (eq-eqb n m same))
in_written_row row n m lies within (inr other) =
    slice_get-set_other row n m lies (λ e. other (sym e)) ∙ ap (λ (b : Bool). cond b (Some lies) (slice_get row m)) (sym (ne_eqb n m other))

read_at : (rows : List (List (Option TicketIs))) (req q : ReqNo) (lies : Option TicketIs) (row : List (Option TicketIs))
    → slice_get rows req.task.0 ≡ Some row → req.nth < length row → (req.task.0 ≡ q.task.0) ⊎ (req.task.0 ≡ q.task.0 → ⊥)
    → in_row q.nth (slice_get (slice_set rows req.task.0 (slice_set row req.nth lies)) q.task.0) ≡ cond (same_request req q) (Some lies) (place_in rows q)
read_at rows req q lies row here within (inl same) =
    let new = slice_set row req.nth lies in
    let own : slice_get row q.nth ≡ place_in rows q = sym (ap (in_row q.nth) (ap (slice_get rows) (sym same) ∙ here)) in
    ap (λ (t : ℕ). in_row q.nth (slice_get (slice_set rows req.task.0 new) t)) (sym same)
    ∙ ap (in_row q.nth) (slice_get-set_same rows req.task.0 new (slice_get_within rows req.task.0 row here))
    ∙ in_written_row row req.nth q.nth lies within (cases_eq req.nth q.nth)
    ∙ ap (λ (o : Option (Option TicketIs)). cond (req.nth == q.nth) (Some lies) o) own
    ∙ ap (λ (b : Bool). cond (b && (req.nth == q.nth)) (Some lies) (place_in rows q)) (sym (eq-eqb req.task.0 q.task.0 same))
read_at rows req q lies row here within (inr other) =
    ap (in_row q.nth) (slice_get-set_other rows req.task.0 q.task.0 (slice_set row req.nth lies) (λ e. other (sym e)))
    ∙ ap (λ (b : Bool). cond (b && (req.nth == q.nth)) (Some lies) (place_in rows q)) (sym (ne_eqb req.task.0 q.task.0 other))

-- what was put lies there, and what lay elsewhere lies
pub place_in-with : (rows : List (List (Option TicketIs))) (req q : ReqNo) (lies : Option TicketIs) → IsSome (place_in rows req)
    → place_in (with_ticket rows req lies) q ≡ cond (same_request req q) (Some lies) (place_in rows q)
place_in-with rows req q lies has =
    let found = has_row req.nth (slice_get rows req.task.0) has in
    ap (λ (row : List (Option TicketIs)). in_row q.nth (slice_get (slice_set rows req.task.0 (slice_set row req.nth lies)) q.task.0))
    (get_or_from_slice_get rows req.task.0 found.0 [] found.1)
    ∙ read_at rows req q lies found.0 found.1 found.2 (cases_eq req.task.0 q.task.0)

some_either : (first : Bool) (lies : Option TicketIs) (o : Option (Option TicketIs)) → IsSome o → IsSome (cond first (Some lies) o)
some_either true lies o has = refl
some_either false lies o has = has

-- what had a place has it
pub places_stay : (rows : List (List (Option TicketIs))) (req q : ReqNo) (lies : Option TicketIs) → IsSome (place_in rows req) → IsSome (place_in rows q)
    → IsSome (place_in (with_ticket rows req lies) q)
places_stay rows req q lies has had = subst IsSome (sym (place_in-with rows req q lies has)) (some_either (same_request req q) lies (place_in rows q) had)

-- the ticket of the request itself, and of another one
pub lying-own : (rows : List (List (Option TicketIs))) (req q : ReqNo) (lies : Option TicketIs) → IsSome (place_in rows req) → same_request q req ≡ true
    → lying_in (with_ticket rows req lies) q ≡ lies
lying-own rows req q lies has same =
    ap (λ (o : Option (Option TicketIs)). unwrap_or o None) (place_in-with rows req q lies has
    ∙ ap (λ (b : Bool). cond b (Some lies) (place_in rows q)) (same_request-comm req q ∙ same))

pub lying-other : (rows : List (List (Option TicketIs))) (req q : ReqNo) (lies : Option TicketIs) → IsSome (place_in rows req) → same_request q req ≡ false
    → lying_in (with_ticket rows req lies) q ≡ lying_in rows q
lying-other rows req q lies has other =
    ap (λ (o : Option (Option TicketIs)). unwrap_or o None) (place_in-with rows req q lies has
    ∙ ap (λ (b : Bool). cond b (Some lies) (place_in rows q)) (same_request-comm req q ∙ other))

-- the rows of a type whose view writes one place
pub written_in : {V : Type 0} (view : V → List (Option TicketIs)) (rows : List V) (new row : V) (places : List (List (Option TicketIs))) (req : ReqNo)
    (lies : Option TicketIs) → map view rows ≡ places → IsSome (place_in places req) → row ≡ get_or rows req.task.0 row
    → view new ≡ slice_set (view row) req.nth lies → map view (slice_set rows req.task.0 new) ≡ with_ticket places req lies
written_in view rows new row places req lies same has is written =
    let found = has_row req.nth (slice_get places req.task.0) has in
    let below : req.task.0 < length rows = omega (
      arith,
      length-map rows view,
      ap (λ (all : List (List (Option TicketIs))). length all) same,
      slice_get_within places req.task.0 found.0 found.1,
    ) in
    let read : get_or (map view rows) req.task.0 [] ≡ view row = get_or-map view rows req.task.0 row [] below ∙ ap view (sym is) in
    map-set view rows req.task.0 new
    ∙ ap (λ (changed : List (Option TicketIs)). slice_set (map view rows) req.task.0 changed)
    (written ∙ ap (λ (old : List (Option TicketIs)). slice_set old req.nth lies) (sym read))
    ∙ ap (λ (all : List (List (Option TicketIs))). slice_set all req.task.0 (slice_set (get_or all req.task.0 []) req.nth lies)) same

-- ---- what a holder opens, one request after the other

pub none_opened : (holder : HolderIs) (rows : List (List (Option TicketIs))) → HasOpened holder [] rows rows
none_opened holder rows = record { opened = λ q has. absurd (false≢true has); others = λ q none. refl }

not_both : (q : ReqNo) (reqs : List ReqNo) (req : ReqNo) → (same_request q req ≡ false) → IsOneOf q (reqs ++ req ∷ []) → IsOneOf q reqs
not_both q reqs req other has = elim (in_either q reqs (req ∷ []) has) [
  | inl before ↦ before
  | inr last_ ↦ elim (or_cases (same_request q req) false last_) [
    | inl same ↦ absurd (false≢true (sym other ∙ same))
    | inr none ↦ absurd (false≢true none)
  ]
]

in_right_one : (q : ReqNo) (reqs : List ReqNo) (req : ReqNo) → same_request q req ≡ true → IsOneOf q (reqs ++ req ∷ [])
in_right_one q reqs req same = in_right q reqs (req ∷ []) (or_left (same_request q req) false same)

own_opened : (holder : HolderIs) (reqs : List ReqNo) (req : ReqNo) (mid new : List (List (Option TicketIs))) (q : ReqNo) → IsSome (place_in mid req)
    → HasIssued mid new (issuing_all holder reqs) req → same_request q req ≡ true
    → (seat : ℕ) × (lying_in new q ≡ Some (ticket_from holder q.nth seat))
own_opened holder reqs req mid new q has issued same = (
  issued.0,
  ap (λ (rows : List (List (Option TicketIs))). lying_in rows q) issued.1
      ∙ lying-own mid req q (Some (ticket_from (issuing_all holder reqs) req.nth issued.0)) has same
      ∙ ap (λ (r : ReqNo). Some (ticket_from holder r.nth issued.0)) (sym (one_request q req same)),
)

pub one_opened : (holder : HolderIs) (reqs : List ReqNo) (req : ReqNo) (old mid new : List (List (Option TicketIs))) → IsSome (place_in mid req)
    → HasOpened holder reqs old mid → HasIssued mid new (issuing_all holder reqs) req → HasOpened holder (reqs ++ req ∷ []) old new
one_opened holder reqs req old mid new has before issued =
    let lies : Option TicketIs = Some (ticket_from (issuing_all holder reqs) req.nth issued.0) in
    record {
      opened = λ q is_in. elim (cases_Bool (same_request q req)) [
        | inl same ↦ own_opened holder reqs req mid new q has issued same
        | inr other ↦
            let was = before.opened q (not_both q reqs req other is_in) in
            (was.0, ap (λ (rows : List (List (Option TicketIs))). lying_in rows q) issued.1 ∙ lying-other mid req q lies has other ∙ was.1)
      ];
      others = λ q none. elim (cases_Bool (same_request q req)) [
        | inl same ↦ absurd (none (in_right_one q reqs req same))
        | inr other ↦ ap (λ (rows : List (List (Option TicketIs))). lying_in rows q) issued.1 ∙ lying-other mid req q lies has other ∙ before.others q
            (λ is_in. none (in_left q reqs (req ∷ []) is_in))
      ];
    }
