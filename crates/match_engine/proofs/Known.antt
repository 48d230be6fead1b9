-- The selectors of receives become known, and stay so.
use Rattle.std.proofs.Common.{◌≡◌, ℕ, ◌+◌, ◌≤◌, ◌<◌, Bool, true, false, ◌||◌, ◌==◌, not, cond, List, [], ◌∷◌, ◌++◌, length, map, take, get_or, Option, Some}
use Rattle.std.proofs.Common.{IfSome, All, sym, refl, ap, ◌∙◌, subst, arith, inl, inr}
use Rattle.std.specs.List.{position_or_len, list_any}
use Rattle.std.proofs.lemmas.List.Folds.{position_or_len_push, list_any-append}
use Rattle.std.proofs.lemmas.List.Elements.{All-more, All-map}
use Rattle.std.proofs.lemmas.List.{take_all, get_or_append_left, length_push}
use Rattle.std.proofs.Math.Seq.{get_or-append_seam}
use Rattle.std.proofs.lemmas.Bool.{cases_lt, cond-false, ne_eqb}
use Rattle.std.proofs.lemmas.Option.{IfSome_then}
use Rattle.match_lanes.specs.declared.selector.Selector.{Selector}
use Rattle.match_lanes.specs.Selectors.{is_same, with_selector}
use Rattle.match_lanes.proofs.Selecting.{same_refl}
use Rattle.match_engine.specs.declared.slots.Call.{Call}
use Rattle.match_engine.specs.declared.slots.Slot.{Slot}
use Rattle.match_engine.specs.Routes.{known_at, IsKnown, Keeps, IsHeard, AreHeard, selector_at}

-- what some item passes has a place
found_by : {X : Type 0} (p : X → Bool) (x : X) (xs : List X) (b : Bool) → (list_any p xs ≡ true → position_or_len p xs < length xs)
    → (b || list_any p xs) ≡ true → cond (not b) (1 + position_or_len p xs) 0 < length (x ∷ xs)
found_by p x xs true rest some = omega arith
found_by p x xs false rest some = omega (arith, rest some)

found : {X : Type 0} (p : X → Bool) (xs : List X) → list_any p xs ≡ true → position_or_len p xs < length xs
found p [] some = absurd (cc)
found p (x ∷ xs) some = found_by p x xs (p x) (found p xs) some

-- a selector more leaves the others known
kept_by : (keys : List Selector) (one other : Selector) (b : Bool) → IsKnown keys other → IsKnown (cond b keys (keys ++ one ∷ [])) other
kept_by keys one other true known = known
kept_by keys one other false known =
    let place = position_or_len (is_same other) keys in
    let within : (place == length keys) ≡ false = ne_eqb place (length keys) (λ same. absurd (omega (arith, same, known))) in
    omega (
      arith,
      known,
      length_push keys one,
      position_or_len_push (is_same other) keys one
          ∙ cond-false (place == length keys) (length keys + cond (is_same other one) 0 1) place within,
    )

pub keeps_with : (keys : List Selector) (one : Selector) → Keeps keys (with_selector keys one)
keeps_with keys one = λ other known. kept_by keys one other (list_any (is_same one) keys) known

-- and is known itself
added_by : (keys : List Selector) (one : Selector) (b : Bool) → list_any (is_same one) keys ≡ b → IsKnown (cond b keys (keys ++ one ∷ [])) one
added_by keys one true some = found (is_same one) keys some
added_by keys one false none =
    found (is_same one) (keys ++ one ∷ []) (list_any-append (is_same one) keys (one ∷ [])
    ∙ ap (λ (b : Bool). b || (is_same one one || false)) none ∙ ap (λ (b : Bool). b || false) (same_refl one))

pub known_with : (keys : List Selector) (one : Selector) → IsKnown (with_selector keys one) one
known_with keys one = added_by keys one (list_any (is_same one) keys) refl

-- a call is heard where its selector was added
pub heard_with : (rank : ℕ) (old new : List Selector) (call : Call) (selector : Selector) → Some selector ≡ selector_at rank call
    → new ≡ with_selector old selector → IsHeard rank new call
heard_with rank old new call selector at is =
    subst (λ (o : Option Selector). IfSome o (IsKnown new)) at (subst (λ (keys : List Selector). IsKnown keys selector) (sym is) (known_with old selector))

pub keeps_new : (old new : List Selector) (selector : Selector) → new ≡ with_selector old selector → Keeps old new
keeps_new old new selector is = subst (Keeps old) (sym is) (keeps_with old selector)

-- what is heard stays heard
pub heard_still : (rank : ℕ) (old new : List Selector) (call : Call) → Keeps old new → IsHeard rank old call → IsHeard rank new call
heard_still rank old new call keeps heard = IfSome_then (selector_at rank call) heard (λ selector known. keeps selector known)

pub all_heard_still : (rank : ℕ) (old new : List Selector) (row : List Slot) → Keeps old new → All (λ (slot : Slot). IsHeard rank old slot.call) row
    → All (λ (slot : Slot). IsHeard rank new slot.call) row
all_heard_still rank old new row keeps heard = λ k d below. heard_still rank old new (get_or row k d).call keeps (heard k d below)

-- no slot so far
pub none_heard : (rank : ℕ) (keys : List Selector) (row : List Slot) → All (λ (slot : Slot). IsHeard rank keys slot.call) (take 0 row) × Keeps keys keys
none_heard rank keys row = (λ k d below. absurd (omega (arith, below)), λ selector known. known)

-- one slot more
pub one_slot_more : (rank : ℕ) (start old new : List Selector) (row : List Slot) (i : ℕ) (d : Slot) → i < length row
    → All (λ (slot : Slot). IsHeard rank old slot.call) (take i row) × Keeps start old → IsHeard rank new (get_or row i d).call → Keeps old new
    → All (λ (slot : Slot). IsHeard rank new slot.call) (take (i + 1) row) × Keeps start new
one_slot_more rank start old new row i d below so_far heard keeps = (
  All-more (λ (s : Slot). IsHeard rank new s.call) row i d below (all_heard_still rank old new (take i row) keeps so_far.0) heard,
  λ selector known. keeps selector (so_far.1 selector known),
)

-- all slots
pub row_heard : (rank : ℕ) (keys : List Selector) (row : List Slot) (i : ℕ) → length row ≤ i → All (λ (slot : Slot). IsHeard rank keys slot.call) (take i row)
    → All (λ (slot : Slot). IsHeard rank keys slot.call) row
row_heard rank keys row i past heard = subst (All (λ (slot : Slot). IsHeard rank keys slot.call)) (take_all i row past) heard

-- one row more
pub one_row_more : {R : Type 0} (v : R → List Slot) (rank : ℕ) (old new : List Selector) (rows : List R) (i : ℕ) (row : R) (seen : List Slot)
    → i < length rows
    → seen ≡ v (get_or rows i row) → All (λ row. All (λ (slot : Slot). IsHeard rank old slot.call) (v row)) (take i rows)
    → All (λ (slot : Slot). IsHeard rank new slot.call) seen → Keeps old new
    → All (λ row. All (λ (slot : Slot). IsHeard rank new slot.call) (v row)) (take (i + 1) rows)
one_row_more v rank old new rows i row seen below is so_far heard keeps =
    All-more (λ row. All (λ (slot : Slot). IsHeard rank new slot.call) (v row)) rows i row below
    (λ k d within. all_heard_still rank old new (v (get_or (take i rows) k d)) keeps (so_far k d within))
    (subst (All (λ (slot : Slot). IsHeard rank new slot.call)) is heard)

-- all rows
pub rows_heard : {R : Type 0} (v : R → List Slot) (rank : ℕ) (keys : List Selector) (rows : List R) (i : ℕ) → length rows ≤ i
    → All (λ row. All (λ (slot : Slot). IsHeard rank keys slot.call) (v row)) (take i rows) → AreHeard rank keys (map v rows)
rows_heard v rank keys rows i past heard =
    All-map (All (λ (slot : Slot). IsHeard rank keys slot.call)) v rows
    (subst (All (λ row. All (λ (slot : Slot). IsHeard rank keys slot.call) (v row))) (take_all i rows past) heard)

-- one rank more
pub one_rank_heard : (keys new : List (List Selector)) (one : List Selector) (rank : ℕ) (slots : List (List Slot)) → new ≡ keys ++ one ∷ []
    → AreHeard rank one slots → (length keys ≡ rank) × ((r : ℕ) → r < rank → AreHeard r (known_at keys r) slots)
    → (length new ≡ rank + 1) × ((r : ℕ) → r < rank + 1 → AreHeard r (known_at new r) slots)
one_rank_heard keys new one rank slots is heard so_far = (
  ap length is ∙ length_push keys one ∙ ap (λ (n : ℕ). n + 1) so_far.0,
  λ r below. subst (λ (all : List (List Selector)). AreHeard r (known_at all r) slots) (sym is)
      (elim (cases_lt r rank) [
        | inl before ↦ subst (λ (k : List Selector). AreHeard r k slots) (sym (get_or_append_left keys (one ∷ []) [] r (omega (arith, so_far.0, before))))
            (so_far.1 r before)
        | inr past ↦
            let last : r ≡ length keys = omega (arith, so_far.0, past, below) in
            subst (λ (n : ℕ). AreHeard n (known_at (keys ++ one ∷ []) n) slots) (sym last)
            (subst (λ (k : List Selector). AreHeard (length keys) k slots) (sym (get_or-append_seam keys one [] []))
            (subst (λ (n : ℕ). AreHeard n one slots) (sym so_far.0) heard))
      ]),
)
