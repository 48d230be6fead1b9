-- Receives in their lanes: what taking and adding one make of them, and the first that accepts a message.
use Rattle.std.proofs.Common.{◌≡◌, ℕ, ◌+◌, ◌-◌, ◌<◌, List, [], ◌∷◌, ◌++◌, length, get_or, set, map, position, Option, Some, None, refl, sym, ap, ◌∙◌, arith}
use Rattle.std.proofs.Common.{inl, inr}
use Rattle.std.proofs.lemmas.Bool.{cases_Bool, cases_eq, both_ways}
use Rattle.std.proofs.lemmas.List.{get_or-map, map-set}
use Rattle.rt_base.specs.Matching.{Message, Receive, is_match}
use Rattle.match_lanes.specs.declared.selector.Selector.{Selector}
use Rattle.match_lanes.specs.declared.doors.Doors.{Doors}
use Rattle.match_lanes.specs.Hung.{Hung, is_lane}
use Rattle.match_lanes.specs.Links.{is_on}
use Rattle.match_lanes.specs.Selectors.{doors_of, IsItsLane}
use Rattle.match_lanes.specs.Waiting.{passes}
use Rattle.match_lanes.specs.Hanging.{AreWishes, wish_lane, is_any_lane}
use Rattle.match_lanes.proofs.Places.{still_off, seen_more, pushed_known}
use Rattle.match_lanes.proofs.Finding.{position_by}
use Rattle.match_lanes.proofs.Selecting.{wish_agrees}

-- the first place of a message's four lanes is that of the oldest receive that accepts it
pub wishes_found : (keys : List Selector) (items : List (Option Receive)) (lanes : Hung) (room : ℕ) (m : Message) (doors : Doors)
    → AreWishes keys items lanes room → doors ≡ doors_of keys m
    → position (is_any_lane doors) lanes.lanes ≡ position (passes (λ wish. is_match wish m)) items
wishes_found keys items lanes room m doors are is =
    ap (λ (d : Doors). position (is_any_lane d) lanes.lanes) is
    ∙ ap (λ (hung : List (Option ℕ)). position (is_any_lane (doors_of keys m)) hung) are.hang
    ∙ position_by (is_any_lane (doors_of keys m)) (wish_lane keys) (passes (λ wish. is_match wish m)) items None
    (λ k within. wish_agrees keys m (get_or items k None) (λ l on. are.known l k
    (ap (λ (hung : List (Option ℕ)). is_on l hung k) are.hang ∙ ap (is_lane l) (get_or-map (wish_lane keys) items k None None within) ∙ on)))

-- a receive is taken
pub wish_taken : (keys : List Selector) (items : List (Option Receive)) (old new : Hung) (room place : ℕ) → AreWishes keys items old room
    → new.lanes ≡ set old.lanes place None → new.count ≡ old.count → new.room ≡ old.room → AreWishes keys (set items place None) new room
wish_taken keys items old new room place are lanes count left = record {
  hang = lanes ∙ ap (λ (hung : List (Option ℕ)). set hung place None) are.hang ∙ sym (map-set (wish_lane keys) items place None);
  known = λ l q on. elim (cases_Bool (is_on l old.lanes q)) [
    | inl was ↦ are.known l q was
    | inr off ↦ absurd (both_ways (is_on l (set old.lanes place None) q) (still_off l old.lanes place q off)
        (ap (λ (hung : List (Option ℕ)). is_on l hung q) (sym lanes) ∙ on))
  ];
  count = count ∙ are.count;
  fits = omega (arith, left, are.fits);
}

-- a receive is added
pub wish_added : (keys : List Selector) (items : List (Option Receive)) (old new : Hung) (room : ℕ) (wish : Receive) (lane : ℕ)
    → AreWishes keys items old room → 0 < room → IsItsLane keys wish lane
    → new.lanes ≡ old.lanes ++ Some lane ∷ [] → new.count ≡ old.count → new.room + 1 ≡ old.room
    → AreWishes keys (items ++ Some wish ∷ []) new (room - 1)
wish_added keys items old new room wish lane are more its lanes count left = record {
  hang = lanes ∙ ap (λ (hung : List (Option ℕ)). hung ++ Some lane ∷ []) are.hang
      ∙ sym (seen_more (wish_lane keys) (items ++ Some wish ∷ []) items (Some wish) (map (wish_lane keys) items) (Some lane) refl refl its.is);
  known = λ l q on. pushed_known old.lanes l lane q (length keys) its.known (are.known l q)
      (ap (λ (hung : List (Option ℕ)). is_on l hung q) (sym lanes) ∙ on) (cases_eq l lane);
  count = count ∙ are.count;
  fits = omega (arith, left, are.fits);
}
