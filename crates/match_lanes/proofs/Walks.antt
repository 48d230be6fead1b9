-- From place to place along a lane.
use Rattle.std.proofs.Common.{◌≡◌, ℕ, zero, suc, ◌≤◌, ◌<◌, Bool, true, false, List, [], ◌∷◌, length, get_or, map, position, Option, Some, None, IfSome}
use Rattle.std.proofs.Common.{IfNone, refl, sym, ap, ◌∙◌, arith, inl, inr, subst}
use Rattle.std.proofs.lemmas.Bool.{cases_eq, cases_lt, both_ways, cond-true, cond-false, eq-eqb}
use Rattle.std.proofs.lemmas.List.{get_or-map, length-map}
use Rattle.match_lanes.specs.declared.lanes.Hook.{Hook}
use Rattle.match_lanes.specs.declared.lanes.Ends.{Ends}
use Rattle.match_lanes.specs.Hung.{is_lane}
use Rattle.match_lanes.specs.Links.{is_on, lane_of, shown, next_of, IsNext, AreEnds, HasEnds, AreHooked, AreNexts, IsFrontOf, IsStop}
use Rattle.match_lanes.proofs.Places.{on_within, position_some, position_none}

-- what is seen of the hook at a place
pub lane_at : (hooks : List Hook) (place : ℕ) (h : Hook) (l : ℕ) → place < length hooks → h ≡ get_or hooks place h
    → is_on l (map lane_of hooks) place ≡ is_lane l (lane_of h)
lane_at hooks place h l within is = ap (is_lane l) (get_or-map lane_of hooks place h None within ∙ ap lane_of (sym is))

pub shown_at : (hooks : List Hook) (place : ℕ) (h : Hook) (l : ℕ) → place < length hooks → h ≡ get_or hooks place h
    → is_on l (map shown hooks) place ≡ is_lane l (shown h)
shown_at hooks place h l within is = ap (is_lane l) (get_or-map shown hooks place h None within ∙ ap shown (sym is))

pub next_at : (hooks : List Hook) (place : ℕ) (h : Hook) → place < length hooks → h ≡ get_or hooks place h
    → get_or (map next_of hooks) place 0 ≡ h.next
next_at hooks place h within is = get_or-map next_of hooks place h 0 within ∙ ap next_of (sym is)

pub gone_at : (hooks : List Hook) (place : ℕ) (h : Hook) (l : ℕ) → place < length hooks → h ≡ get_or hooks place h → h.gone ≡ true
    → is_on l (map shown hooks) place ≡ false
gone_at hooks place h l within is gone =
    shown_at hooks place h l within is ∙ ap (is_lane l) (cond-true h.gone None (Some h.lane.value) gone)

pub kept_at : (hooks : List Hook) (place : ℕ) (h : Hook) (l : ℕ) → place < length hooks → h ≡ get_or hooks place h → h.gone ≡ false
    → is_on l (map shown hooks) place ≡ is_on l (map lane_of hooks) place
kept_at hooks place h l within is kept =
    shown_at hooks place h l within is ∙ ap (is_lane l) (cond-false h.gone None (Some h.lane.value) kept) ∙ sym (lane_at hooks place h l within is)

-- what was in no lane is in none
pub never : (hooks : List Hook) (l q : ℕ) → is_on l (map lane_of hooks) q ≡ false → is_on l (map shown hooks) q ≡ false
never [] l q off = refl
never (h ∷ hooks) l zero off = by h.gone refl
  where
    by : (b : Bool) → h.gone ≡ b → is_lane l (shown h) ≡ false
    by true is = ap (is_lane l) (cond-true h.gone None (Some h.lane.value) is)
    by false is = ap (is_lane l) (cond-false h.gone None (Some h.lane.value) is) ∙ off
never (h ∷ hooks) l (suc q) off = never hooks l q off

-- from a gone place to the next of its lane
pub moved : (hooks : List Hook) (l place n : ℕ) → AreNexts hooks → IsFrontOf hooks l place → get_or (map next_of hooks) place 0 ≡ n
    → is_on l (map shown hooks) place ≡ false → IsFrontOf hooks l n
moved hooks l place n nexts front to gone =
    let next : IsNext (is_on l (map lane_of hooks)) place n = subst (IsNext (is_on l (map lane_of hooks)) place) to (nexts l place front.hung) in
    record {
      hung = next.passes;
      before = λ q h. elim (cases_lt q place) [
        | inl early ↦ front.before q early
        | inr late ↦ elim (cases_eq q place) [
          | inl same ↦ ap (is_on l (map shown hooks)) same ∙ gone
          | inr apart ↦ never hooks l q (next.between q (omega arith) h)
        ]
      ];
    }

-- a hook leads to a place that is there, and not back
pub ahead : (hooks : List Hook) (place : ℕ) (h : Hook) → AreNexts hooks → place < length hooks → h ≡ get_or hooks place h
    → (h.next < length hooks) × (place ≤ h.next)
ahead hooks place h nexts within is =
    let own : is_on h.lane.value (map lane_of hooks) place ≡ true =
    lane_at hooks place h h.lane.value within is ∙ eq-eqb h.lane.value h.lane.value refl in
    let next = nexts h.lane.value place own in
    let to = next_at hooks place h within is in (
      omega (arith, to, length-map hooks lane_of, on_within h.lane.value (map lane_of hooks) (get_or (map next_of hooks) place 0) next.passes),
      omega (arith, to, next.later),
    )

-- a place that is kept is a stop, and so is the last of a lane
pub stops_kept : (hooks : List Hook) (place : ℕ) (h : Hook) → place < length hooks → h ≡ get_or hooks place h → h.gone ≡ false → IsStop hooks place
stops_kept hooks place h within is kept = λ l on off.
    absurd (both_ways (is_on l (map shown hooks) place) off (kept_at hooks place h l within is kept ∙ on))

pub stops_last : (hooks : List Hook) (place : ℕ) (h : Hook) → place < length hooks → h ≡ get_or hooks place h → h.next ≡ place → IsStop hooks place
stops_last hooks place h within is last = λ l on off. next_at hooks place h within is ∙ last

-- the place at which a walk stops tells the first that waits
pub first_waits : (hooks : List Hook) (l place : ℕ) → IsFrontOf hooks l place → is_on l (map shown hooks) place ≡ true
    → position (is_lane l) (map shown hooks) ≡ Some place
first_waits hooks l place front on =
    position_some (is_lane l) (map shown hooks) place None (on_within l (map shown hooks) place on) on front.before

pub none_waits : (hooks : List Hook) (l place : ℕ) → AreNexts hooks → IsFrontOf hooks l place → IsStop hooks place
    → is_on l (map shown hooks) place ≡ false → position (is_lane l) (map shown hooks) ≡ None
none_waits hooks l place nexts front stop gone =
    let next = nexts l place front.hung in
    position_none (is_lane l) (map shown hooks) None (λ q within. elim (cases_lt q place) [
      | inl early ↦ front.before q early
      | inr late ↦ elim (cases_eq q place) [
        | inl same ↦ ap (is_on l (map shown hooks)) same ∙ gone
        | inr apart ↦ never hooks l q (next.ends (stop l front.hung gone) q (omega arith))
      ]
    ])

-- in a lane in which nothing was hung nothing waits
pub never_waits : (hooks : List Hook) (l : ℕ) → ((q : ℕ) → is_on l (map lane_of hooks) q ≡ false) → position (is_lane l) (map shown hooks) ≡ None
never_waits hooks l off = position_none (is_lane l) (map shown hooks) None (λ q within. never hooks l q (off q))

-- the ends that are read are the lane's
pub read_ends : (ends : List (Option Ends)) (l : ℕ) (e : Option Ends) → l < length ends → e ≡ get_or ends l e → get_or ends l None ≡ e
read_ends [] l e below is = absurd (omega arith)
read_ends (x ∷ ends) zero e below is = sym is
read_ends (x ∷ ends) (suc l) e below is = read_ends ends l e (omega arith) is

pub ends_at : (hooks : List Hook) (ends : List (Option Ends)) (l : ℕ) (e : Option Ends) → AreHooked hooks ends → l < length ends → e ≡ get_or ends l e
    → HasEnds (is_on l (map lane_of hooks)) (is_on l (map shown hooks)) e
ends_at hooks ends l e linked below is =
    subst (HasEnds (is_on l (map lane_of hooks)) (is_on l (map shown hooks))) (read_ends ends l e below is) (linked.ends_are l)

pub some_ends_at : (hooks : List Hook) (ends : List (Option Ends)) (l : ℕ) (e : Option Ends) (at : Ends) → AreHooked hooks ends → l < length ends
    → e ≡ get_or ends l e → e ≡ Some at → AreEnds (is_on l (map lane_of hooks)) (is_on l (map shown hooks)) at
some_ends_at hooks ends l e at linked below is some =
    subst (HasEnds (is_on l (map lane_of hooks)) (is_on l (map shown hooks))) some (ends_at hooks ends l e linked below is)

pub no_ends_at : (hooks : List Hook) (ends : List (Option Ends)) (l : ℕ) (e : Option Ends) → AreHooked hooks ends → l < length ends
    → e ≡ get_or ends l e → e ≡ None → (q : ℕ) → is_on l (map lane_of hooks) q ≡ false
no_ends_at hooks ends l e linked below is none =
    subst (HasEnds (is_on l (map lane_of hooks)) (is_on l (map shown hooks))) none (ends_at hooks ends l e linked below is)

pub ends_are_read : (ends : List (Option Ends)) (l : ℕ) (e : Option Ends) (at : Ends) → l < length ends → e ≡ get_or ends l e → e ≡ Some at
    → get_or ends l None ≡ Some at
ends_are_read ends l e at below is some = read_ends ends l e below is ∙ some

pub front_within : (hooks : List Hook) (l place : ℕ) → IsFrontOf hooks l place → place < length hooks
front_within hooks l place front = omega (arith, on_within l (map lane_of hooks) place front.hung, length-map hooks lane_of)

-- what a walk ends with is the first that waits
pub found_at : (hooks : List Hook) (l place : ℕ) (found : Option ℕ) → AreNexts hooks → IsFrontOf hooks l place → IsStop hooks place
    → IfSome found (λ at. (at ≡ place) × ((k : ℕ) → is_on k (map lane_of hooks) place ≡ true → is_on k (map shown hooks) place ≡ true))
    → IfNone found ((k : ℕ) → is_on k (map shown hooks) place ≡ false)
    → found ≡ position (is_lane l) (map shown hooks)
found_at hooks l place None nexts front stop waits gone = sym (none_waits hooks l place nexts front stop (gone l))
found_at hooks l place (Some at) nexts front stop waits gone =
    ap (λ (n : ℕ). Some n) waits.0 ∙ sym (first_waits hooks l place front (waits.1 l front.hung))

pub last_within : (hooks : List Hook) (ends : List (Option Ends)) (l : ℕ) (e : Option Ends) → AreHooked hooks ends → l < length ends → e ≡ get_or ends l e
    → IfSome e (λ at. at.last < length hooks)
last_within hooks ends l e linked below is = by e (ends_at hooks ends l e linked below is)
  where
    by : (e : Option Ends) → HasEnds (is_on l (map lane_of hooks)) (is_on l (map shown hooks)) e → IfSome e (λ at. at.last < length hooks)
    by None has = tt
    by (Some at) has = omega (arith, on_within l (map lane_of hooks) at.last has.last, length-map hooks lane_of)
