-- The kinds of step, as the calls need them: over the plan of the hall, with the seat by equations.
use Rattle.std.proofs.Common.{◌≡◌, ℕ, suc, ◌+◌, ◌*◌, ◌/◌, ◌%◌, ◌^◌, ◌-◌, ◌<◌, ◌≤◌, ◌==◌, List, [], ◌∷◌, length, slice_index, sym, refl, ap, ◌∙◌, subst, arith}
use Rattle.atomic_table.specs.Table.{State, Me, Allows, Splits, rest}
use Rattle.atomic_table.specs.Seated.{TableId}
use Rattle.meetings.specs.Meetings.{times}
use Rattle.meet_hall.specs.declared.slot.Slot.{Slot}
use Rattle.meet_hall.specs.declared.slot.Slot.TheVariants.{Empty, Record, Note}
use Rattle.meet_hall.specs.declared.view.Desk.{Desk}
use Rattle.meet_hall.specs.declared.view.Chit.{Chit}
use Rattle.meet_hall.specs.declared.view.View.{View}
use Rattle.meet_hall.specs.declared.view.View.TheVariants.{Builds, Holds, Issues, Takes, Parks, Lasts, Ends, Comes, Puts, Gone}
use Rattle.meet_hall.specs.Places.{ListsAre}
use Rattle.meet_hall.specs.Plan.{start_of, IsNarrow}
use Rattle.meet_hall.specs.Views.{slot_of, desk_of, chit_of, first_desk, first_view}
use Rattle.meet_hall.specs.Rule.{lists_of, Kept}
use Rattle.meet_hall.specs.Steps.{holder_made, holder_of_made, ticket_made, ticket_of_made, Issued, Opened, Parked, Brought, Came, TakenRecord}
use Rattle.meet_hall.specs.Steps.{TakenOut, Returned, Rearmed}
use Rattle.meet_hall.proofs.PlanLemmas.{apart_plan}
use Rattle.meet_hall.proofs.HolderKinds.{makes, hands, issues, opens}
use Rattle.meet_hall.proofs.ParkKinds.{parks}
use Rattle.meet_hall.proofs.TicketKinds.{brings, arrives}
use Rattle.meet_hall.proofs.RoundKinds.{takes_record, rearms, takes_out, returns}

-- the view of a seat that was a badge
pub sits_is : (views : List View) (v u w : View) → views ≡ v ∷ [] → views ≡ u ∷ [] → u ≡ w → v ≡ w
sits_is views v u w a b e = ap first_view (sym a ∙ b) ∙ e

-- the slot that was taken last may be exchanged
pub may_exchange : {S : Type 0} (held : List (ℕ × S)) (k : ℕ) (y : S) (others : List (ℕ × S)) → held ≡ (k, y) ∷ others → held ≡ (k, y) ∷ rest held
may_exchange held k y others e = e ∙ ap (λ r. (k, y) ∷ r) (sym (ap rest e))

-- the last party with the record's slot out, in the words of its own view
pub ending_is : {R N : Type 0} (me : Me (Slot R N) View) (d : Desk) (b : ℕ) (guest : R) → me ≡ (Ends d, (b, Record guest (lists_of d.issued d.places)) ∷ [])
    → me ≡ (Ends (desk_of me.0), (b, Record guest (lists_of (desk_of me.0).issued (desk_of me.0).places)) ∷ [])
ending_is {R} {N} me d b guest e =
    subst (λ (m : Me (Slot R N) View). m ≡ (Ends (desk_of m.0), (b, Record guest (lists_of (desk_of m.0).issued (desk_of m.0).places)) ∷ [])) (sym e) refl

module _ {R N : Type 0} (fits_r : R → TableId → ℕ → List ℕ → Type 0) (fits_n : N → TableId → ℕ → List ℕ → Type 0) (plan : List ℕ) (narrow : IsNarrow plan) where
  abbrev Rule : State (Slot R N) View → Type 0
  Rule = Kept fits_r fits_n (length plan) (start_of plan) (slice_index plan)

  pub makes_as : (id : ℕ) (v : View) (hall : TableId) (b start size : ℕ) → v ≡ Builds b → b < length plan → start ≡ start_of plan b → size ≡ slice_index plan b
      → Splits Rule id v (holder_made v) (holder_of_made hall start size v)
  makes_as id v hall b start size e below f g =
      subst (λ u. Splits Rule id u (holder_made u) (holder_of_made hall start size u)) (sym e)
      (subst (λ k. Splits Rule id (Builds b) (Builds (b + 1)) (Holds (first_desk hall b start k))) (sym g)
      (subst (λ k. Splits Rule id (Builds b) (Builds (b + 1)) (Holds (first_desk hall b k (slice_index plan b)))) (sym f)
      (makes (length plan) (start_of plan) (slice_index plan) fits_r fits_n (apart_plan plan) narrow id hall b below)))

  pub hands_as : (id : ℕ) (v : View) (d : Desk) (p : ℕ) → v ≡ Issues d p → Splits Rule id v (ticket_made v) (ticket_of_made v)
  hands_as id v d p e = subst (λ u. Splits Rule id u (ticket_made u) (ticket_of_made u)) (sym e)
      (hands (length plan) (start_of plan) (slice_index plan) fits_r fits_n (apart_plan plan) narrow id d p)

  pub issues_as : (slots id word : ℕ) (me : Me (Slot R N) View) (d : Desk) (place p : ℕ) → me ≡ (Holds d, []) → word ≡ d.meeting → place ≡ p
      → place < d.places → times place d.issued ≡ 0 → times place d.left ≡ 0 → Allows Rule slots id me word (λ k. (k + 1) % 2 ^ 64) (λ _ w. Issued p me w)
  issues_as slots id word me d place p e f g within new clear =
      subst (λ v. Allows Rule slots id v word (λ k. (k + 1) % 2 ^ 64) (λ _ w. Issued p v w)) (sym e)
      (subst (λ m. Allows Rule slots id (Holds d, []) m (λ k. (k + 1) % 2 ^ 64) (λ _ w. Issued p (Holds d, []) w)) (sym f)
      (subst (λ q. Allows Rule slots id (Holds d, []) d.meeting (λ k. (k + 1) % 2 ^ 64) (λ _ w. Issued q (Holds d, []) w)) g
      (issues (length plan) (start_of plan) (slice_index plan) fits_r fits_n (apart_plan plan) narrow slots id d place within new clear)))

  pub opens_as : (slots id word : ℕ) (me : Me (Slot R N) View) (d : Desk) → me ≡ (Holds d, []) → word ≡ d.meeting → d.left ≡ []
      → Allows Rule slots id me word (λ k. k) (λ _ w. Opened me w)
  opens_as slots id word me d e f clear =
      subst (λ v. Allows Rule slots id v word (λ k. k) (λ _ w. Opened v w)) (sym e)
      (subst (λ m. Allows Rule slots id (Holds d, []) m (λ k. k) (λ _ w. Opened (Holds d, []) w)) (sym f)
      (opens (length plan) (start_of plan) (slice_index plan) fits_r fits_n (apart_plan plan) narrow slots id d clear))

  pub parks_as : (slots id word : ℕ) (me : Me (Slot R N) View) (d : Desk) (b : ℕ) (guest : R) (lists : ListsAre)
      → me ≡ (Parks d, (b, Record guest lists) ∷ []) → word ≡ d.meeting → b ≡ d.base
      → fits_r guest d.hall d.meeting d.issued → lists ≡ lists_of d.issued d.places
      → Allows Rule slots id me word (λ k. (k + (2 ^ 64 - 1)) % 2 ^ 64) (λ found w. Parked me found w)
  parks_as slots id word me d b guest lists e f g fits same =
      let full : me ≡ (Parks d, (d.base, Record guest lists) ∷ []) = e ∙ ap (λ (k : ℕ). (Parks d, (k, Record guest lists) ∷ [])) g in
      subst (λ v. Allows Rule slots id v word (λ k. (k + (2 ^ 64 - 1)) % 2 ^ 64) (λ found w. Parked v found w)) (sym full)
      (subst (λ m. Allows Rule slots id (Parks d, (d.base, Record guest lists) ∷ []) m (λ k. (k + (2 ^ 64 - 1)) % 2 ^ 64)
      (λ found w. Parked (Parks d, (d.base, Record guest lists) ∷ []) found w)) (sym f)
      (parks (length plan) (start_of plan) (slice_index plan) fits_r fits_n (apart_plan plan) narrow slots id d guest lists fits same))

  pub brings_as : (slots id word : ℕ) (me : Me (Slot R N) View) (c : Chit) → me ≡ (Comes c, []) → word ≡ c.meeting
      → Allows Rule slots id me word (λ k. k) (λ _ w. Brought me w)
  brings_as slots id word me c e f =
      subst (λ v. Allows Rule slots id v word (λ k. k) (λ _ w. Brought v w)) (sym e)
      (subst (λ m. Allows Rule slots id (Comes c, []) m (λ k. k) (λ _ w. Brought (Comes c, []) w)) (sym f)
      (brings (length plan) (start_of plan) (slice_index plan) fits_r fits_n (apart_plan plan) narrow slots id c))

  pub arrives_as : (slots id word : ℕ) (me : Me (Slot R N) View) (c : Chit) (k : ℕ) (note : N) → me ≡ (Puts c, (k, Note note) ∷ [])
      → word ≡ c.meeting → k ≡ slot_of c
      → fits_n note c.hall c.meeting (c.place ∷ []) → Allows Rule slots id me word (λ q. (q + (2 ^ 64 - 1)) % 2 ^ 64) (λ found w. Came me found w)
  arrives_as slots id word me c k note e f g fits =
      let full : me ≡ (Puts c, (slot_of c, Note note) ∷ []) = e ∙ ap (λ (b : ℕ). (Puts c, (b, Note note) ∷ [])) g in
      subst (λ v. Allows Rule slots id v word (λ q. (q + (2 ^ 64 - 1)) % 2 ^ 64) (λ found w. Came v found w)) (sym full)
      (subst (λ m. Allows Rule slots id (Puts c, (slot_of c, Note note) ∷ []) m (λ q. (q + (2 ^ 64 - 1)) % 2 ^ 64)
      (λ found w. Came (Puts c, (slot_of c, Note note) ∷ []) found w)) (sym f)
      (arrives (length plan) (start_of plan) (slice_index plan) fits_r fits_n (apart_plan plan) narrow slots id c note fits))

  pub takes_record_as : (slots id word : ℕ) (me : Me (Slot R N) View) (d : Desk) → me ≡ (Lasts d, []) → word ≡ d.meeting
      → Allows Rule slots id me word (λ k. k) (λ _ w. TakenRecord fits_r me w)
  takes_record_as slots id word me d e f =
      subst (λ v. Allows Rule slots id v word (λ k. k) (λ _ w. TakenRecord fits_r v w)) (sym e)
      (subst (λ m. Allows Rule slots id (Lasts d, []) m (λ k. k) (λ _ w. TakenRecord fits_r (Lasts d, []) w)) (sym f)
      (takes_record (length plan) (start_of plan) (slice_index plan) fits_r fits_n (apart_plan plan) narrow slots id d))

  pub rearms_as : (slots id word : ℕ) (me : Me (Slot R N) View) (d : Desk) (b new : ℕ) → me ≡ (Ends d, (b, Empty) ∷ []) → word ≡ d.meeting → b ≡ d.base
      → new ≡ (d.round + 1) % 2 ^ 32 * 2 ^ 32 + 1 → Allows Rule slots id me word (λ _. new) (λ _ w. Rearmed me w)
  rearms_as slots id word me d b new e f g is =
      let full : me ≡ (Ends d, (d.base, Empty) ∷ []) = e ∙ ap (λ (k : ℕ). (Ends d, (k, Empty) ∷ [])) g in
      subst (λ v. Allows Rule slots id v word (λ _. new) (λ _ w. Rearmed v w)) (sym full)
      (subst (λ m. Allows Rule slots id (Ends d, (d.base, Empty) ∷ []) m (λ _. new) (λ _ w. Rearmed (Ends d, (d.base, Empty) ∷ []) w)) (sym f)
      (rearms (length plan) (start_of plan) (slice_index plan) fits_r fits_n (apart_plan plan) narrow slots id d new is))

  pub takes_out_as : (slots id word : ℕ) (me : Me (Slot R N) View) (d : Desk) (place p : ℕ) → me ≡ (Holds d, []) → word ≡ d.meeting → place ≡ p
      → 0 < times place d.left
      → Allows Rule slots id me word (λ k. k) (λ _ w. TakenOut fits_n p me w)
  takes_out_as slots id word me d place p e f g there =
      subst (λ v. Allows Rule slots id v word (λ k. k) (λ _ w. TakenOut fits_n p v w)) (sym e)
      (subst (λ m. Allows Rule slots id (Holds d, []) m (λ k. k) (λ _ w. TakenOut fits_n p (Holds d, []) w)) (sym f)
      (subst (λ q. Allows Rule slots id (Holds d, []) d.meeting (λ k. k) (λ _ w. TakenOut fits_n q (Holds d, []) w)) g
      (takes_out (length plan) (start_of plan) (slice_index plan) fits_r fits_n (apart_plan plan) narrow slots id d place there)))

  pub returns_as : (slots id word : ℕ) (me : Me (Slot R N) View) (d : Desk) (p k : ℕ) → me ≡ (Takes d p, (k, Empty) ∷ []) → word ≡ d.meeting
      → k ≡ d.base + suc p
      → Allows Rule slots id me word (λ q. q) (λ _ w. Returned me w)
  returns_as slots id word me d p k e f g =
      let full : me ≡ (Takes d p, (d.base + suc p, Empty) ∷ []) = e ∙ ap (λ (b : ℕ). (Takes d p, (b, Empty) ∷ [])) g in
      subst (λ v. Allows Rule slots id v word (λ q. q) (λ _ w. Returned v w)) (sym full)
      (subst (λ m. Allows Rule slots id (Takes d p, (d.base + suc p, Empty) ∷ []) m (λ q. q)
      (λ _ w. Returned (Takes d p, (d.base + suc p, Empty) ∷ []) w)) (sym f)
      (returns (length plan) (start_of plan) (slice_index plan) fits_r fits_n (apart_plan plan) narrow slots id d p))
