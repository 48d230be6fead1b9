-- What each kind of atomic step makes of the seat that takes it. No public clause cites this module.
use Rattle.std.specs.Prelude.{◌≡◌, ℕ, suc, ◌+◌, ◌/◌, ◌%◌, ◌^◌, Bool, true, false, ◌==◌, List, [], ◌∷◌}
use Rattle.atomic_table.specs.Table.{Me, rest}
use Rattle.atomic_table.specs.Seated.{TableId}
use Rattle.meetings.specs.declared.moves.Move.{Move}
use Rattle.meetings.specs.declared.moves.Move.TheVariants.{Park, Arrive}
use Rattle.meetings.specs.Meetings.{count_of}
use Rattle.meetings.specs.Moves.{after, Legal}
use Rattle.meet_hall.specs.declared.slot.Slot.{Slot}
use Rattle.meet_hall.specs.declared.slot.Slot.TheVariants.{Empty, Record, Note}
use Rattle.meet_hall.specs.declared.view.View.{View}
use Rattle.meet_hall.specs.declared.view.View.TheVariants.{Builds, Holds, Issues, Takes, Parks, Lasts, Ends, Comes, Puts, Gone}
use Rattle.meet_hall.specs.Rule.{lists_of}
use Rattle.meet_hall.specs.Views.{first_desk, issuing_desk, noted_desk, next_desk, chit_from, desk_from, slot_of, holder_trace, ticket_trace, desk_of}
use Rattle.meet_hall.specs.Views.{chit_of, number_of}

-- the building seat after it made a holder, and the holder's seat
abbrev pub holder_made : View → View
holder_made v = Builds (number_of v + 1)

-- the seat of the holder that was made
abbrev pub holder_of_made : TableId → ℕ → ℕ → View → View
holder_of_made hall start size v = Holds (first_desk hall (number_of v) start size)

-- the holder after it gave its ticket a seat, and the ticket's seat
abbrev pub ticket_made : View → View
ticket_made v = Holds (desk_of v)

-- the seat of the ticket that was made
abbrev pub ticket_of_made : View → View
ticket_of_made v = Comes (chit_from (desk_of v) (number_of v))

-- what a party's own subtraction found: the word of this round's meeting, whose count the party's move made one less
pub record Finds (round found : ℕ) (move : Move) (before : List Move) : Type 0 where
  pub legal : Legal round (move ∷ before)
  pub round_found : found / 2 ^ 32 ≡ round % 2 ^ 32
  pub count_found : found % 2 ^ 32 ≡ count_of (after round (move ∷ before)) + 1

module _ {R N : Type 0} where
  -- a holder is about to give its ticket of this place a seat
  abbrev pub Issued : ℕ → Me (Slot R N) View → Me (Slot R N) View → Type 0
  Issued place v w = w ≡ (Issues (issuing_desk (desk_of v.0) place) place, v.1)

  -- a holder has taken its record's slot to park
  abbrev pub Opened : Me (Slot R N) View → Me (Slot R N) View → Type 0
  Opened v w = w ≡ (Parks (desk_of v.0), ((desk_of v.0).base, Empty) ∷ v.1)

  -- a holder that comes: the last keeps the record's slot, and another gives it back
  abbrev pub parked : Bool → Me (Slot R N) View → List Move → Me (Slot R N) View
  parked true v log = (Ends (desk_of v.0), v.1)
  parked false v log = (Gone (holder_trace (desk_of v.0) log), rest v.1)

  -- a holder came: what its subtraction found, and where it stands then
  abbrev pub Parked : Me (Slot R N) View → ℕ → Me (Slot R N) View → Type 0
  Parked v found w =
      (before : List Move) × Finds (desk_of v.0).round found Park before
      × ((after (desk_of v.0).round before).issued ≡ (desk_of v.0).issued)
      × (w ≡ parked (found % 2 ^ 32 == 1) v (Park ∷ before))

  -- a ticket has taken its note's slot
  abbrev pub Brought : Me (Slot R N) View → Me (Slot R N) View → Type 0
  Brought v w = w ≡ (Puts (chit_of v.0), (slot_of (chit_of v.0), Empty) ∷ v.1)

  -- a ticket that comes gives its slot back; the last knows all places that were issued
  abbrev pub arrived : Bool → Me (Slot R N) View → List Move → Me (Slot R N) View
  arrived true v log = (Lasts (desk_from (chit_of v.0) (after (chit_of v.0).round log).issued), rest v.1)
  arrived false v log = (Gone (ticket_trace (chit_of v.0) log), rest v.1)

  -- a ticket came: what its subtraction found, and where it stands then
  abbrev pub Came : Me (Slot R N) View → ℕ → Me (Slot R N) View → Type 0
  Came v found w =
      (before : List Move) × Finds (chit_of v.0).round found (Arrive (chit_of v.0).place) before
      × (w ≡ arrived (found % 2 ^ 32 == 1) v (Arrive (chit_of v.0).place ∷ before))

  -- the last party took the record out, which fits the places that were issued
  abbrev pub TakenRecord : (R → TableId → ℕ → List ℕ → Type 0) → Me (Slot R N) View → Me (Slot R N) View → Type 0
  TakenRecord fits v w =
      (guest : R) × (w ≡ (Ends (desk_of v.0), ((desk_of v.0).base, Record guest (lists_of (desk_of v.0).issued (desk_of v.0).places)) ∷ v.1))
      × fits guest (desk_of v.0).hall (desk_of v.0).meeting (desk_of v.0).issued

  -- the last party took out the note of this place, which fits it
  abbrev pub TakenOut : (N → TableId → ℕ → List ℕ → Type 0) → ℕ → Me (Slot R N) View → Me (Slot R N) View → Type 0
  TakenOut fits place v w =
      (note : N) × (w ≡ (Takes (noted_desk (desk_of v.0) place) place, ((desk_of v.0).base + suc place, Note note) ∷ v.1))
      × fits note (desk_of v.0).hall (desk_of v.0).meeting (place ∷ [])

  -- the holder gave back the slot that it had
  abbrev pub Returned : Me (Slot R N) View → Me (Slot R N) View → Type 0
  Returned v w = w ≡ (Holds (desk_of v.0), rest v.1)

  -- the holder gave the record's slot back, and its next round begins
  abbrev pub Rearmed : Me (Slot R N) View → Me (Slot R N) View → Type 0
  Rearmed v w = w ≡ (Holds (next_desk (desk_of v.0)), rest v.1)
