-- What holds of a hall's words, slots and seats at every moment. No public clause cites this module.
use Rattle.std.specs.Prelude.{◌≡◌, ℕ, suc, ◌+◌, ◌<◌, ◌≤◌, ◌⊎◌, List, [], ◌∷◌, ◌++◌, length, slice_index}
use mathlib.Core.Option.{Option, none, some}
use lib.ListN.{get_elem?}
use Rattle.atomic_table.specs.Table.{State}
use Rattle.atomic_table.specs.Seated.{TableId}
use Rattle.meetings.specs.declared.moves.Move.{Move}
use Rattle.meet_hall.specs.declared.slot.Slot.{Slot}
use Rattle.meet_hall.specs.declared.slot.Slot.TheVariants.{Empty, Record, Note}
use Rattle.meet_hall.specs.declared.view.Desk.{Desk}
use Rattle.meet_hall.specs.declared.view.Chit.{Chit}
use Rattle.meet_hall.specs.declared.view.Trace.{Trace}
use Rattle.meet_hall.specs.declared.view.View.{View}
use Rattle.meet_hall.specs.declared.view.View.TheVariants.{Builds, Holds, Issues, Takes, Parks, Lasts, Ends, Comes, Puts, Gone}
use Rattle.meet_hall.specs.Places.{ListsAre}
use Rattle.meet_hall.specs.Parties.{Party, idle, kept, waits, puts, came, shut, out}
use Rattle.meet_hall.specs.Seatings.{Seating, issued_at, word_at, Orderly, Logged}

-- what is in a party's slot: nothing, or a value with this property, or it is out
abbrev pub Stands : {S : Type 0} → S → (S → Type 0) → Party → Option (Option S) → Type 0
Stands nothing Has idle slot = slot ≡ some (some nothing)
Stands {S} nothing Has kept slot = (y : S) × (slot ≡ some (some y)) × Has y
Stands nothing Has (waits i) slot = slot ≡ some (some nothing)
Stands nothing Has (puts i) slot = slot ≡ some none
Stands {S} nothing Has came slot = (y : S) × (slot ≡ some (some y)) × Has y
Stands {S} nothing Has (shut i) slot = (y : S) × (slot ≡ some (some y)) × Has y
Stands nothing Has (out i) slot = slot ≡ some none

-- the lists that stand with a record: what was issued, and nothing left
abbrev pub lists_of : List ℕ → ℕ → ListsAre
lists_of issued places = record { issued = issued; left = []; places = places }

-- a record that fits, with its holder's lists
abbrev pub IsRecord : {R N : Type 0} → (R → TableId → ℕ → List ℕ → Type 0) → TableId → ℕ → List ℕ → ℕ → Slot R N → Type 0
IsRecord {R} fits hall m issued places y =
    (guest : R) × (lists : ListsAre) × (y ≡ Record guest lists) × fits guest hall m issued × (lists ≡ lists_of issued places)

-- a note that fits, alone
abbrev pub IsNote : {R N : Type 0} → (N → TableId → ℕ → List ℕ → Type 0) → TableId → ℕ → ℕ → Slot R N → Type 0
IsNote {R} {N} fits hall m place y = (note : N) × (y ≡ Note note) × fits note hall m (place ∷ [])

-- a holder whose party is t knows its meeting whole, this note being out
pub record Sits (x : Seating) (t : Party) (noted : List ℕ) (d : Desk) : Type 0 where
  pub hall : x.hall ≡ d.hall
  pub round : x.round ≡ d.round
  pub issued : issued_at x ≡ d.issued
  pub left : x.left ≡ d.left
  pub taking : x.taking ≡ noted
  pub head : x.head ≡ t

-- a ticket whose party is t is of this round
pub record Bears (x : Seating) (t : Party) (c : Chit) : Type 0 where
  pub hall : x.hall ≡ c.hall
  pub round : x.round ≡ c.round
  pub ticket : x.ticket c.place ≡ t

-- a meeting whose holder was not made yet
pub record IsFresh (x : Seating) (t : Party) : Type 0 where
  pub round : x.round ≡ 0
  pub issued : issued_at x ≡ []
  pub left : x.left ≡ []
  pub taking : x.taking ≡ []
  pub head : x.head ≡ t

-- a party that came: its round is over, or the log of its round ends with what it knows
abbrev pub HasCome : Seating → Trace → Type 0
HasCome x t = (t.round < x.round) ⊎ ((x.round ≡ t.round) × ((newer : List Move) × (x.log ≡ newer ++ t.log)))

-- where a meeting of the hall lies
pub record IsLaidOut (n : ℕ) (base places : ℕ → ℕ) (m b k : ℕ) : Type 0 where
  pub below : m < n
  pub start : b ≡ base m
  pub size : k ≡ places m

module _ (n : ℕ) (base places : ℕ → ℕ) where
  -- a desk is of one of the hall's meetings, as it is laid out
  abbrev pub IsDesk : Desk → Type 0
  IsDesk d = IsLaidOut n base places d.meeting d.base d.places

  -- a chit is of one place of one of the hall's meetings
  abbrev pub IsChit : Chit → Type 0
  IsChit c = IsLaidOut n base places c.meeting c.base c.places × (c.place < c.places)

  -- what the view of seat i tells of the meetings
  abbrev pub Agrees : (ℕ → Seating) → ℕ → View → Type 0
  Agrees ms i (Builds b) = (m : ℕ) → b ≤ m → m < n → IsFresh (ms m) (waits i)
  Agrees ms i (Holds d) = IsDesk d × Sits (ms d.meeting) (waits i) [] d
  Agrees ms i (Issues d place) = IsDesk d × Sits (ms d.meeting) (waits i) [] d × (place < d.places) × ((ms d.meeting).ticket place ≡ waits i)
  Agrees ms i (Takes d place) = IsDesk d × Sits (ms d.meeting) (waits i) (place ∷ []) d × (place < d.places) × ((ms d.meeting).ticket place ≡ out i)
  Agrees ms i (Parks d) = IsDesk d × Sits (ms d.meeting) (puts i) [] d
  Agrees ms i (Lasts d) = IsDesk d × Sits (ms d.meeting) (shut i) [] d
  Agrees ms i (Ends d) = IsDesk d × Sits (ms d.meeting) (out i) [] d
  Agrees ms i (Comes c) = IsChit c × Bears (ms c.meeting) (waits i) c
  Agrees ms i (Puts c) = IsChit c × Bears (ms c.meeting) (puts i) c
  Agrees ms i (Gone t) = HasCome (ms t.meeting) t

  module _ {R N : Type 0} (fits_r : R → TableId → ℕ → List ℕ → Type 0) (fits_n : N → TableId → ℕ → List ℕ → Type 0) where
    -- the record's slot of a meeting, and the slots of its notes
    abbrev pub RecordStands : ℕ → Seating → List (Option (Slot R N)) → Type 0
    RecordStands m x homes = Stands Empty (IsRecord fits_r x.hall m (issued_at x) (places m)) x.head (get_elem? homes (base m))

    -- the slot of the note of one place
    abbrev pub NoteStands : ℕ → Seating → List (Option (Slot R N)) → ℕ → Type 0
    NoteStands m x homes p = Stands Empty (IsNote fits_n x.hall m p) (x.ticket p) (get_elem? homes (base m + suc p))

    -- the words, slots and seats are those of these meetings
    pub record KeptBy (ms : ℕ → Seating) (s : State (Slot R N) View) : Type 0 where
      pub width : length s.words ≡ n
      pub words : (m : ℕ) → m < n → slice_index s.words m ≡ word_at (places m) (ms m)
      pub records : (m : ℕ) → m < n → RecordStands m (ms m) s.homes
      pub notes : (m p : ℕ) → m < n → p < places m → NoteStands m (ms m) s.homes p
      pub orderly : (m : ℕ) → m < n → Orderly (places m) (ms m)
      pub logged : (m : ℕ) → m < n → Logged (places m) (ms m)
      pub agree : (i : ℕ) (v : View) → get_elem? s.views i ≡ some v → Agrees ms i v

-- the rule of a hall: there are meetings of which its words, slots and seats are
abbrev pub Kept : {R N : Type 0} → (R → TableId → ℕ → List ℕ → Type 0) → (N → TableId → ℕ → List ℕ → Type 0)
    → ℕ → (ℕ → ℕ) → (ℕ → ℕ) → State (Slot R N) View → Type 0
Kept fits_r fits_n n base places s = (ms : ℕ → Seating) × KeptBy n base places fits_r fits_n ms s
