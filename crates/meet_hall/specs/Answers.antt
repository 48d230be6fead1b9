-- What a party that comes is answered.
use Rattle.std.specs.Prelude.{◌≡◌, ℕ, ◌≤◌, List, ◌∷◌}
use Rattle.meetings.specs.declared.moves.Move.{Move}
use Rattle.meetings.specs.declared.moves.Move.TheVariants.{Park, Arrive}
use Rattle.meetings.specs.Meetings.{count_of}
use Rattle.meetings.specs.Moves.{after, Legal}
use Rattle.meet_hall.specs.declared.party.Met.{Met}
use Rattle.meet_hall.specs.declared.party.Met.TheVariants.{Waiting, Last}
use Rattle.meet_hall.specs.Holders.{HolderIs, TicketIs, StubIs, stub_of, next_holder, last_by}

-- what holds where the meeting still waits for others
abbrev pub IfWaiting : {R : Type 0} → Met R → (StubIs → Type 0) → Type 0
IfWaiting (Waiting stub) P = P stub
IfWaiting (Last next guest) P = Unit {0}

-- what holds where this party was the last
abbrev pub IfLast : {R : Type 0} → Met R → (HolderIs → R → Type 0) → Type 0
IfLast (Waiting stub) P = Unit {0}
IfLast (Last next guest) P = P next guest

-- the moves of the holder's round before it came: it may come after them, and they issued what it knows
pub record Parks (holder : HolderIs) (before : List Move) : Type 0 where
  pub legal : Legal holder.round (Park ∷ before)
  pub issued : (after holder.round before).issued ≡ holder.issued

-- the holder came, and others had not: the stub is of its seat, and says the count after its own move
abbrev pub ParkWaits : HolderIs → StubIs → Type 0
ParkWaits holder stub =
    (before : List Move) × Parks holder before × (stub ≡ stub_of holder.seat holder.hall holder.meeting holder.round (Park ∷ before)) × (1 ≤ stub.left)

-- the holder came as the last: the count after its own move is 0, and it is the holder of the next round
abbrev pub ParkEnds : HolderIs → HolderIs → Type 0
ParkEnds holder next =
    (before : List Move) × Parks holder before × (count_of (after holder.round (Park ∷ before)) ≡ 0) × (next ≡ next_holder holder)

-- the ticket came, and others had not
abbrev pub ArriveWaits : TicketIs → StubIs → Type 0
ArriveWaits ticket stub =
    (before : List Move) × Legal ticket.round (Arrive ticket.place ∷ before)
    × (stub ≡ stub_of ticket.seat ticket.hall ticket.meeting ticket.round (Arrive ticket.place ∷ before)) × (1 ≤ stub.left)

-- the ticket came as the last: its seat is the holder of the next round, and what is left are the places that were issued in this one
abbrev pub ArriveEnds : TicketIs → HolderIs → Type 0
ArriveEnds ticket next =
    (before : List Move) × Legal ticket.round (Arrive ticket.place ∷ before)
    × (count_of (after ticket.round (Arrive ticket.place ∷ before)) ≡ 0) × (next ≡ next_holder (last_by ticket (after ticket.round before).issued))
