-- What contracts see of holders, tickets and stubs. Rounds are counted without bound; a word has the round modulo 2^32.
use Rattle.std.specs.Prelude.{◌≡◌, ℕ, ◌+◌, ◌%◌, ◌^◌, ◌<◌, suc, zero, List, [], ◌∷◌, ◌++◌, slice_index}
use Rattle.atomic_table.specs.Seated.{TableId}
use Rattle.meetings.specs.declared.moves.Move.{Move}
use Rattle.meetings.specs.Meetings.{count_of}
use Rattle.meetings.specs.Moves.{after}
use Rattle.meet_hall.specs.declared.view.Desk.{Desk}
use Rattle.meet_hall.specs.declared.view.Chit.{Chit}
use Rattle.meet_hall.specs.declared.view.Trace.{Trace}
use Rattle.meet_hall.specs.declared.view.View.{View}
use Rattle.meet_hall.specs.declared.view.View.TheVariants.{Holds, Comes, Gone}
use Rattle.meet_hall.specs.Places.{ListsAre, without}
use Rattle.meet_hall.specs.Plan.{start_of}
use Rattle.meet_hall.specs.Views.{first_desk, desk_of, chit_of, trace_of, first_view}

-- the holder of a meeting in a round: the places that it issued in it, and those of the round before whose notes it has not taken
pub record HolderIs : Type 0 where
  pub seat : ℕ
  pub hall : TableId
  pub meeting : ℕ
  pub round : ℕ
  -- the number of the meeting's first slot
  pub base : ℕ
  -- how many places the meeting has
  pub places : ℕ
  pub issued : List ℕ
  pub left : List ℕ

-- the ticket of a place
pub record TicketIs : Type 0 where
  pub seat : ℕ
  pub hall : TableId
  pub meeting : ℕ
  pub round : ℕ
  pub base : ℕ
  pub places : ℕ
  pub place : ℕ

-- the seat of a party that has come, with the word after its own step, and the moves of its round up to its own
pub record StubIs : Type 0 where
  pub seat : ℕ
  pub hall : TableId
  pub meeting : ℕ
  pub round : ℕ
  -- how many parties had not come
  pub left : ℕ
  -- the newest first
  pub log : List Move

-- all of a holder but its seat
abbrev pub desk : HolderIs → Desk
desk h = record { hall = h.hall; meeting = h.meeting; round = h.round; base = h.base; places = h.places; issued = h.issued; left = h.left }

-- all of a ticket but its seat
abbrev pub chit : TicketIs → Chit
chit t = record { hall = t.hall; meeting = t.meeting; round = t.round; base = t.base; places = t.places; place = t.place }

-- the holder with this seat
abbrev pub holder_at : ℕ → Desk → HolderIs
holder_at seat d =
    record { seat = seat; hall = d.hall; meeting = d.meeting; round = d.round; base = d.base; places = d.places; issued = d.issued; left = d.left }

-- the first holders of a new hall, one for each of its first meetings
abbrev pub first_desks : TableId → List ℕ → ℕ → List Desk
first_desks hall plan zero = []
first_desks hall plan (suc m) = first_desks hall plan m ++ first_desk hall m (start_of plan m) (slice_index plan m) ∷ []

-- the holder after it issued a place
abbrev pub issuing_one : HolderIs → ℕ → HolderIs
issuing_one h place = record h { issued = h.issued ++ place ∷ [] }

-- the ticket of that place, with this seat
abbrev pub ticket_from : HolderIs → ℕ → ℕ → TicketIs
ticket_from h place seat =
    record { seat = seat; hall = h.hall; meeting = h.meeting; round = h.round; base = h.base; places = h.places; place = place }

-- the holder after it took the note of a place
abbrev pub noted : HolderIs → ℕ → HolderIs
noted h place = record h { left = without place h.left }

-- the holder of the next round: nothing is issued, and the places of the round that ended are left
abbrev pub next_holder : HolderIs → HolderIs
next_holder h = record h { round = h.round + 1; issued = []; left = h.issued }

-- the holder of the ticket's round, where these places were issued, with the ticket's seat
abbrev pub last_by : TicketIs → List ℕ → HolderIs
last_by t issued =
    record { seat = t.seat; hall = t.hall; meeting = t.meeting; round = t.round; base = t.base; places = t.places; issued = issued; left = [] }

-- the stub of a seat whose party came by the newest of these moves
abbrev pub stub_of : ℕ → TableId → ℕ → ℕ → List Move → StubIs
stub_of seat hall meeting round log =
    record { seat = seat; hall = hall; meeting = meeting; round = round; left = count_of (after round log); log = log }

-- how the types keep what they are: the view of their seat says it, and the round at run time is that of the word
abbrev pub holder_is : ℕ → TableId → ℕ → ℕ → ListsAre → List View → HolderIs
holder_is seat hall meeting base lists views =
    record {
      seat = seat;
      hall = hall;
      meeting = meeting;
      round = (desk_of (first_view views)).round;
      base = base;
      places = lists.places;
      issued =
          lists.issued;
      left = lists.left;
    }

-- the seat of a holder has its desk, and the round that its word counts
abbrev pub HolderStands : HolderIs → List View → ℕ → Type 0
HolderStands h views round = (views ≡ Holds (desk h) ∷ []) × (h.round % 2 ^ 32 ≡ round) × (h.meeting < h.hall.words) × (h.base + h.places < 2 ^ 63)

-- the ticket that a seat with these views is
abbrev pub ticket_is : ℕ → TableId → ℕ → ℕ → ℕ → ℕ → List View → TicketIs
ticket_is seat hall meeting base places place views =
    record { seat = seat; hall = hall; meeting = meeting; round = (chit_of (first_view views)).round; base = base; places = places; place = place }

-- the seat of a ticket has its chit, and the round that its word counts
abbrev pub TicketStands : TicketIs → List View → ℕ → Type 0
TicketStands t views round = (views ≡ Comes (chit t) ∷ []) × (t.round % 2 ^ 32 ≡ round) × (t.meeting < t.hall.words) × (t.base + t.places < 2 ^ 63)

-- the stub that a seat with these views is
abbrev pub stub_is : ℕ → TableId → ℕ → ℕ → List View → StubIs
stub_is seat hall meeting left views =
    record { seat = seat; hall = hall; meeting = meeting; round = (trace_of (first_view views)).round; left = left; log = (trace_of (first_view views)).log }

-- what a stub knows: its meeting, its round and the moves up to its own
abbrev pub trace : StubIs → Trace
trace s = record { hall = s.hall; meeting = s.meeting; round = s.round; log = s.log }

-- the seat of a stub has its trace, and so many parties were left after its move
abbrev pub StubStands : StubIs → List View → ℕ → Type 0
StubStands s views round = (views ≡ Gone (trace s) ∷ []) × (s.round % 2 ^ 32 ≡ round) × (s.left ≡ count_of (after s.round s.log))
