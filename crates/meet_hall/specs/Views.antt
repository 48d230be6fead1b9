-- What parties know of their meeting, and how it changes with a step.
use Rattle.std.specs.Prelude.{ℕ, ◌+◌, suc, List, [], ◌∷◌, ◌++◌, map}
use Rattle.atomic_table.specs.Seated.{TableId}
use Rattle.meetings.specs.declared.moves.Move.{Move}
use Rattle.meet_hall.specs.declared.view.Desk.{Desk}
use Rattle.meet_hall.specs.declared.view.Chit.{Chit}
use Rattle.meet_hall.specs.declared.view.Trace.{Trace}
use Rattle.meet_hall.specs.declared.view.View.{View}
use Rattle.meet_hall.specs.declared.view.View.TheVariants.{Builds, Holds, Issues, Takes, Parks, Lasts, Ends, Comes, Puts, Gone}
use Rattle.meet_hall.specs.Places.{without}

-- stands where there is no hall
abbrev pub no_hall : TableId
no_hall = record { words = 0; slots = 0; views_name = 0; atom = 0; block = 0; offset = 0; slot_names = [] }

-- the holder of a meeting as the hall is built: round 0, nothing issued, nothing left
abbrev pub first_desk : TableId → ℕ → ℕ → ℕ → Desk
first_desk hall meeting base places =
    record { hall = hall; meeting = meeting; round = 0; base = base; places = places; issued = []; left = [] }

-- the holder after it issued a place
abbrev pub issuing_desk : Desk → ℕ → Desk
issuing_desk d place = record d { issued = d.issued ++ place ∷ [] }

-- the holder after it took the note of a place
abbrev pub noted_desk : Desk → ℕ → Desk
noted_desk d place = record d { left = without place d.left }

-- the holder of the next round: nothing is issued, and the places of the round that ended are left
abbrev pub next_desk : Desk → Desk
next_desk d = record d { round = d.round + 1; issued = []; left = d.issued }

-- the ticket of a place that this holder issued
abbrev pub chit_from : Desk → ℕ → Chit
chit_from d place =
    record { hall = d.hall; meeting = d.meeting; round = d.round; base = d.base; places = d.places; place = place }

-- the holder of the ticket's round, which issued these places
abbrev pub desk_from : Chit → List ℕ → Desk
desk_from c issued =
    record { hall = c.hall; meeting = c.meeting; round = c.round; base = c.base; places = c.places; issued = issued; left = [] }

-- the slot of the ticket's note
abbrev pub slot_of : Chit → ℕ
slot_of c = c.base + suc c.place

-- what the holder knows once it has come
abbrev pub holder_trace : Desk → List Move → Trace
holder_trace d log = record { hall = d.hall; meeting = d.meeting; round = d.round; log = log }

-- what the ticket knows once it has come
abbrev pub ticket_trace : Chit → List Move → Trace
ticket_trace c log = record { hall = c.hall; meeting = c.meeting; round = c.round; log = log }

abbrev no_desk : Desk
no_desk = first_desk no_hall 0 0 0

abbrev no_chit : Chit
no_chit = chit_from no_desk 0

-- what a holder knows, by its view
abbrev pub desk_of : View → Desk
desk_of (Builds b) = no_desk
desk_of (Holds d) = d
desk_of (Issues d place) = d
desk_of (Takes d place) = d
desk_of (Parks d) = d
desk_of (Lasts d) = d
desk_of (Ends d) = d
desk_of (Comes c) = no_desk
desk_of (Puts c) = no_desk
desk_of (Gone t) = no_desk

-- what a ticket knows, by its view
abbrev pub chit_of : View → Chit
chit_of (Builds b) = no_chit
chit_of (Holds d) = no_chit
chit_of (Issues d place) = no_chit
chit_of (Takes d place) = no_chit
chit_of (Parks d) = no_chit
chit_of (Lasts d) = no_chit
chit_of (Ends d) = no_chit
chit_of (Comes c) = c
chit_of (Puts c) = c
chit_of (Gone t) = no_chit

-- the meeting whose holder is made next, or the place that was counted or whose note is out, by the view
abbrev pub number_of : View → ℕ
number_of (Builds b) = b
number_of (Holds d) = 0
number_of (Issues d place) = place
number_of (Takes d place) = place
number_of (Parks d) = 0
number_of (Lasts d) = 0
number_of (Ends d) = 0
number_of (Comes c) = 0
number_of (Puts c) = 0
number_of (Gone t) = 0

abbrev no_trace : Trace
no_trace = holder_trace no_desk []

-- what a party that came knows, by its view
abbrev pub trace_of : View → Trace
trace_of (Builds b) = no_trace
trace_of (Holds d) = no_trace
trace_of (Issues d place) = no_trace
trace_of (Takes d place) = no_trace
trace_of (Parks d) = no_trace
trace_of (Lasts d) = no_trace
trace_of (Ends d) = no_trace
trace_of (Comes c) = no_trace
trace_of (Puts c) = no_trace
trace_of (Gone t) = t

-- the one view of a seat
abbrev pub first_view : List View → View
first_view [] = Builds 0
first_view (v ∷ views) = v
