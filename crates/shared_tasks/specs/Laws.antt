-- How the tickets that lie in the book follow the machine.
use Rattle.std.specs.Prelude.{◌≡◌, ℕ, List, ◌∷◌, Option, None, IsSome, MatchOption}
use Rattle.rt_base.specs.declared.data.ReqNo.{ReqNo}
use Rattle.rt_base.specs.declared.data.Program.{Program}
use Rattle.rt_base.specs.State.{State, opening}
use Rattle.task_machine.specs.Machine.{move, poll}
use Rattle.task_machine.specs.Owed.{opened, IsOwed}
use Rattle.pass_table.specs.Passes.{TableId}
use Rattle.meet_hall.specs.Holders.{HolderIs, TicketIs}
use Rattle.turn_table.specs.declared.hands.Door.{Door}
use Rattle.shared_tasks.specs.Places.{IsHolder, meeting_of}
use Rattle.shared_tasks.specs.Owing.{place_in, lying_in, with_ticket, IsTicketOf, KeepsTickets, HasOpened}

-- at first no task is to be told of anything, so no ticket need lie
abbrev pub NoneOwedAtFirst : Type 0
NoneOwedAtFirst = (program : Program) (site : TableId) (rows : List (List (Option TicketIs))) → KeepsTickets program site (opening program) rows

-- a move whose task's holder issued the places of what it opens keeps the tickets; where it opens nothing, that is every move (TAMPI, completion by polling)
abbrev pub MovesKeepTickets : Type 0
MovesKeepTickets =
    (program : Program) (site : TableId) (state : State) (t : ℕ) (door : Door) (holder : HolderIs) (old new : List (List (Option TicketIs)))
    → IsHolder program site t (meeting_of door t) holder → KeepsTickets program site state old → HasOpened holder (opened program state t) old new
    → KeepsTickets program site (move program state t).state new

-- the request of the first notice has its ticket (TAMPI, completion by polling)
abbrev pub NoticesHaveTickets : Type 0
NoticesHaveTickets =
    (program : Program) (site : TableId) (state : State) (req : ReqNo) (later : List ReqNo) (rows : List (List (Option TicketIs)))
    → KeepsTickets program site state rows → state.notices ≡ req ∷ later → MatchOption (lying_in rows req) ⊥ (IsTicketOf program site req)

-- a poll after which a request is not owed any more may take its ticket (TAMPI, completion by polling)
abbrev pub PollsKeepTickets : Type 0
PollsKeepTickets =
    (program : Program) (site : TableId) (state : State) (poller : ℕ) (req : ReqNo) (rows : List (List (Option TicketIs)))
    → KeepsTickets program site state rows → IsSome (place_in rows req) → (IsOwed program (poll state poller).state req → ⊥)
    → KeepsTickets program site (poll state poller).state (with_ticket rows req None)
