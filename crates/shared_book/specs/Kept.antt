-- What the lock keeps. No public clause cites this module.
use Rattle.std.specs.Prelude.{◌≡◌, ℕ, ◌<◌, Bool, true, false, List, [], length, slice_get, Option, Some, None, IsSome, ⊤}
use Rattle.rt_base.specs.declared.data.ReqNo.{ReqNo}
use Rattle.rt_base.specs.declared.data.Program.{Program}
use Rattle.rt_base.specs.WellFormed.{WellFormed}
use Rattle.pass_table.specs.Passes.{TableId}
use Rattle.meet_hall.specs.Holders.{TicketIs}
use Rattle.shared_lists.specs.Deeds.{is_offered}
use Rattle.listed_book.specs.Listed.{BookIs, state_in}
use Rattle.turn_table.specs.declared.hands.Door.TheVariants.{Pause, Events}
use Rattle.shared_tasks.specs.Places.{IsHolder, meeting_of, requests_of}
use Rattle.shared_tasks.specs.Owing.{place_in, KeepsTickets}
use Rattle.shared_book.specs.declared.pairs.Pair.{Pair}

-- the holders of the two meetings of task t, which have issued nothing
pub record IsPairOf (program : Program) (site : TableId) (t : ℕ) (pair : Pair) : Type 0 where
  pub pause : IsHolder program site t (meeting_of Pause t) pair.pause
  pub events : IsHolder program site t (meeting_of Events t) pair.events
  pub none_issued : (pair.pause.issued ≡ []) × (pair.events.issued ≡ [])

-- what lies for a task: its holders, until it is offered
abbrev pub IsLying : Program → TableId → ℕ → Bool → Option Pair → Type 0
IsLying program site t true None = ⊤
IsLying program site t true (Some pair) = ⊥
IsLying program site t false None = ⊥
IsLying program site t false (Some pair) = IsPairOf program site t pair

-- each request of the program has a place for its ticket
abbrev pub HasPlaces : Program → List (List (Option TicketIs)) → Type 0
HasPlaces program rows = (req : ReqNo) → req.nth < requests_of (slice_get program.tasks.items req.task.0) → IsSome (place_in rows req)

-- the book is that of the names, each request that is owed has its ticket, and the holders of every task lie there that was not offered
pub record KeepsSection (program : Program) (workers : ℕ) (table site : TableId) (book : BookIs) (rows : List (List (Option TicketIs)))
    (pairs : List (Option Pair)) : Type 0 where
  pub well_formed : WellFormed program
  pub program_is : book.program ≡ program
  pub workers_is : book.workers ≡ workers
  pub table_is : book.table ≡ table
  pub places : HasPlaces program rows
  pub tickets : KeepsTickets program site (state_in book) rows
  pub counted : length pairs ≡ length program.tasks.items
  pub lying : (t : ℕ) (lies : Option Pair) → slice_get pairs t ≡ Some lies → IsLying program site t (is_offered t book.seen) lies
