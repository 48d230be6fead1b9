-- What a run is built of, and which holders belong to its tasks.
use Rattle.std.specs.Prelude.{◌≡◌, ℕ, ◌+◌, ◌<◌, ◌≤◌, List, [], ◌∷◌, length, slice_get, Option, Some}
use Rattle.rt_base.specs.declared.data.TaskDef.{TaskDef}
use Rattle.rt_base.specs.declared.data.Program.{Program}
use Rattle.rt_base.specs.Operations.{postings}
use Rattle.rt_base.specs.WellFormed.{WellFormed}
use Rattle.pass_table.specs.Passes.{TableId, PassIs, new_pass}
use Rattle.meet_hall.specs.Holders.{TicketIs}
use Rattle.listed_book.specs.Listed.{BookIs}
use Rattle.shared_tasks.specs.Owing.{no_tickets}
use Rattle.shared_book.specs.declared.pairs.Pair.{Pair}

-- the program, the number of workers, and the table of the passes
pub record PartsAre : Type 0 where
  pub program : Program
  pub workers : ℕ
  pub table : TableId

-- how many places each meeting has: of each task its pause meeting and its event meeting, with a place for each of its requests, and behind them one
-- meeting without a place, so that the hall of a program without tasks has one (this project's)
abbrev pub meeting_places : List TaskDef → List ℕ
meeting_places [] = 0 ∷ []
meeting_places (task ∷ tasks) = postings task.body.items ∷ postings task.body.items ∷ meeting_places tasks

-- the parts are those of one program: an opening book with its table, no ticket, a pass for each poller, and room for two holders of each task
pub record KeepsParts (table : TableId) (book : BookIs) (rows : List (List (Option TicketIs))) (pollers : List PassIs) (pairs : List (Option Pair)) (room : ℕ)
    (places : List ℕ) : Type 0 where
  pub well_formed : WellFormed book.program
  pub table_is : book.table ≡ table
  pub first : book.seen ≡ []
  pub tickets : rows ≡ no_tickets book.program
  pub counted : length pollers ≡ book.workers
  pub passes : (w : ℕ) → w < book.workers → slice_get pollers w ≡ Some (new_pass table (length book.program.tasks.items + w))
  pub empty : pairs ≡ []
  pub room_is : length book.program.tasks.items ≤ room
  pub places_are : places ≡ meeting_places book.program.tasks.items
