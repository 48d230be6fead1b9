-- The postings of a legal history, in the order of their calls.
use Rattle.std.specs.Prelude.{◌≡◌, ℕ, false, List, [], ◌∷◌, ◌++◌, map, length, slice_get, Contains, ℤ, Option, Some, None, if◌then◌else◌}
use Rattle.std.specs.List.{flat_map}
use Rattle.rt_base.specs.declared.data.ReqNo.{ReqNo}
use Rattle.rt_base.specs.declared.data.Op.{Op}
use Rattle.rt_base.specs.declared.data.TaskDef.{TaskDef}
use Rattle.rt_base.specs.declared.data.Status.{Status}
use Rattle.rt_base.specs.declared.data.Entry.{Entry}
use Rattle.rt_base.specs.declared.data.Entry.TheVariants as entry
use Rattle.rt_base.specs.declared.data.Program.{Program}
use Rattle.rt_base.specs.Operations.{request, nth_at, is_posting, given}
use Rattle.rt_base.specs.Matching.{Message, Receive, is_match}
use Rattle.rt_base.specs.Exchange.{silent, mailbox_of, what_is_posted}
use Rattle.rt_base.specs.State.{State, Task, opening}
use Rattle.match_engine.specs.Laws.{Posted, after, AreNew}
use Rattle.task_local.specs.Packed.{packed}
use Rattle.task_machine.specs.Machine.{step}
use Rattle.task_machine.specs.Legal.{caller, final, IsLegal}

-- an operation of a task, both by number
pub record Place : Type 0 where
  pub task : ℕ
  pub op : ℕ

-- the operation that an entry calls, where it is a call
abbrev pub call_in : Entry → Option Place
call_in (entry.Start task) = None
call_in (entry.Call task op pending) = Some (record { task = task.0; op = op })
call_in (entry.Leave task op from count) = None
call_in (entry.Return task) = None
call_in (entry.Release task from count) = None
call_in (entry.Poll poller req) = None

-- the request that operation k of task t posts, where it is a posting
abbrev pub posted_at : ℕ → ℕ → TaskDef → Option Op → List ReqNo
posted_at t k def None = []
posted_at t k def (Some operation) = if is_posting operation then request t (nth_at def k) ∷ [] else []

-- the request that operation k of a task posts, if it is a posting
abbrev pub posted_in : ℕ → ℕ → Option TaskDef → List ReqNo
posted_in t k None = []
posted_in t k (Some def) = posted_at t k def (slice_get def.body.items k)

-- the request that an entry posts: the call of a posting
abbrev pub posted_by_entry : Program → Entry → List ReqNo
posted_by_entry program made = given [] (λ (at : Place). posted_in at.task at.op (slice_get program.tasks.items at.task)) (call_in made)

-- the requests that are posted by these entries, in the order of the calls
abbrev pub all_posted : Program → List Entry → List ReqNo
all_posted program entries = flat_map (posted_by_entry program) entries

-- the cells that operation k of a task would send: those that its copy has (MPI 4.0, 3.2.1; the copy is this project's)
abbrev pub cells_at_call : ℕ → Option TaskDef → Option Task → List ℤ
cells_at_call k None task = []
cells_at_call k (Some def) None = []
cells_at_call k (Some def) (Some task) = packed def k task.copy

-- the cells that the call of an entry would send that is made in this state
abbrev pub cells_of_entry : Program → State → Entry → List ℤ
cells_of_entry program state made =
    given [] (λ (at : Place). cells_at_call at.op (slice_get program.tasks.items at.task) (slice_get state.tasks at.task)) (call_in made)

-- what an entry posts that is made in this state: what the program says of its request, with the cells that the copy of its task has at the call
abbrev pub postings_by_entry : Program → State → Entry → List Posted
postings_by_entry program state made =
    map (λ (req : ReqNo). record { request = req; posting = what_is_posted program req (cells_of_entry program state made) })
    (posted_by_entry program made)

-- what these entries post from this state on, each in the state to which those before it lead
abbrev pub postings_from : Program → State → List Entry → List Posted
postings_from program state [] = []
postings_from program state (made ∷ entries) =
    postings_by_entry program state made ++ postings_from program (step program state (caller (length program.tasks.items) made)).state entries

-- the postings of a history, in the order of their calls
abbrev pub postings_of : Program → List Entry → List Posted
postings_of program entries = postings_from program (opening program) entries

-- these are the postings of the history, each what the program says of its request, in the order of their calls and each for the first time,
-- and the exchange after the history is the one after them
pub record Traces (program : Program) (entries : List Entry) (calls : List Posted) : Type 0 where
  pub posts : calls ≡ postings_of program entries
  pub requests : map (λ (call : Posted). call.request) calls ≡ all_posted program entries
  pub new : AreNew (silent program.ranks) calls
  pub exchange : (final program entries).exchange ≡ after (silent program.ranks) calls

-- each legal history is traced by its postings
abbrev pub HistoriesPostInOrder : Type 0
HistoriesPostInOrder =
    (program : Program) (workers : ℕ) (entries : List Entry) (statuses : List Status) → IsLegal program workers entries statuses
    → Traces program entries (postings_of program entries)

-- after a legal history no unmatched message matches an unmatched receive of its rank (MPI 4.0, 3.5, progress)
abbrev pub NothingMatchesAtTheEnd : Type 0
NothingMatchesAtTheEnd =
    (program : Program) (workers : ℕ) (entries : List Entry) (statuses : List Status) → IsLegal program workers entries statuses
    → (rank : ℕ) (message : Message) (wish : Receive)
    → Contains (mailbox_of (final program entries).exchange rank).messages message
    → Contains (mailbox_of (final program entries).exchange rank).receives wish
    → is_match wish message ≡ false
