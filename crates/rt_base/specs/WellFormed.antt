-- What holds of every program that is run: all that the language asks of it. The limits are this project's own.
use Rattle.std.specs.Prelude.{◌≡◌, ◌≢◌, ℕ, ◌+◌, ◌*◌, ◌^◌, ◌<◌, ◌≤◌, Bool, true, false, List, [], ◌∷◌, ◌++◌, length, Contains, All, AllPairs, Any, sum}
use Rattle.std.specs.Prelude.{sum_by, count_by, filter, slice_index_or, ℤ, pos, ◌≤ℤ◌, Option, Some, None, IfSome, ⊤, if◌then◌else◌}
use Rattle.std.specs.List.{list_any}
use Rattle.rt_base.specs.declared.data.Span.{Span}
use Rattle.rt_base.specs.declared.data.Access.{Access}
use Rattle.rt_base.specs.declared.data.Kernel.{Kernel}
use Rattle.rt_base.specs.declared.data.Kernel.TheVariants as kernel
use Rattle.rt_base.specs.declared.data.How.{How}
use Rattle.rt_base.specs.declared.data.How.TheVariants as how
use Rattle.rt_base.specs.declared.data.Peer.{Peer}
use Rattle.rt_base.specs.declared.data.Peer.TheVariants as peer
use Rattle.rt_base.specs.declared.data.TagSel.{TagSel}
use Rattle.rt_base.specs.declared.data.TagSel.TheVariants as tag
use Rattle.rt_base.specs.declared.data.Handle.{Handle}
use Rattle.rt_base.specs.declared.data.Handle.TheVariants as handle
use Rattle.rt_base.specs.declared.data.Op.{Op}
use Rattle.rt_base.specs.declared.data.Op.TheVariants as op
use Rattle.rt_base.specs.declared.data.LimitName.TheVariants as limit
use Rattle.rt_base.specs.declared.data.TaskDef.{TaskDef}
use Rattle.rt_base.specs.declared.data.Program.{Program}
use Rattle.rt_base.specs.Spans.{span_len, Covers, Overlaps, is_written}
use Rattle.rt_base.specs.Layout.{array_count, array_len, memory_len, starts_from}
use Rattle.rt_base.specs.Operations.{postings, is_receive, posting_parts, wait_parts, given}
use Rattle.rt_base.specs.InUse.{left_after, is_in_use}
use Rattle.rt_base.specs.Pieces.{pieces}
use Rattle.rt_base.specs.Limits.{most}

-- the bounds are in order, and a span that isn't empty lies in an array of the rank
pub record IsSpan (program : Program) (rank : ℕ) (span : Span) : Type 0 where
  pub ordered : span.from ≤ span.to
  pub array : span.from < span.to → span.array < array_count program
  pub inside : span.from < span.to → span.to ≤ array_len program rank span.array

-- the access declares this cell of the array
abbrev pub Declares : ℕ → ℕ → Access → Type 0
Declares array cell access = (access.span.array ≡ array) × Covers access.span cell

-- each cell of the span lies in an access of the task (OmpSs-2, data accesses: a task works on what it declares)
abbrev pub IsDeclared : List Access → Span → Type 0
IsDeclared accesses span = (cell : ℕ) → Covers span cell → Any (Declares span.array cell) accesses

-- each cell of the span lies in an access that may be written
abbrev pub IsWritable : List Access → Span → Type 0
IsWritable accesses span = (cell : ℕ) → Covers span cell → Any (λ access. Declares span.array cell access × (is_written access.mode ≡ true)) accesses

-- a span that an operation of the task may read
pub record MayRead (program : Program) (task : TaskDef) (span : Span) : Type 0 where
  pub in_array : IsSpan program task.rank span
  pub declared : IsDeclared task.accesses.items span

-- a span that an operation of the task may write
pub record MayWrite (program : Program) (task : TaskDef) (span : Span) : Type 0 where
  pub in_array : IsSpan program task.rank span
  pub declared : IsDeclared task.accesses.items span
  pub writable : IsWritable task.accesses.items span

-- the fact holds of the span, if there is one
abbrev pub OfSpan : (Span → Type 0) → Option Span → Type 0
OfSpan Fact None = ⊤
OfSpan Fact (Some span) = Fact span

-- no source at all, one source of which this holds, two sources of which this holds
abbrev pub NoSource : Option Span → Option Span → Type 0
NoSource None None = ⊤
NoSource None (Some right) = ⊥
NoSource (Some left) right = ⊥

-- a kernel with one source: the left one, of which this holds
abbrev pub OneSource : (Span → Type 0) → Option Span → Option Span → Type 0
OneSource Fact None right = ⊥
OneSource Fact (Some left) None = Fact left
OneSource Fact (Some left) (Some right) = ⊥

-- a kernel with two sources, of which this holds
abbrev pub TwoSources : (Span → Span → Type 0) → Option Span → Option Span → Type 0
TwoSources Fact None right = ⊥
TwoSources Fact (Some left) None = ⊥
TwoSources Fact (Some left) (Some right) = Fact left right

-- the sources that a kernel takes, and what it asks of their lengths and of its number
abbrev pub IsKernelCall : Kernel → Span → Option Span → Option Span → ℤ → Type 0
IsKernelCall kernel.Fill dst left right value = NoSource left right
IsKernelCall kernel.Ramp dst left right value = NoSource left right
IsKernelCall kernel.Copy dst left right value = OneSource (λ a. span_len a ≡ span_len dst) left right
IsKernelCall kernel.Add dst left right value = TwoSources (λ a b. (span_len a ≡ span_len dst) × (span_len b ≡ span_len dst)) left right
IsKernelCall kernel.Sub dst left right value = TwoSources (λ a b. (span_len a ≡ span_len dst) × (span_len b ≡ span_len dst)) left right
IsKernelCall kernel.Scale dst left right value = OneSource (λ a. span_len a ≡ span_len dst) left right
IsKernelCall kernel.Shift dst left right value = OneSource (λ a. span_len a ≡ span_len dst) left right × (pos 0 ≤ℤ value) × (value ≤ℤ pos 63)
IsKernelCall kernel.Jacobi2 dst left right value = OneSource (λ a. span_len a ≡ span_len dst + 2) left right
IsKernelCall kernel.Sum dst left right value = OneSource (λ a. span_len dst ≡ 1) left right
IsKernelCall kernel.Least dst left right value = OneSource (λ a. (span_len dst ≡ 1) × (0 < span_len a)) left right
IsKernelCall kernel.Greatest dst left right value = OneSource (λ a. (span_len dst ≡ 1) × (0 < span_len a)) left right

-- the peer exists where it is a rank
abbrev pub IsPeer : Program → Peer → Type 0
IsPeer program (peer.Rank rank) = rank < program.ranks
IsPeer program peer.Any = ⊤
IsPeer program peer.Null = ⊤

-- a tag is at most 32,767 (MPI 4.0, 3.2.3: the greatest tag is at least that)
abbrev pub IsTag : TagSel → Type 0
IsTag (tag.Tag chosen) = chosen ≤ 32767
IsTag tag.Any = ⊤

-- a send names one rank or the null process, and one tag (MPI 4.0, 3.2.3)
abbrev pub IsAddress : Peer → TagSel → Type 0
IsAddress (peer.Rank rank) (tag.Tag chosen) = ⊤
IsAddress (peer.Rank rank) tag.Any = ⊥
IsAddress peer.Any selected = ⊥
IsAddress peer.Null (tag.Tag chosen) = ⊤
IsAddress peer.Null tag.Any = ⊥

-- what a posting of each kind asks of its span, its peer and its tag: a receive writes the span, a send reads it
abbrev pub IsSendOf : Program → TaskDef → Span → Peer → TagSel → Option Span → Type 0
IsSendOf program task span whom selected None = MayRead program task span × IsAddress whom selected
IsSendOf program task span whom selected (Some status) = ⊥

-- a receive writes within the task's accesses, and so does its status, which has four cells
abbrev pub IsReceiveOf : Program → TaskDef → Span → Option Span → Type 0
IsReceiveOf program task span status = MayWrite program task span × OfSpan (λ cells. MayWrite program task cells × (span_len cells ≡ 4)) status

-- a posting may be one of the task, by how it is posted
abbrev pub IsPostingOf : Program → TaskDef → How → Span → Peer → TagSel → Option Span → Type 0
IsPostingOf program task how.Send span whom selected status = IsSendOf program task span whom selected status
IsPostingOf program task how.Ssend span whom selected status = IsSendOf program task span whom selected status
IsPostingOf program task how.Recv span whom selected status = IsReceiveOf program task span status
IsPostingOf program task how.Isend span whom selected status = IsSendOf program task span whom selected status
IsPostingOf program task how.Issend span whom selected status = IsSendOf program task span whom selected status
IsPostingOf program task how.Irecv span whom selected None = MayWrite program task span
IsPostingOf program task how.Irecv span whom selected (Some status) = ⊥

-- the operation may stand in the body of the task
abbrev pub IsOperation : Program → TaskDef → Op → Type 0
IsOperation program task (op.Compute kind dst left right value step) =
    MayWrite program task dst × OfSpan (MayRead program task) left × OfSpan (MayRead program task) right × IsKernelCall kind dst left right value
IsOperation program task (op.Post kind span whom selected comm status) =
    IsPostingOf program task kind span whom selected status × IsPeer program whom × IsTag selected × (comm < program.comms)
IsOperation program task (op.Await later handles status) =
    OfSpan (λ cells. MayWrite program task cells × (span_len cells ≡ 4 * length handles.items)) status

-- a handle names a request that was posted, was not waited for in the call, and was not named by a wait before (MPI 4.0, 3.7.3)
abbrev pub IsOpen : List Op → Handle → Type 0
IsOpen earlier handle.Null = ⊤
IsOpen earlier (handle.Nth n) = Contains (left_after 0 earlier) n

-- two handles name different requests, or none
abbrev pub NamesOther : Handle → Handle → Type 0
NamesOther handle.Null other = ⊤
NamesOther (handle.Nth n) handle.Null = ⊤
NamesOther (handle.Nth n) (handle.Nth m) = n ≢ m

-- each handle of a wait names an open request, and each another one
abbrev pub NamesOpen : List Op → Op → Type 0
NamesOpen earlier operation = IfSome (wait_parts operation) (λ waited. All (IsOpen earlier) waited.handles × AllPairs NamesOther waited.handles)

-- the operation may follow these of the body of a task with these accesses: its handles name open requests, each once, and it touches no cell in use
pub record Follows (accesses : List Access) (earlier : List Op) (operation : Op) : Type 0 where
  pub handles : NamesOpen earlier operation
  pub free : is_in_use accesses earlier operation ≡ false

-- a task: its rank exists, its regions lie in arrays and share no cell, its operations may stand there and follow one another,
-- and each request that the posting itself didn't wait for is named by a wait
pub record IsTask (program : Program) (task : TaskDef) : Type 0 where
  pub rank : task.rank < program.ranks
  pub regions : All (λ (access : Access). IsSpan program task.rank access.span) task.accesses.items
  pub apart : AllPairs (λ (one other : Access). ¬ Overlaps one.span other.span) task.accesses.items
  pub body : All (IsOperation program task) task.body.items
  pub follows : (earlier later : List Op) (operation : Op) → task.body.items ≡ earlier ++ operation ∷ later → Follows task.accesses.items earlier operation
  pub none_left : left_after 0 task.body.items ≡ []

-- the cells that an operation sends
abbrev pub cells_sent : Op → ℕ
cells_sent operation = given 0 (λ posted. if is_receive posted.how then 0 else span_len posted.span) (posting_parts operation)

-- the handles that an operation names
abbrev pub names_of : Op → ℕ
names_of operation = given 0 (λ waited. length waited.handles) (wait_parts operation)

-- the sum over all operations of all tasks
abbrev pub over_operations : (Op → ℕ) → List TaskDef → ℕ
over_operations count tasks = sum_by (λ (task : TaskDef). sum_by count task.body.items) tasks

-- the cells of all regions of a task
abbrev pub region_cells : TaskDef → ℕ
region_cells task = sum_by (λ (access : Access). span_len access.span) task.accesses.items

-- one task stands before another: in order of rank, and within a rank no epoch falls
abbrev pub InOrder : TaskDef → TaskDef → Type 0
InOrder earlier later = (earlier.rank ≤ later.rank) × (earlier.rank ≡ later.rank → earlier.epoch ≤ later.epoch)

-- a program that may be run
pub record WellFormed (program : Program) : Type 0 where
  pub some_rank : 1 ≤ program.ranks
  pub ranks : program.ranks ≤ 64
  pub eager : program.eager ≤ 16777216
  pub comms : 1 ≤ program.comms
  pub few_comms : program.comms ≤ most limit.Comms
  pub arrays : array_count program ≤ most limit.Arrays
  pub lens : length program.lens.items ≡ program.ranks * array_count program
  pub starts : program.starts.items ≡ starts_from 0 program.lens.items
  pub cells : memory_len program ≤ most limit.Cells
  pub shows : All (λ array. array < array_count program) program.shows.items
  pub shown_once : AllPairs (λ one other. one ≢ other) program.shows.items
  pub task_count : length program.tasks.items ≤ most limit.Tasks
  pub access_count : sum_by (λ (task : TaskDef). length task.accesses.items) program.tasks.items ≤ most limit.Accesses
  pub access_cells : sum_by region_cells program.tasks.items ≤ most limit.AccessCells
  pub operations : sum_by (λ (task : TaskDef). length task.body.items) program.tasks.items ≤ most limit.Operations
  pub requests : sum_by (λ (task : TaskDef). postings task.body.items) program.tasks.items ≤ most limit.Requests
  pub handles : over_operations names_of program.tasks.items ≤ most limit.Names
  pub message_cells : over_operations cells_sent program.tasks.items ≤ most limit.MessageCells
  pub few_pieces : pieces program.tasks.items ≤ most limit.Pieces
  pub order : AllPairs InOrder program.tasks.items
  pub tasks : All (IsTask program) program.tasks.items
