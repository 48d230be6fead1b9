-- The operations of a body: their parts, which post, which block, and what they name.
use Rattle.std.specs.Prelude.{ℕ, Bool, true, false, not, List, [], ◌∷◌, take, filter, count_by, slice_get, ℤ, Option, Some, None, is_some}
use Rattle.std.specs.Prelude.{option_and_then, if◌then◌else◌}
use Rattle.rt_base.specs.declared.data.TaskNo.{TaskNo}
use Rattle.rt_base.specs.declared.data.ReqNo.{ReqNo}
use Rattle.rt_base.specs.declared.data.Span.{Span}
use Rattle.rt_base.specs.declared.data.Kernel.{Kernel}
use Rattle.rt_base.specs.declared.data.Peer.{Peer}
use Rattle.rt_base.specs.declared.data.TagSel.{TagSel}
use Rattle.rt_base.specs.declared.data.How.{How}
use Rattle.rt_base.specs.declared.data.How.TheVariants as how
use Rattle.rt_base.specs.declared.data.Handle.{Handle}
use Rattle.rt_base.specs.declared.data.Handle.TheVariants as handle
use Rattle.rt_base.specs.declared.data.Op.{Op}
use Rattle.rt_base.specs.declared.data.Op.TheVariants as op
use Rattle.rt_base.specs.declared.data.TaskDef.{TaskDef}
use Rattle.rt_base.specs.declared.data.Program.{Program}

-- the task of this number
abbrev pub task_no : ℕ → TaskNo
task_no t = record { 0 = t }

-- the nth posting of task t
abbrev pub request : ℕ → ℕ → ReqNo
request t n = record { task = task_no t; nth = n }

-- whether the call returns only when its request is complete (MPI 4.0, 3.4 and 3.7)
abbrev pub blocks : How → Bool
blocks how.Send = true
blocks how.Ssend = true
blocks how.Recv = true
blocks how.Isend = false
blocks how.Issend = false
blocks how.Irecv = false

-- whether it is a receive (MPI 4.0, 3.2.4 and 3.7.2)
abbrev pub is_receive : How → Bool
is_receive how.Send = false
is_receive how.Ssend = false
is_receive how.Recv = true
is_receive how.Isend = false
is_receive how.Issend = false
is_receive how.Irecv = true

-- whether it is a send in standard mode (MPI 4.0, 3.4)
abbrev pub is_standard : How → Bool
is_standard how.Send = true
is_standard how.Ssend = false
is_standard how.Recv = false
is_standard how.Isend = true
is_standard how.Issend = false
is_standard how.Irecv = false

-- the parts of a local operation
pub record KernelParts : Type 0 where
  pub kernel : Kernel
  pub dst : Span
  pub left : Option Span
  pub right : Option Span
  pub value : ℤ
  pub step : ℤ

-- the parts of a posting (MPI 4.0, 3.2 and 3.7.2)
pub record PostingParts : Type 0 where
  pub how : How
  pub span : Span
  pub peer : Peer
  pub tag : TagSel
  pub comm : ℕ
  pub status : Option Span

-- the parts of a wait (MPI 4.0, 3.7.3 and 3.7.5; TAMPI, TAMPI_Iwait and TAMPI_Iwaitall)
pub record WaitParts : Type 0 where
  pub later : Bool
  pub handles : List Handle
  pub status : Option Span

-- the parts of an operation that is a local one
abbrev pub kernel_parts : Op → Option KernelParts
kernel_parts (op.Compute kernel dst left right value step) =
    Some (record { kernel = kernel; dst = dst; left = left; right = right; value = value; step = step })
kernel_parts (op.Post how span peer tag comm status) = None
kernel_parts (op.Await later handles status) = None

-- the parts of an operation that is a posting
abbrev pub posting_parts : Op → Option PostingParts
posting_parts (op.Compute kernel dst left right value step) = None
posting_parts (op.Post how span peer tag comm status) =
    Some (record { how = how; span = span; peer = peer; tag = tag; comm = comm; status = status })
posting_parts (op.Await later handles status) = None

-- the parts of an operation that is a wait
abbrev pub wait_parts : Op → Option WaitParts
wait_parts (op.Compute kernel dst left right value step) = None
wait_parts (op.Post how span peer tag comm status) = None
wait_parts (op.Await later handles status) = Some (record { later = later; handles = handles.items; status = status })

-- what is said of the parts where there are any, and what is said else
abbrev pub given : {A B : Type 0} → A → (B → A) → Option B → A
given other said None = other
given other said (Some parts) = said parts

-- what is said of the parts of a posting, of those of a wait, and of every other operation
abbrev pub by_parts : {A : Type 0} → A → (PostingParts → A) → (WaitParts → A) → Op → A
by_parts other posted waited operation = given (given other waited (wait_parts operation)) posted (posting_parts operation)

-- the same of an operation that may not be there
abbrev pub by_parts_of : {A : Type 0} → A → (PostingParts → A) → (WaitParts → A) → Option Op → A
by_parts_of other posted waited None = other
by_parts_of other posted waited (Some operation) = by_parts other posted waited operation

-- whether the operation posts a request (MPI 4.0, 3.7)
abbrev pub is_posting : Op → Bool
is_posting operation = is_some (posting_parts operation)

-- whether the operation is a local one, which makes no call
abbrev pub is_local : Op → Bool
is_local operation = is_some (kernel_parts operation)

-- how many of these operations post
abbrev pub postings : List Op → ℕ
postings ops = count_by is_posting ops

-- the number of the request that operation k of the body would post
abbrev pub nth_at : TaskDef → ℕ → ℕ
nth_at task k = postings (take k task.body.items)

-- the operation that posts this request
abbrev pub posting_of : Program → ReqNo → Option Op
posting_of program req = option_and_then (λ task. slice_get (filter is_posting task.body.items) req.nth) (slice_get program.tasks.items req.task.0)

-- the requests that handles of task t name, null ones left out (MPI 4.0, 3.7.3: a null request is complete)
abbrev pub named_requests : ℕ → List Handle → List ReqNo
named_requests t [] = []
named_requests t (handle.Null ∷ handles) = named_requests t handles
named_requests t (handle.Nth n ∷ handles) = request t n ∷ named_requests t handles

-- the requests for which task t waits in this operation, whose request would be the nth: its own where it is a posting that blocks,
-- and those that it names where it is a wait (MPI 4.0, 3.7.3 and 3.7.5)
abbrev pub awaited_by : ℕ → ℕ → Option Op → List ReqNo
awaited_by t n operation =
    by_parts_of [] (λ posted. if blocks posted.how then request t n ∷ [] else []) (λ waited. named_requests t waited.handles) operation

-- the requests for which task t waits in operation k
unfoldable pub awaited : ℕ → TaskDef → ℕ → List ReqNo
awaited t task k = awaited_by t (nth_at task k) (slice_get task.body.items k)
