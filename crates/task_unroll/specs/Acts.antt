-- What each statement does: its limits that come first, its operands, its tests, its limits that come last, and what it leaves (this project's).
use Rattle.std.specs.Prelude.{ℕ, zero, suc, ◌+◌, ◌-◌, ◌≡◌, ℤ, pos, negsuc, Bool, true, false, nat_eq, ◌&&◌, List, [], ◌∷◌, ◌++◌, length, Contains}
use Rattle.std.specs.Prelude.{slice_index_or, slice_get, Option, Some, None, is_some, is_none, ◌||◌, Result, Ok, Err, ⊤, if◌then◌else◌}
use Rattle.std.specs.List.{list_any}
use Rattle.rt_base.specs.Listing.{Listing}
use Rattle.rt_base.specs.declared.data.FaultKind.{FaultKind}
use Rattle.rt_base.specs.declared.data.FaultKind.TheVariants as fault
use Rattle.rt_base.specs.declared.data.LimitName.TheVariants as limit
use Rattle.rt_base.specs.declared.data.Span.{Span}
use Rattle.rt_base.specs.declared.data.Mode.{Mode}
use Rattle.rt_base.specs.declared.data.How.{How}
use Rattle.rt_base.specs.declared.data.Kernel.{Kernel}
use Rattle.rt_base.specs.KernelForms.{source_count, number_count}
use Rattle.rt_base.specs.declared.data.Op.{Op}
use Rattle.rt_base.specs.declared.data.Op.TheVariants as op
use Rattle.rt_base.specs.declared.data.TaskDef.{TaskDef}
use Rattle.rt_base.specs.Spans.{span_len}
use Rattle.rt_base.specs.Operations.{postings, blocks, is_receive}
use Rattle.rt_base.specs.InUse.{left_after}
use Rattle.rt_base.specs.WellFormed.{cells_sent}
use Rattle.task_tree.specs.declared.tree.SpanText.{SpanText}
use Rattle.task_tree.specs.declared.tree.PeerText.{PeerText}
use Rattle.task_tree.specs.declared.tree.PeerText.TheVariants as peer_text
use Rattle.task_tree.specs.declared.tree.TagText.{TagText}
use Rattle.task_tree.specs.declared.tree.TagText.TheVariants as tag_text
use Rattle.task_tree.specs.Term.{Term}
use Rattle.task_names.specs.declared.meaning.Meaning.TheVariants as meaning
use Rattle.task_names.specs.Scopes.{Names, meaning_of, with_meaning, as_array, may_be_set, may_be_posted, may_be_made}
use Rattle.task_names.specs.Values.{value}
use Rattle.task_unroll.specs.declared.refusal.ExpandRefusal.{ExpandRefusal}
use Rattle.task_unroll.specs.Unrolling.{◌>>=◌, at}
use Rattle.task_unroll.specs.States.{State, scene}
use Rattle.task_unroll.specs.Counting.{kept, stepped, operated}
use Rattle.task_unroll.specs.Operands.{span_of, spans_of, values_of, span_or_none, communicator_of, handles_of, peer_value, tag_value, peer_of, tag_of}
use Rattle.task_unroll.specs.Checks.{Check, check, passed, access_checks, op_checks, no_handle, stands_twice, is_busy}

-- a list as it is made from a vector
abbrev pub listed : {T : Type 0} → List T → Listing T
listed items = record { items = items; room = 0 }

-- an array has no negative length
abbrev pub sized : ℤ → Result ℕ FaultKind
sized (pos len) = Ok len
sized (negsuc len) = Err fault.BadSize

-- array NAME , expr
unfoldable pub array_made : ℕ → List ℕ → Term → State → Result State ExpandRefusal
array_made line name len s = do
  t ← stepped s
  free ← at line (may_be_made (meaning_of t.names name))
  number ← at line (value (scene t) len)
  size ← at line (sized number)
  count ← kept limit.Arrays (length t.arrays + 1)
  cells ← kept limit.Cells (t.counts.cells + size)
  Ok (record t {
    counts = record t.counts { cells = cells };
    names = with_meaning t.names name (meaning.Array (length t.arrays));
    arrays = t.arrays ++ name ∷ [];
    lens = t.lens ++ size ∷ [];
  })

-- show NAME
unfoldable pub shown : ℕ → List ℕ → State → Result State ExpandRefusal
shown line name s = do
  t ← stepped s
  array ← at line (as_array (meaning_of t.names name))
  once ← at line (passed (check fault.NameTaken (list_any (nat_eq array) t.shows) ∷ []))
  Ok (record t { shows = t.shows ++ array ∷ [] })

-- comm NAME: the next communicator (MPI 4.0, 7.2)
unfoldable pub comm_made : ℕ → List ℕ → State → Result State ExpandRefusal
comm_made line name s = do
  t ← stepped s
  free ← at line (may_be_made (meaning_of t.names name))
  comms ← kept limit.Comms (t.comms + 1)
  Ok (record t { names = with_meaning t.names name (meaning.Communicator t.comms); comms = comms })

-- a variable has this value from now on
abbrev pub with_variable : List ℕ → ℤ → State → State
with_variable name x s = record s { names = with_meaning s.names name (meaning.Variable x) }

-- let NAME = expr
unfoldable pub variable_set : ℕ → List ℕ → Term → State → Result State ExpandRefusal
variable_set line name e s = do
  t ← stepped s
  free ← at line (may_be_set (meaning_of t.names name))
  x ← at line (value (scene t) e)
  Ok (with_variable name x t)

-- taskwait: the tasks of the rank after it are of the next epoch (OmpSs-2, taskwait)
unfoldable pub taskwait_met : State → Result State ExpandRefusal
taskwait_met s = stepped s >>= λ t. Ok (record t { epoch = t.epoch + 1 })

-- task: no task is open yet, as in each text that was read
unfoldable pub task_begun : ℕ → State → Result State ExpandRefusal
task_begun line s = do
  t ← stepped s
  count ← kept limit.Tasks (length t.tasks + 1)
  alone ← at line (passed (check fault.Place t.in_task ∷ []))
  Ok (record t { in_task = true; before = t.names })

-- in, out, inout SPAN (OmpSs-2, data accesses)
unfoldable pub access_made : ℕ → Mode → SpanText → State → Result State ExpandRefusal
access_made line mode text s = do
  t ← stepped s
  span ← at line (span_of t text)
  apart ← at line (passed (access_checks t.accesses span))
  count ← kept limit.Accesses (t.counts.accesses + 1)
  cells ← kept limit.AccessCells (t.counts.access_cells + span_len span)
  Ok (record t {
    counts = record t.counts { accesses = count; access_cells = cells };
    accesses = t.accesses ++ record { mode = mode; span = span } ∷ [];
  })

-- an operation that has its operands is tested, and becomes the last of its body
unfoldable pub op_done : ℕ → Check → Op → State → Result State ExpandRefusal
op_done line handles operation t = do
  fine ← at line (passed (op_checks t.accesses t.body handles operation))
  cells ← kept limit.MessageCells (t.counts.message_cells + cells_sent operation)
  Ok (record t { counts = record t.counts { message_cells = cells }; body = t.body ++ operation ∷ [] })

-- the destination stands first, then the sources, and then the numbers. What a kernel doesn't have is None or 0
abbrev pub kernel_call : Kernel → List Span → List ℤ → Result Op FaultKind
kernel_call kind [] numbers = Err fault.Shape
kernel_call kind (dst ∷ sources) numbers =
    if nat_eq (length sources) (source_count kind) && nat_eq (length numbers) (number_count kind)
    then Ok (op.Compute kind dst (slice_get sources 0) (slice_get sources 1) (slice_index_or numbers 0 (pos 0)) (slice_index_or numbers 1 (pos 0)))
    else Err fault.Shape

-- a kernel: its spans and its numbers are worked out, and it becomes an operation
unfoldable pub kernel_done : ℕ → Kernel → List SpanText → List Term → State → Result State ExpandRefusal
kernel_done line kind texts terms s = do
  t ← operated 0 0 s
  spans ← at line (spans_of t texts)
  numbers ← at line (values_of t terms)
  operation ← at line (kernel_call kind spans numbers)
  op_done line no_handle operation t

-- the peer is any (MPI 4.0, 3.2.4)
abbrev pub is_any_peer : PeerText → Bool
is_any_peer (peer_text.At e) = false
is_any_peer peer_text.Any = true
is_any_peer peer_text.Null = false

-- the tag is any (MPI 4.0, 3.2.4)
abbrev pub is_any_tag : TagText → Bool
is_any_tag (tag_text.At e) = false
is_any_tag tag_text.Any = true

-- the call is the receive that blocks (MPI 4.0, 3.2.4)
abbrev pub is_recv : How → Bool
is_recv call = is_receive call && blocks call

-- whether a call has a handle, whom it may name, and whether it may have a status, as in each text that was read
abbrev pub call_checks : How → Option (List ℕ) → PeerText → TagText → Option SpanText → List Check
call_checks call handle to number status =
    check fault.Shape (if blocks call then is_some handle else is_none handle)
    ∷ check fault.Shape (if is_receive call then false else (is_any_peer to || is_any_tag number))
    ∷ check fault.Shape (if is_recv call then false else is_some status) ∷ []

-- the name of the handle has no meaning yet, or is that of a handle
abbrev pub handle_free : State → Option (List ℕ) → Result ⊤ FaultKind
handle_free s None = Ok tt
handle_free s (Some name) = may_be_posted (meaning_of s.names name)

-- the handle is not that of a request which no wait has named yet
abbrev pub handle_check : State → Option (List ℕ) → Check
handle_check s None = no_handle
handle_check s (Some name) = check fault.RequestBusy (is_busy (meaning_of s.names name))

-- the handle names the nth request of the body from now on
abbrev pub with_handle : Option (List ℕ) → ℕ → Names → Names
with_handle None n names = names
with_handle (Some name) n names = with_meaning names name (meaning.Posted n)

-- a message is sent or received
unfoldable pub call_done : ℕ → How → Option (List ℕ) → SpanText → PeerText → TagText → Option (List ℕ) → Option SpanText → State → Result State ExpandRefusal
call_done line call handle text to number on status s = do
  formed ← at line (passed (call_checks call handle to number status))
  t ← operated 1 0 s
  free ← at line (handle_free t handle)
  span ← at line (span_of t text)
  whom ← at line (peer_value t to)
  chosen ← at line (tag_value t number)
  comm ← at line (communicator_of t on)
  cells ← at line (span_or_none t status)
  peer ← at line (peer_of t.size whom)
  tag ← at line (tag_of chosen)
  u ← op_done line (handle_check t handle) (op.Post call span peer tag comm cells) t
  Ok (record u { names = with_handle handle (postings t.body) u.names; lines = u.lines ++ line ∷ [] })

-- handles that a wait names are null from now on (MPI 4.0, 3.7.3)
abbrev pub with_idle : List (List ℕ) → Names → Names
with_idle [] names = names
with_idle (handle ∷ handles) names = with_idle handles (with_meaning names handle meaning.Idle)

-- requests are waited for, or bound to the task (MPI 4.0, 3.7.3 and 3.7.5; TAMPI, TAMPI_Iwait)
unfoldable pub wait_done : ℕ → Bool → List (List ℕ) → Option SpanText → State → Result State ExpandRefusal
wait_done line later handles status s = do
  t ← operated 0 (length handles) s
  requests ← at line (handles_of t handles)
  cells ← at line (span_or_none t status)
  u ← op_done line (check fault.RequestTwice (stands_twice handles)) (op.Await later (listed requests) cells) t
  Ok (record u { names = with_idle handles u.names })

-- a request that no wait named is the fault of its posting
abbrev pub none_left : List ℕ → List ℕ → Result ⊤ ExpandRefusal
none_left lines [] = Ok tt
none_left lines (n ∷ more) = at (slice_index_or lines n 0) (Err fault.RequestLeft)

-- end of a task: it joins the others, and names mean again what they meant before it
unfoldable pub task_ended : ℕ → State → Result State ExpandRefusal
task_ended line s = do
  named ← none_left s.lines (left_after 0 s.body)
  Ok (record s {
    tasks = s.tasks ++ record { rank = s.rank; line = line; epoch = s.epoch; accesses = listed s.accesses; body = listed s.body } ∷ [];
    names = s.before;
    in_task = false;
    accesses = [];
    body = [];
    lines = [];
  })
