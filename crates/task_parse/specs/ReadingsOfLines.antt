-- Reading each form of statement, behind its word.
use Rattle.std.specs.Prelude.{ℕ, Bool, [], ◌∷◌, length, Result, Ok, Err, nat_lt, if◌then◌else◌}
use Rattle.rt_base.specs.declared.data.FaultKind.{FaultKind}
use Rattle.rt_base.specs.declared.data.FaultKind.TheVariants as fault
use Rattle.rt_base.specs.declared.data.Mode.{Mode}
use Rattle.rt_base.specs.declared.data.How.{How}
use Rattle.rt_base.specs.declared.data.Kernel.{Kernel}
use Rattle.rt_base.specs.KernelForms.{source_count, number_count}
use Rattle.task_tree.specs.declared.tree.What.{What}
use Rattle.task_tree.specs.declared.tree.What.TheVariants as what
use Rattle.task_tree.specs.Reading.{◌>>=◌}
use Rattle.task_parse.specs.Statements.{listed}
use Rattle.task_parse.specs.ReadingsOfParts.{Left, name_at, comma_at, dots_at, set_at, value_at, span_at}
use Rattle.task_parse.specs.ReadingsOfOperands.{handle_at, peer_at, tag_at, on_at, status_at, own_status_at, names_at, next_span, next_value, more_of}

-- the statement with its depth, where no token is left
abbrev pub whole : What → Left → Result (What × ℕ) FaultKind
whole what ([], depth) = Ok (what, depth)
whole what (_ ∷ _, depth) = Err fault.Shape

-- array NAME , expr
unfoldable pub array_line : Left → Result (What × ℕ) FaultKind
array_line x = do
  name ← name_at x
  comma ← comma_at name.1
  len ← value_at comma
  whole (what.Array name.0 len.0) len.1

-- show NAME
unfoldable pub show_line : Left → Result (What × ℕ) FaultKind
show_line x = do
  name ← name_at x
  whole (what.Show name.0) name.1

-- comm NAME
unfoldable pub comm_line : Left → Result (What × ℕ) FaultKind
comm_line x = do
  name ← name_at x
  whole (what.Comm name.0) name.1

-- let NAME = expr
unfoldable pub let_line : Left → Result (What × ℕ) FaultKind
let_line x = do
  name ← name_at x
  set ← set_at name.1
  value ← value_at set
  whole (what.Let name.0 value.0) value.1

-- for NAME = expr .. expr
unfoldable pub for_line : Left → Result (What × ℕ) FaultKind
for_line x = do
  name ← name_at x
  set ← set_at name.1
  from ← value_at set
  dots ← dots_at from.1
  to ← value_at dots
  whole (what.For name.0 from.0 to.0) to.1

-- if expr
unfoldable pub if_line : Left → Result (What × ℕ) FaultKind
if_line x = do
  test ← value_at x
  whole (what.If test.0) test.1

-- in SPAN, out SPAN, inout SPAN
unfoldable pub touch_line : Mode → Left → Result (What × ℕ) FaultKind
touch_line mode x = do
  span ← span_at x
  whole (what.Touch mode span.0) span.1

-- a kernel: SPAN { , SPAN } { , expr }, as many as it has
unfoldable pub kernel_line : Kernel → Left → Result (What × ℕ) FaultKind
kernel_line kernel x = do
  first ← span_at x
  spans ← more_of next_span (first.0 ∷ []) (source_count kernel) first.1
  values ← more_of next_value [] (number_count kernel) spans.1
  whole (what.Kern kernel (listed spans.0) (listed values.0)) values.1

-- a send or a receive: [ NAME , ] SPAN , PEER , TAG [ on NAME ] [ status SPAN ]
unfoldable pub posting_line : How → Left → Result (What × ℕ) FaultKind
posting_line how x = do
  handle ← handle_at how x
  span ← span_at handle.1
  second ← comma_at span.1
  peer ← peer_at how second
  third ← comma_at peer.1
  tag ← tag_at how third
  comm ← on_at tag.1
  status ← own_status_at how comm.1
  whole (what.Posting how handle.0 span.0 peer.0 tag.0 comm.0 status.0) status.1

-- wait NAME [ status SPAN ], iwait NAME [ status SPAN ]
unfoldable pub wait_line : Bool → Left → Result (What × ℕ) FaultKind
wait_line later x = do
  name ← name_at x
  status ← status_at name.1
  whole (what.Waiting later (listed (name.0 ∷ [])) status.0) status.1

-- waitall NAME { , NAME } [ status SPAN ], iwaitall NAME { , NAME } [ status SPAN ], of at most 64 names
unfoldable pub waitall_line : Bool → Left → Result (What × ℕ) FaultKind
waitall_line later x = do
  names ← names_at x
  status ← (if nat_lt 64 (length names.0) then Err fault.Shape else status_at names.1)
  whole (what.Waiting later (listed names.0) status.0) status.1
