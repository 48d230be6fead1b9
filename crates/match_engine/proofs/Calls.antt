-- The call of a request of the program says all that its operation does.
use Rattle.std.proofs.Common.{◌≡◌, ℕ, zero, suc, ◌<◌, Bool, true, false, cond, List, [], ◌∷◌, ℤ, filter, slice_get, Option, Some, None, option_map}
use Rattle.std.proofs.Common.{option_and_then, IsSome, sym, refl, ap, ◌∙◌, subst}
use Rattle.std.proofs.lemmas.Option.{none-some, same_Some, slice_get_within, get_or_from_slice_get}
use Rattle.std.proofs.lemmas.Bool.{false≢true}
use Rattle.std.proofs.lemmas.List.Elements.{All-filter, All-get_or}
use Rattle.rt_base.specs.declared.data.ReqNo.{ReqNo}
use Rattle.rt_base.specs.declared.data.How.{How}
use Rattle.rt_base.specs.declared.data.How.TheVariants as how
use Rattle.rt_base.specs.declared.data.Peer.{Peer}
use Rattle.rt_base.specs.declared.data.Peer.TheVariants as peer
use Rattle.rt_base.specs.declared.data.TagSel.{TagSel}
use Rattle.rt_base.specs.declared.data.TagSel.TheVariants as tag
use Rattle.rt_base.specs.declared.data.Op.{Op}
use Rattle.rt_base.specs.declared.data.Op.TheVariants as op
use Rattle.rt_base.specs.declared.data.TaskDef.{TaskDef}
use Rattle.rt_base.specs.declared.data.Program.{Program}
use Rattle.rt_base.specs.Operations.{posting_of, is_posting, is_receive}
use Rattle.rt_base.specs.Exchange.{Match, Posting, sent_by, asked_by, posting_by, posted_by, posting_or_nowhere, posting_of_task, what_is_posted}
use Rattle.rt_base.specs.Completion.{completes_alone, completes_at_once, status_by, cells_by}
use Rattle.rt_base.specs.WellFormed.{WellFormed, IsTask, IsOperation, IsPeer}
use Rattle.match_engine.specs.declared.slots.Call.{Call}
use Rattle.match_engine.specs.Requests.{Sends, Receives, IsSend, IsReceive, HasSpan}
use Rattle.match_engine.specs.Queues.{IsPlaced}
use Rattle.match_engine.specs.Slots.{call_by, call_of, call_status, call_cells}

-- where a call comes from
pub record IsCallOf (program : Program) (req : ReqNo) (call : Call) : Type 0 where
  pub task : TaskDef
  pub operation : Op
  pub task_is : slice_get program.tasks.items req.task.0 ≡ Some task
  pub operation_is : slice_get (filter is_posting task.body.items) req.nth ≡ Some operation
  pub call_is : call_by task.rank operation ≡ call

-- the operation of a request in a task
abbrev operation_in : ReqNo → TaskDef → Option Op
operation_in req task = slice_get (filter is_posting task.body.items) req.nth

from_operation : (program : Program) (req : ReqNo) (call : Call) (task : TaskDef) (o : Option Op) → slice_get program.tasks.items req.task.0 ≡ Some task
    → operation_in req task ≡ o → option_map (call_by task.rank) o ≡ Some call → IsCallOf program req call
from_operation program req call task None at is found = absurd (none-some call found)
from_operation program req call task (Some operation) at is found =
    record { task = task; operation = operation; task_is = at; operation_is = is; call_is = same_Some (call_by task.rank operation) call found }

from_task : (program : Program) (req : ReqNo) (call : Call) (o : Option TaskDef) → slice_get program.tasks.items req.task.0 ≡ o
    → option_and_then (λ (task : TaskDef). option_map (call_by task.rank) (operation_in req task)) o ≡ Some call → IsCallOf program req call
from_task program req call None at found = absurd (none-some call found)
from_task program req call (Some task) at found = from_operation program req call task (operation_in req task) at refl found

pub origin : (program : Program) (req : ReqNo) (call : Call) → call_of program req ≡ Some call → IsCallOf program req call
origin program req call found = from_task program req call (slice_get program.tasks.items req.task.0) refl found

pub posting_is : (program : Program) (req : ReqNo) (call : Call) (from : IsCallOf program req call) → posting_of program req ≡ Some from.operation
posting_is program req call from = ap (option_and_then (operation_in req)) from.task_is ∙ from.operation_is

posted_call : (req : ReqNo) (rank : ℕ) (cells : List ℤ) (operation : Op)
    → posted_by req rank cells operation
    ≡ posting_by (call_by rank operation).how req (call_by rank operation).rank (call_by rank operation).peer (call_by rank operation).tag
    (call_by rank operation).comm cells
posted_call req rank cells (op.Compute kernel dst left right value step) = refl
posted_call req rank cells (op.Post kind span whom selected comm status) = refl
posted_call req rank cells (op.Await later handles status) = refl

-- what a call posts
abbrev pub posted_as : ReqNo → List ℤ → Call → Posting
posted_as req cells call = posting_by call.how req call.rank call.peer call.tag call.comm cells

-- what the request posts is what its call posts
pub what_is_call : (program : Program) (req : ReqNo) (call : Call) (cells : List ℤ) → call_of program req ≡ Some call
    → what_is_posted program req cells ≡ posted_as req cells call
unfolding what_is_posted
what_is_call program req call cells found =
    let from = origin program req call found in
    ap (posting_of_task program req cells) from.task_is
    ∙ ap (posting_or_nowhere req from.task.rank cells) (posting_is program req call from)
    ∙ posted_call req from.task.rank cells from.operation
    ∙ ap (posted_as req cells) from.call_is

-- a send posts a message, a receive a receive
pub send_posts : (kind : How) (req : ReqNo) (rank : ℕ) (whom : Peer) (selected : TagSel) (comm : ℕ) (cells : List ℤ) → is_receive kind ≡ false
    → posting_by kind req rank whom selected comm cells ≡ sent_by req rank whom selected comm cells
send_posts how.Send req rank whom selected comm cells h = refl
send_posts how.Ssend req rank whom selected comm cells h = refl
send_posts how.Recv req rank whom selected comm cells h = absurd (false≢true (sym h))
send_posts how.Isend req rank whom selected comm cells h = refl
send_posts how.Issend req rank whom selected comm cells h = refl
send_posts how.Irecv req rank whom selected comm cells h = absurd (false≢true (sym h))

pub receive_posts : (kind : How) (req : ReqNo) (rank : ℕ) (whom : Peer) (selected : TagSel) (comm : ℕ) (cells : List ℤ) → is_receive kind ≡ true
    → posting_by kind req rank whom selected comm cells ≡ asked_by req rank whom selected comm
receive_posts how.Send req rank whom selected comm cells h = absurd (false≢true h)
receive_posts how.Ssend req rank whom selected comm cells h = absurd (false≢true h)
receive_posts how.Recv req rank whom selected comm cells h = refl
receive_posts how.Isend req rank whom selected comm cells h = absurd (false≢true h)
receive_posts how.Issend req rank whom selected comm cells h = absurd (false≢true h)
receive_posts how.Irecv req rank whom selected comm cells h = refl

-- the operation of a request is one of the program
pub of_task : (program : Program) → WellFormed program → (req : ReqNo) (call : Call) (from : IsCallOf program req call) → IsTask program from.task
of_task program well req call from =
    subst (IsTask program) (get_or_from_slice_get program.tasks.items req.task.0 from.task from.task from.task_is)
    (All-get_or (IsTask program) program.tasks.items req.task.0 from.task (slice_get_within program.tasks.items req.task.0 from.task from.task_is) well.tasks)

of_body : (program : Program) → WellFormed program → (req : ReqNo) (call : Call) (from : IsCallOf program req call)
    → IsOperation program from.task from.operation
of_body program well req call from =
    let ops = filter is_posting from.task.body.items in
    subst (IsOperation program from.task) (get_or_from_slice_get ops req.nth from.operation from.operation from.operation_is)
    (All-get_or (IsOperation program from.task) ops req.nth from.operation (slice_get_within ops req.nth from.operation from.operation_is)
    (All-filter is_posting (IsOperation program from.task) from.task.body.items (of_task program well req call from).body))

sent_placed : (program : Program) (req : ReqNo) (rank : ℕ) (whom : Peer) (selected : TagSel) (comm : ℕ) (cells : List ℤ) → IsPeer program whom
    → IsPlaced program.ranks (sent_by req rank whom selected comm cells)
sent_placed program req rank (peer.Rank to) (tag.Tag chosen) comm cells h = h
sent_placed program req rank (peer.Rank to) tag.Any comm cells h = tt
sent_placed program req rank peer.Any selected comm cells h = tt
sent_placed program req rank peer.Null selected comm cells h = tt

asked_placed : (program : Program) (req : ReqNo) (rank : ℕ) (whom : Peer) (selected : TagSel) (comm : ℕ) → rank < program.ranks
    → IsPlaced program.ranks (asked_by req rank whom selected comm)
asked_placed program req rank (peer.Rank from) selected comm h = h
asked_placed program req rank peer.Any selected comm h = h
asked_placed program req rank peer.Null selected comm h = tt

kind_placed : (program : Program) (kind : How) (req : ReqNo) (rank : ℕ) (whom : Peer) (selected : TagSel) (comm : ℕ) (cells : List ℤ) → IsPeer program whom
    → rank < program.ranks
    → IsPlaced program.ranks (posting_by kind req rank whom selected comm cells)
kind_placed program how.Send req rank whom selected comm cells exists own = sent_placed program req rank whom selected comm cells exists
kind_placed program how.Ssend req rank whom selected comm cells exists own = sent_placed program req rank whom selected comm cells exists
kind_placed program how.Recv req rank whom selected comm cells exists own = asked_placed program req rank whom selected comm own
kind_placed program how.Isend req rank whom selected comm cells exists own = sent_placed program req rank whom selected comm cells exists
kind_placed program how.Issend req rank whom selected comm cells exists own = sent_placed program req rank whom selected comm cells exists
kind_placed program how.Irecv req rank whom selected comm cells exists own = asked_placed program req rank whom selected comm own

operation_placed : (program : Program) (task : TaskDef) (req : ReqNo) (cells : List ℤ) (operation : Op) → task.rank < program.ranks
    → IsOperation program task operation
    → IsPlaced program.ranks (posted_as req cells (call_by task.rank operation))
operation_placed program task req cells (op.Compute kernel dst left right value step) own is = tt
operation_placed program task req cells (op.Post kind span whom selected comm status) own is =
    kind_placed program kind req task.rank whom selected comm cells is.1 own
operation_placed program task req cells (op.Await later handles status) own is = tt

-- a posting of a program that may be run goes to a rank that exists
pub call_placed : (program : Program) → WellFormed program → (req : ReqNo) (call : Call) (cells : List ℤ) → call_of program req ≡ Some call
    → IsPlaced program.ranks (posted_as req cells call)
call_placed program well req call cells found =
    let from = origin program req call found in
    subst (λ (c : Call). IsPlaced program.ranks (posted_as req cells c)) from.call_is
    (operation_placed program from.task req cells from.operation (of_task program well req call from).rank (of_body program well req call from))

alone_by : (eager rank : ℕ) (operation : Op)
    → completes_alone eager (Some operation) ≡ completes_at_once eager (call_by rank operation).how (call_by rank operation).span (call_by rank operation).peer
alone_by eager rank (op.Compute kernel dst left right value step) = refl
alone_by eager rank (op.Post kind span whom selected comm status) = refl
alone_by eager rank (op.Await later handles status) = refl

-- a request completes by itself where its call does
pub call_alone : (program : Program) (req : ReqNo) (call : Call) → call_of program req ≡ Some call
    → completes_alone program.eager (posting_of program req) ≡ completes_at_once program.eager call.how call.span call.peer
call_alone program req call found =
    let from = origin program req call found in
    ap (completes_alone program.eager) (posting_is program req call from) ∙ alone_by program.eager from.task.rank from.operation
    ∙ ap (λ (c : Call). completes_at_once program.eager c.how c.span c.peer) from.call_is

status_of : (found : Option Match) (rank : ℕ) (operation : Op) → status_by found (Some operation) ≡ call_status (call_by rank operation) found
status_of found rank (op.Compute kernel dst left right value step) = refl
status_of found rank (op.Post kind span whom selected comm status) = refl
status_of found rank (op.Await later handles status) = refl

cells_of : (found : Option Match) (rank : ℕ) (operation : Op) → cells_by found (Some operation) ≡ call_cells (call_by rank operation) found
cells_of found rank (op.Compute kernel dst left right value step) = refl
cells_of found rank (op.Post kind span whom selected comm status) = refl
cells_of found rank (op.Await later handles status) = refl

-- the status and the cells of a request are those of its call
pub status_is_call : (program : Program) (req : ReqNo) (call : Call) (found : Option Match) → call_of program req ≡ Some call
    → status_by found (posting_of program req) ≡ call_status call found
status_is_call program req call found is =
    let from = origin program req call is in
    ap (status_by found) (posting_is program req call from) ∙ status_of found from.task.rank from.operation
    ∙ ap (λ (c : Call). call_status c found) from.call_is

pub cells_are_call : (program : Program) (req : ReqNo) (call : Call) (found : Option Match) → call_of program req ≡ Some call
    → cells_by found (posting_of program req) ≡ call_cells call found
cells_are_call program req call found is =
    let from = origin program req call is in
    ap (cells_by found) (posting_is program req call from) ∙ cells_of found from.task.rank from.operation ∙ ap (λ (c : Call). call_cells c found) from.call_is

-- the call of a send is no receive
sends_by : (count rank : ℕ) (operation : Op) → Sends count (Some operation) → is_receive (call_by rank operation).how ≡ false
sends_by count rank (op.Compute kernel dst left right value step) h = absurd h
sends_by count rank (op.Post kind span whom selected comm status) h = h.0
sends_by count rank (op.Await later handles status) h = absurd h

receives_by : (rank : ℕ) (operation : Op) → Receives (Some operation) → is_receive (call_by rank operation).how ≡ true
receives_by rank (op.Compute kernel dst left right value step) h = absurd h
receives_by rank (op.Post kind span whom selected comm status) h = h
receives_by rank (op.Await later handles status) h = absurd h

pub is_send : (program : Program) (req : ReqNo) (count : ℕ) (call : Call) → call_of program req ≡ Some call → IsSend program req count
    → is_receive call.how ≡ false
is_send program req count call found sends =
    let from = origin program req call found in
    subst (λ (c : Call). is_receive c.how ≡ false) from.call_is
    (sends_by count from.task.rank from.operation (subst (Sends count) (posting_is program req call from) sends))

pub is_recv : (program : Program) (req : ReqNo) (call : Call) → call_of program req ≡ Some call → IsReceive program req → is_receive call.how ≡ true
is_recv program req call found receives =
    let from = origin program req call found in
    subst (λ (c : Call). is_receive c.how ≡ true) from.call_is
    (receives_by from.task.rank from.operation (subst Receives (posting_is program req call from) receives))

-- what a filter keeps passes
only_if : (x : Op) (ops : List Op) (i : ℕ) (operation : Op) (b : Bool) → is_posting x ≡ b
    → ((j : ℕ) (y : Op) → slice_get (filter is_posting ops) j ≡ Some y → is_posting y ≡ true)
    → slice_get (cond b (x ∷ filter is_posting ops) (filter is_posting ops)) i ≡ Some operation → is_posting operation ≡ true
only_if x ops zero operation true passes rest at = ap is_posting (sym (same_Some x operation at)) ∙ passes
only_if x ops (suc i) operation true passes rest at = rest i operation at
only_if x ops i operation false fails rest at = rest i operation at

-- the call of a posting has its span
only_postings : (ops : List Op) (i : ℕ) (operation : Op) → slice_get (filter is_posting ops) i ≡ Some operation → is_posting operation ≡ true
only_postings [] i operation at = absurd (none-some operation at)
only_postings (x ∷ ops) i operation at = only_if x ops i operation (is_posting x) refl (only_postings ops) at

pub span_by : (rank : ℕ) (operation : Op) → is_posting operation ≡ true → HasSpan (Some operation) (call_by rank operation).span
span_by rank (op.Compute kernel dst left right value step) posts = absurd (false≢true posts)
span_by rank (op.Post kind span whom selected comm status) posts = refl
span_by rank (op.Await later handles status) posts = absurd (false≢true posts)

pub span_is_call : (program : Program) (req : ReqNo) (call : Call) → call_of program req ≡ Some call → HasSpan (posting_of program req) call.span
span_is_call program req call is =
    let from = origin program req call is in
    subst (λ (c : Call). HasSpan (posting_of program req) c.span) from.call_is
    (subst (λ (o : Option Op). HasSpan o (call_by from.task.rank from.operation).span) (sym (posting_is program req call from))
    (span_by from.task.rank from.operation (only_postings from.task.body.items req.nth from.operation from.operation_is)))

mapped : {X Y : Type 0} (f : X → Y) (o : Option X) → IsSome o → IsSome (option_map f o)
mapped f None some = some
mapped f (Some x) some = refl

call_exists : (req : ReqNo) (o : Option TaskDef) → IsSome (option_and_then (operation_in req) o)
    → IsSome (option_and_then (λ (task : TaskDef). option_map (call_by task.rank) (operation_in req task)) o)
call_exists req None some = some
call_exists req (Some task) some = mapped (call_by task.rank) (operation_in req task) some

sends_something : (count : ℕ) (o : Option Op) → Sends count o → IsSome o
sends_something count None h = absurd h
sends_something count (Some operation) h = refl

receives_something : (o : Option Op) → Receives o → IsSome o
receives_something None h = absurd h
receives_something (Some operation) h = refl

-- a send or a receive of the program has a call
pub send_has_call : (program : Program) (req : ReqNo) (count : ℕ) → IsSend program req count → IsSome (call_of program req)
send_has_call program req count sends = call_exists req (slice_get program.tasks.items req.task.0) (sends_something count (posting_of program req) sends)

pub recv_has_call : (program : Program) (req : ReqNo) → IsReceive program req → IsSome (call_of program req)
recv_has_call program req receives = call_exists req (slice_get program.tasks.items req.task.0) (receives_something (posting_of program req) receives)
