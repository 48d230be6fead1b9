-- Unrolling a text for a rank stays on that rank.
use Rattle.std.proofs.Common.{◌≡◌, ℕ, ◌+◌, Bool, List, [], ◌∷◌, length, Option, Ok}
use Rattle.std.specs.List.{list_any}
use Rattle.std.specs.Prelude.{nat_eq}
use Rattle.rt_base.specs.declared.data.FaultKind.TheVariants as fault
use Rattle.rt_base.specs.declared.data.LimitName.TheVariants as limit
use Rattle.rt_base.specs.declared.data.Mode.{Mode}
use Rattle.rt_base.specs.declared.data.How.{How}
use Rattle.rt_base.specs.declared.data.Kernel.{Kernel}
use Rattle.rt_base.specs.declared.data.Op.{Op}
use Rattle.rt_base.specs.declared.data.Op.TheVariants as op
use Rattle.rt_base.specs.Spans.{span_len}
use Rattle.rt_base.specs.InUse.{left_after}
use Rattle.task_tree.specs.declared.tree.SpanText.{SpanText}
use Rattle.task_tree.specs.declared.tree.PeerText.{PeerText}
use Rattle.task_tree.specs.declared.tree.TagText.{TagText}
use Rattle.task_tree.specs.declared.tree.What.{What}
use Rattle.task_tree.specs.declared.tree.What.TheVariants as what
use Rattle.task_tree.specs.Term.{Term}
use Rattle.task_tree.specs.Blocks.{Block, Block as block, AccessLine}
use Rattle.task_names.specs.Scopes.{meaning_of, as_array, may_be_set, may_be_made}
use Rattle.task_names.specs.Values.{value}
use Rattle.task_unroll.specs.States.{State, scene}
use Rattle.task_unroll.specs.Checks.{Check, check, passed, access_checks, no_handle, stands_twice}
use Rattle.task_unroll.specs.Operands.{span_of, spans_of, values_of, span_or_none, communicator_of, handles_of, peer_value, tag_value, peer_of, tag_of}
use Rattle.task_unroll.specs.Acts.{listed, sized, array_made, shown, comm_made, variable_set, taskwait_met, task_begun, access_made, op_done}
use Rattle.task_unroll.specs.Acts.{kernel_call, kernel_done, call_checks, handle_free, handle_check, call_done, wait_done, none_left, task_ended}
use Rattle.task_unroll.specs.Blocks.{act, accesses_made, unrolled}
use Rattle.task_unroll.proofs.Results.{Holds, bind, bind_by}
use Rattle.task_unroll.proofs.Chains.{at_step, at_operation, at_done, Tested, holds_weaker, bind_at, bind_kept, bind_stepped, bind_operated, op_done_leaves}
use Rattle.task_unroll.proofs.Inside.{Steady, loop_keeps, choice_keeps}

-- the state is of this rank
abbrev pub OnRank : ℕ → State → Type 0
OnRank rank s = s.rank ≡ rank

steady : (rank : ℕ) → Steady (OnRank rank)
steady rank = record { step = λ n s on. on; variable = λ name x s on. on }

array_on : (rank line : ℕ) (name : List ℕ) (len : Term) (s : State) → OnRank rank s → Holds (OnRank rank) (array_made line name len s)
unfolding array_made
array_on rank line name len s on = bind_stepped (OnRank rank) s _ (λ n.
    bind_at (OnRank rank) line (may_be_made (meaning_of s.names name)) _ (λ free free_is.
    bind_at (OnRank rank) line (value (scene (at_step n s)) len) _ (λ number number_is.
    bind_at (OnRank rank) line (sized number) _ (λ size size_is.
    bind_kept (OnRank rank) limit.Arrays (length s.arrays + 1) _ (λ few.
    bind_kept (OnRank rank) limit.Cells (s.counts.cells + size) _ (λ few_cells. on))))))

shown_on : (rank line : ℕ) (name : List ℕ) (s : State) → OnRank rank s → Holds (OnRank rank) (shown line name s)
unfolding shown
shown_on rank line name s on = bind_stepped (OnRank rank) s _ (λ n.
    bind_at (OnRank rank) line (as_array (meaning_of s.names name)) _ (λ array array_is.
    bind_at (OnRank rank) line (passed (check fault.NameTaken (list_any (nat_eq array) s.shows) ∷ [])) _ (λ once once_is. on)))

comm_on : (rank line : ℕ) (name : List ℕ) (s : State) → OnRank rank s → Holds (OnRank rank) (comm_made line name s)
unfolding comm_made
comm_on rank line name s on = bind_stepped (OnRank rank) s _ (λ n.
    bind_at (OnRank rank) line (may_be_made (meaning_of s.names name)) _ (λ free free_is.
    bind_kept (OnRank rank) limit.Comms (s.comms + 1) _ (λ few. on)))

variable_on : (rank line : ℕ) (name : List ℕ) (e : Term) (s : State) → OnRank rank s → Holds (OnRank rank) (variable_set line name e s)
unfolding variable_set
variable_on rank line name e s on = bind_stepped (OnRank rank) s _ (λ n.
    bind_at (OnRank rank) line (may_be_set (meaning_of s.names name)) _ (λ free free_is.
    bind_at (OnRank rank) line (value (scene (at_step n s)) e) _ (λ x x_is. on)))

taskwait_on : (rank : ℕ) (s : State) → OnRank rank s → Holds (OnRank rank) (taskwait_met s)
unfolding taskwait_met
taskwait_on rank s on = bind_stepped (OnRank rank) s _ (λ n. on)

task_begun_on : (rank line : ℕ) (s : State) → OnRank rank s → Holds (OnRank rank) (task_begun line s)
unfolding task_begun
task_begun_on rank line s on = bind_stepped (OnRank rank) s _ (λ n.
    bind_kept (OnRank rank) limit.Tasks (length s.tasks + 1) _ (λ few.
    bind_at (OnRank rank) line (passed (check fault.Place s.in_task ∷ [])) _ (λ alone alone_is. on)))

access_on : (rank line : ℕ) (mode : Mode) (text : SpanText) (s : State) → OnRank rank s → Holds (OnRank rank) (access_made line mode text s)
unfolding access_made
access_on rank line mode text s on = bind_stepped (OnRank rank) s _ (λ n.
    bind_at (OnRank rank) line (span_of (at_step n s) text) _ (λ span span_is.
    bind_at (OnRank rank) line (passed (access_checks s.accesses span)) _ (λ apart apart_is.
    bind_kept (OnRank rank) limit.Accesses (s.counts.accesses + 1) _ (λ few.
    bind_kept (OnRank rank) limit.AccessCells (s.counts.access_cells + span_len span) _ (λ few_cells. on)))))

op_on : (rank line : ℕ) (handles : Check) (operation : Op) (s : State) → OnRank rank s → Holds (OnRank rank) (op_done line handles operation s)
op_on rank line handles operation s on =
    holds_weaker (λ (u : State). (u ≡ at_done operation s) × Tested handles operation s) (OnRank rank) (op_done line handles operation s)
    (λ u after. rw after.0 on) (op_done_leaves line handles operation s)

kernel_on : (rank line : ℕ) (kind : Kernel) (texts : List SpanText) (terms : List Term) (s : State) → OnRank rank s
    → Holds (OnRank rank) (kernel_done line kind texts terms s)
unfolding kernel_done
kernel_on rank line kind texts terms s on = bind_operated (OnRank rank) 0 0 s _ (λ n counted.
    bind_at (OnRank rank) line (spans_of (at_operation n 0 0 s) texts) _ (λ spans spans_is.
    bind_at (OnRank rank) line (values_of (at_operation n 0 0 s) terms) _ (λ numbers numbers_are.
    bind_at (OnRank rank) line (kernel_call kind spans numbers) _ (λ operation operation_is.
    op_on rank line no_handle operation (at_operation n 0 0 s) on))))

call_on : (rank line : ℕ) (call : How) (handle : Option (List ℕ)) (text : SpanText) (to : PeerText) (number : TagText) (comm : Option (List ℕ))
    (status : Option SpanText) (s : State)
    → OnRank rank s → Holds (OnRank rank) (call_done line call handle text to number comm status s)
unfolding call_done
call_on rank line call handle text to number comm status s on =
    bind_at (OnRank rank) line (passed (call_checks call handle to number status)) _ (λ formed formed_is.
    bind_operated (OnRank rank) 1 0 s _ (λ n counted.
    let t = at_operation n 1 0 s in
    bind_at (OnRank rank) line (handle_free t handle) _ (λ free free_is.
    bind_at (OnRank rank) line (span_of t text) _ (λ span span_is.
    bind_at (OnRank rank) line (peer_value t to) _ (λ whom whom_is.
    bind_at (OnRank rank) line (tag_value t number) _ (λ chosen chosen_is.
    bind_at (OnRank rank) line (communicator_of t comm) _ (λ world world_is.
    bind_at (OnRank rank) line (span_or_none t status) _ (λ cells cells_are.
    bind_at (OnRank rank) line (peer_of t.size whom) _ (λ peer peer_is.
    bind_at (OnRank rank) line (tag_of chosen) _ (λ tag tag_is.
    bind_by (OnRank rank) (OnRank rank) (op_done line (handle_check t handle) (op.Post call span peer tag world cells) t) _
    (op_on rank line (handle_check t handle) (op.Post call span peer tag world cells) t on) (λ u after. after)))))))))))

wait_on : (rank line : ℕ) (later : Bool) (handles : List (List ℕ)) (status : Option SpanText) (s : State) → OnRank rank s
    → Holds (OnRank rank) (wait_done line later handles status s)
unfolding wait_done
wait_on rank line later handles status s on = bind_operated (OnRank rank) 0 (length handles) s _ (λ n counted.
    let t = at_operation n 0 (length handles) s in
    bind_at (OnRank rank) line (handles_of t handles) _ (λ requests requests_are.
    bind_at (OnRank rank) line (span_or_none t status) _ (λ cells cells_are.
    bind_by (OnRank rank) (OnRank rank) (op_done line (check fault.RequestTwice (stands_twice handles)) (op.Await later (listed requests) cells) t) _
    (op_on rank line (check fault.RequestTwice (stands_twice handles)) (op.Await later (listed requests) cells) t on) (λ u after. after))))

task_ended_on : (rank line : ℕ) (s : State) → OnRank rank s → Holds (OnRank rank) (task_ended line s)
unfolding task_ended
task_ended_on rank line s on = bind (OnRank rank) (none_left s.lines (left_after 0 s.body)) _ (λ named named_is. on)

act_on : (rank line : ℕ) (said : What) (s : State) → OnRank rank s → Holds (OnRank rank) (act line said s)
act_on rank line (what.Array name len) s on = array_on rank line name len s on
act_on rank line (what.Show name) s on = shown_on rank line name s on
act_on rank line (what.Comm name) s on = comm_on rank line name s on
act_on rank line (what.Let name e) s on = variable_on rank line name e s on
act_on rank line (what.For name from to) s on = on
act_on rank line (what.If test) s on = on
act_on rank line what.Else s on = on
act_on rank line what.End s on = on
act_on rank line what.Taskwait s on = taskwait_on rank s on
act_on rank line what.Task s on = on
act_on rank line (what.Touch mode span) s on = on
act_on rank line what.Do s on = on
act_on rank line (what.Kern kind spans values) s on = kernel_on rank line kind spans.items values.items s on
act_on rank line (what.Posting how handle span peer tag comm status) s on = call_on rank line how handle span peer tag comm status s on
act_on rank line (what.Waiting later handles status) s on = wait_on rank line later handles.items status s on

accesses_on : (rank : ℕ) (accesses : List AccessLine) (s : State) → OnRank rank s → Holds (OnRank rank) (accesses_made accesses s)
accesses_on rank [] s on = on
accesses_on rank (access ∷ more) s on =
    bind_by (OnRank rank) (OnRank rank) (access_made access.line access.mode access.span s) (accesses_made more)
    (access_on rank access.line access.mode access.span s on)
    (λ t after. accesses_on rank more t after)

pub rank_kept : (rank : ℕ) (b : Block) (s : State) → OnRank rank s → Holds (OnRank rank) (unrolled b s)
rank_kept rank block.Done s on = on
rank_kept rank (block.Plain line said plain rest) s on =
    bind_by (OnRank rank) (OnRank rank) (act line said s) (unrolled rest) (act_on rank line said s on) (λ t after. rank_kept rank rest t after)
rank_kept rank (block.Loop line name from to body last rest) s on =
    loop_keeps (OnRank rank) (OnRank rank) (steady rank) line name from to (unrolled body) (unrolled rest)
    (λ t before. rank_kept rank body t before) (λ t after. rank_kept rank rest t after) s on
rank_kept rank (block.When line test body last rest) s on =
    choice_keeps (OnRank rank) (OnRank rank) (steady rank) line test (unrolled body) (λ (t : State). Ok t) (unrolled rest)
    (λ t before. rank_kept rank body t before) (λ t before. before) (λ t after. rank_kept rank rest t after) s on
rank_kept rank (block.Choice line test body middle other last rest) s on =
    choice_keeps (OnRank rank) (OnRank rank) (steady rank) line test (unrolled body) (unrolled other) (unrolled rest)
    (λ t before. rank_kept rank body t before) (λ t before. rank_kept rank other t before) (λ t after. rank_kept rank rest t after) s on
rank_kept rank (block.Work line accesses middle body last rest) s on =
    bind_by (OnRank rank) (OnRank rank) (task_begun line s) _ (task_begun_on rank line s on) (λ a begun.
    bind_by (OnRank rank) (OnRank rank) (accesses_made accesses a) _ (accesses_on rank accesses a begun) (λ b made.
    bind_by (OnRank rank) (OnRank rank) (unrolled body b) _ (rank_kept rank body b made) (λ c done.
    bind_by (OnRank rank) (OnRank rank) (task_ended line c) (unrolled rest) (task_ended_on rank line c done) (λ d after. rank_kept rank rest d after))))
