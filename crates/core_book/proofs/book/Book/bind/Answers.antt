-- The book after the call of an operation that binds, and the record.
use Rattle.std.proofs.Common.{◌∙◌, ◌+◌, ◌^◌, ◌<◌, true, sym, ap, List, length, refl, arith}
use Rattle.std.specs.Prelude.{vec_capacity}
use Rattle.rt_base.specs.declared.data.ReqNo.{ReqNo}
use Rattle.rt_base.specs.declared.data.Phase.TheVariants as phase
use Rattle.rt_base.specs.Operations.{named_requests}
use Rattle.task_machine.specs.Machine.{bind_move}
use Rattle.book_parts.specs.Kept.{state_now}
use Rattle.core_book.proofs.Insides.{parts_of}
use Rattle.run_bounds.proofs.Few.{few_operations}
use Rattle.book_parts.proofs.Moved.{IsMoved, book_after, gone_more, makes_move}
use Rattle.book_parts.proofs.Held.{entry_room, place_within}
use Rattle.book_parts.proofs.Before.{before_may}
use Rattle.book_parts.proofs.BookMoves.{left_as, parts_alone}
use Rattle.book_parts.proofs.BoundAfter.{bound_more}
use Rattle.book_parts.proofs.Figured.{kept_figures, found}
use Rattle.book_counts.proofs.AfterMoves.{counted_stop}
use Rattle.book_counts.proofs.Numbers.{numbered_stop}
use Rattle.book_counts.proofs.CountLemmas.{stop_is_held}
use Rattle.book_parts.proofs.AwaitLemmas.{Awaits, awaits, bind_is, await_few, await_left, await_moved, await_pending, await_posts, await_room}
use Rattle.book_parts.proofs.BindLemmas.{bind_binds, bind_exists, bind_has, bind_stands, bind_within, bound_few, bound_here, incomplete_few}
use Rattle.core_book.proofs.book.Book.bind.Goals as goal
use Rattle.core_book.proofs.book.Book.bind.Goals.{After-clear, After-note}

-- the task stands at the operation
known : (c : After-clear) → Awaits (parts_of c.self.inside) c.args.rec.now c.task-task.result.0 c.args.k c.task_of-def.result.now true
    c.handles_at-handles.result.now
known c =
    awaits (parts_of c.self.inside) c.args.rec.now c.task-task.result.0 c.args.k c.task_of-def.result.now c.handles_at-handles.result.now
    c.args.self.now c.args.prog.now c.self.view_is c.requires.same c.requires.stands c.task-task.ensures c.task_of-def.ensures c.requires.at
    (bind_is _ c.requires.binds) (c.handles_at-handles.ensures 0)

pub bind_all-pending-requires-clause-few : goal.bind_all-pending-requires-clause-few
bind_all-pending-requires-clause-few c =
    omega (arith, await_few c.self.invariant.kept (known (goal.at.bind_all-pending-requires-clause-few c).After-clear))

pub bind_all-pending-requires-clause-known : goal.bind_all-pending-requires-clause-known
bind_all-pending-requires-clause-known c = bind_has c.self.invariant (known (goal.at.bind_all-pending-requires-clause-known c).After-clear)

pub bind_all-pending-requires-clause-room : goal.bind_all-pending-requires-clause-room
bind_all-pending-requires-clause-room c =
    let fits = await_room c.self.invariant.kept (known (goal.at.bind_all-pending-requires-clause-room c).After-clear) in
    omega (arith, ap (λ (z : List ReqNo). length z) c.clear.ensures.items, c.clear.ensures.capacity)

short : (c : After-clear) → c.args.k + 1 < 2 ^ 32
short c =
    omega (
      arith,
      few_operations c.args.prog.now c.task-task.result.0 c.task_of-def.result.now c.requires.well_formed c.task_of-def.ensures,
      bind_within (known c),
    )

pub raise-requires-clause-within : goal.raise-requires-clause-within
raise-requires-clause-within c =
    let lt = bind_exists (known (goal.at.raise-requires-clause-within c).After-clear) in
    let long = c.self.invariant.binding.long in
    omega arith

pub raise-requires-clause-few : goal.raise-requires-clause-few
raise-requires-clause-few c =
    bound_few c.self.invariant (known (goal.at.raise-requires-clause-few c).After-clear) c.bind_all-pending.ensures.count

pub raise-requires-2-clause-within : goal.raise-requires-2-clause-within
raise-requires-2-clause-within c =
    let lt = bind_exists (known (goal.at.raise-requires-2-clause-within c).After-clear) in
    let long = c.self.invariant.binding.long_incomplete in
    omega arith

pub raise-requires-2-clause-few : goal.raise-requires-2-clause-few
raise-requires-2-clause-few c =
    incomplete_few c.self.invariant (known (goal.at.raise-requires-2-clause-few c).After-clear) c.bind_all-pending.ensures.count

pub overflow_add-k : goal.overflow_add-k
overflow_add-k c =
    let less = short (goal.at.overflow_add-k c).After-clear in
    omega arith

pub stop-requires-clause-within : goal.stop-requires-clause-within
stop-requires-clause-within c =
    let within = bind_within (known (goal.at.stop-requires-clause-within c).After-clear) in
    omega arith

pub stop-requires-clause-few : goal.stop-requires-clause-few
stop-requires-clause-few c = few_operations c.args.prog.now c.task-task.result.0 c.task_of-def.result.now c.requires.well_formed c.task_of-def.ensures

pub index_mut-requires : goal.index_mut-requires
index_mut-requires c =
    let w = known (goal.at.index_mut-requires c).After-clear in
    let within = place_within (parts_of c.self.inside) c.args.rec.now c.task-task.result.0 c.task_of-def.result.now (phase.At c.args.k)
    c.self.invariant.kept w.it.here in
    let len = c.self.inside.phases.len in
    omega arith

pub overflow_add-k-2 : goal.overflow_add-k-2
overflow_add-k-2 c =
    let less = short (goal.at.overflow_add-k-2 c).After-clear in
    omega arith

pub note-requires : goal.note-requires
note-requires c =
    entry_room (parts_of c.self.inside) c.task-task.result.0 c.self.invariant.kept
    (before_may (known (goal.at.note-requires c).After-clear).it)

-- the insides after the call
moved : (c : After-note) → (w : Awaits (parts_of c.self.inside) c.args.rec.now c.task-task.result.0 c.args.k c.task_of-def.result.now true
    c.handles_at-handles.result.now)
    → IsMoved (parts_of c.self.inside) (parts_alone (parts_of c.self.inside) c.task-task.result.0 c.stop.result c.note.new.list.items
    c.bind_all-pending.new.opened.items (vec_capacity c.note.new.list) (vec_capacity c.bind_all-pending.new.opened) c.self.inside.waits
    c.bind_all-pending.new.marks c.raise.new.self c.raise-2.new.self) c.task-task.result.0 w.it.here.was
    (bound_here (parts_of c.self.inside) c.task-task.result.0 c.args.k c.task_of-def.result.now w.asked.handles.items w.it.here.was)
    (bind_move (parts_of c.self.inside).program (state_now (parts_of c.self.inside)) c.task-task.result.0 c.task_of-def.result.now w.it.here.was c.args.k
    (named_requests c.task-task.result.0 w.asked.handles.items))
moved c w =
    await_moved c.self.invariant.kept w
    (bound_here (parts_of c.self.inside) c.task-task.result.0 c.args.k c.task_of-def.result.now w.asked.handles.items w.it.here.was) c.self.inside.waits
    c.bind_all-pending.new.marks c.raise.new.self c.raise-2.new.self refl (stop_is_held c.task_of-def.result.now (c.args.k + 1)) c.stop.ensures
    c.bind_all-pending.ensures.count c.clear.ensures.items c.bind_all-pending.ensures.items c.note.ensures.items c.note.ensures.places
    (omega (arith, c.clear.ensures.capacity, c.bind_all-pending.ensures.places))

pub invariant_of-self : goal.invariant_of-self
invariant_of-self c =
    let w = known (goal.at.invariant_of-self c).After-clear in
    let m = moved (goal.at.invariant_of-self c).After-note w in
    let f = kept_figures {parts = parts_of c.self.inside} c.self.invariant in
    let within = bind_within w in
    let binds = bound_more _ m refl in
    record {
      kept = book_after c.self.invariant.kept m;
      counted = counted_stop f (c.args.k + 1) (found w.it.here) w.it.at refl refl c.stop.ensures (gone_more m (rw w.it.at refl)) binds.others;
      numbered = numbered_stop f (c.args.k + 1) (found w.it.here) w.it.at (omega arith) (await_posts c.self.invariant.kept w) c.stop.ensures;
      binding = bind_binds c.self.invariant w binds c.bind_all-pending.ensures.count c.bind_all-pending.ensures.marks c.raise.ensures c.raise-2.ensures;
    }

pub returns-clause-moves : goal.returns-clause-moves
returns-clause-moves c =
    let s = parts_of c.self.inside in
    let w = known (goal.at.returns-clause-moves c).After-clear in
    let m = moved (goal.at.returns-clause-moves c).After-note w in
    makes_move c.self.invariant.kept m w.it.here.is_def w.it.here.who w.it.here.program
    (await_left c.self.invariant.kept w c.phase_before.ensures c.go.ensures
    ∙ sym (left_as s c.args.rec.now c.task-task.result.0 c.task_of-def.result.now (phase.At c.args.k) w.it.here))
    (bind_stands w c.phase_before.ensures c.go.ensures) c.self.view_is

pub returns-clause-pending : goal.returns-clause-pending
returns-clause-pending c =
    await_pending c.self.invariant.kept (known (goal.at.returns-clause-pending c).After-clear) c.bind_all-pending.ensures.count c.self.view_is c.requires.same
