-- The book after the call of a wait, and the record.
use Rattle.std.proofs.Common.{◌∙◌, ◌<◌, false, sym, ap, List, length, refl, arith}
use Rattle.std.specs.Prelude.{vec_capacity}
use Rattle.rt_base.specs.declared.data.ReqNo.{ReqNo}
use Rattle.rt_base.specs.declared.data.Phase.TheVariants as phase
use Rattle.rt_base.specs.Operations.{named_requests}
use Rattle.task_machine.specs.Machine.{wait_move}
use Rattle.book_parts.specs.Kept.{state_now}
use Rattle.core_book.proofs.Insides.{parts_of}
use Rattle.book_parts.proofs.Moved.{IsMoved, book_after, gone_more, makes_move}
use Rattle.book_parts.proofs.Held.{entry_room, place_within}
use Rattle.book_parts.proofs.Before.{before_may}
use Rattle.book_parts.proofs.BookMoves.{left_as, parts_alone}
use Rattle.book_parts.proofs.BoundAfter.{bound_kept}
use Rattle.book_parts.proofs.Figured.{kept_figures, found}
use Rattle.book_counts.proofs.AfterMoves.{binding_kept, wait_counted}
use Rattle.book_counts.proofs.Numbers.{numbered_next}
use Rattle.book_parts.proofs.AwaitLemmas.{Awaits, awaits, wait_is, await_few, await_left, await_moved, await_pending, await_posts, await_room}
use Rattle.book_parts.proofs.WaitLemmas.{count_awaited, wait_stands, waiting_in}
use Rattle.core_book.proofs.book.Book.wait.Goals as goal
use Rattle.core_book.proofs.book.Book.wait.Goals.{After-clear, After-note}

-- the task stands at the wait
known : (c : After-clear) → Awaits (parts_of c.self.inside) c.args.rec.now c.task-task.result.0 c.args.k c.task_of.result.now false
    c.handles_at-handles.result.now
known c =
    awaits (parts_of c.self.inside) c.args.rec.now c.task-task.result.0 c.args.k c.task_of.result.now c.handles_at-handles.result.now
    c.args.self.now c.args.prog.now c.self.view_is c.requires.same c.requires.stands c.task-task.ensures c.task_of.ensures c.requires.at
    (wait_is _ c.requires.waits) (c.handles_at-handles.ensures 0)

pub note_open-requires : goal.note_open-requires
note_open-requires c = record {
  room = omega (
    arith,
    await_room c.self.invariant.kept (known (goal.at.note_open-requires c).After-clear),
    ap (λ (z : List ReqNo). length z) c.clear.ensures.items,
    c.clear.ensures.capacity,
  );
}

pub open_among-pending-requires : goal.open_among-pending-requires
open_among-pending-requires c = record {
  few = omega (arith, await_few c.self.invariant.kept (known (goal.at.open_among-pending-requires c).After-clear));
}

index : (c : After-clear) → c.task-task.result.0 < length c.self.inside.phases.items
index c =
    place_within (parts_of c.self.inside) c.args.rec.now c.task-task.result.0 c.task_of.result.now (phase.At c.args.k) c.self.invariant.kept (known c).it.here

pub index_mut-requires : goal.index_mut-requires
index_mut-requires c =
    let lt = index (goal.at.index_mut-requires c).After-clear in
    omega arith

pub set-requires : goal.set-requires
set-requires c =
    let lt = index (goal.at.set-requires c).After-clear in
    let long = c.self.invariant.counted.long in
    omega arith

pub note-requires : goal.note-requires
note-requires c =
    entry_room (parts_of c.self.inside) c.task-task.result.0 c.self.invariant.kept
    (before_may (known (goal.at.note-requires c).After-clear).it)

-- the insides after the call
moved : (c : After-note) → (w : Awaits (parts_of c.self.inside) c.args.rec.now c.task-task.result.0 c.args.k c.task_of.result.now false
    c.handles_at-handles.result.now)
    → IsMoved (parts_of c.self.inside) (parts_alone (parts_of c.self.inside) c.task-task.result.0 (phase.In c.args.k) c.note.new.list.items
    c.note_open.new.opened.items (vec_capacity c.note.new.list) (vec_capacity c.note_open.new.opened) c.set.new.self c.self.inside.marks
    c.self.inside.bound c.self.inside.incomplete) c.task-task.result.0 w.it.here.was (waiting_in c.args.k w.it.here.was)
    (wait_move (parts_of c.self.inside).program (state_now (parts_of c.self.inside)) c.task-task.result.0 w.it.here.was c.args.k
    (named_requests c.task-task.result.0 w.asked.handles.items))
moved c w =
    let b = c.self.inside in
    await_moved c.self.invariant.kept w (waiting_in c.args.k w.it.here.was) c.set.new.self b.marks b.bound b.incomplete refl refl refl
    c.open_among-pending.ensures c.clear.ensures.items c.note_open.ensures.items c.note.ensures.items c.note.ensures.places
    (omega (arith, c.clear.ensures.capacity, c.note_open.ensures.places))

pub invariant_of-self : goal.invariant_of-self
invariant_of-self c =
    let w = known (goal.at.invariant_of-self c).After-clear in
    let m = moved (goal.at.invariant_of-self c).After-note w in
    let f = kept_figures {parts = parts_of c.self.inside} c.self.invariant in
    let as_before = bound_kept m refl in
    record {
      kept = book_after c.self.invariant.kept m;
      counted = wait_counted f c.args.k (found w.it.here) w.it.at (count_awaited c.self.invariant.kept w c.open_among-pending.ensures) c.set.ensures
          (gone_more m (rw w.it.at refl)) as_before;
      binding = binding_kept f as_before;
      numbered = numbered_next f (phase.In c.args.k) (found w.it.here) w.it.at (await_posts c.self.invariant.kept w);
    }

pub returns-clause-moves : goal.returns-clause-moves
returns-clause-moves c =
    let s = parts_of c.self.inside in
    let w = known (goal.at.returns-clause-moves c).After-clear in
    let m = moved (goal.at.returns-clause-moves c).After-note w in
    makes_move c.self.invariant.kept m w.it.here.is_def w.it.here.who w.it.here.program
    (await_left c.self.invariant.kept w refl c.go.ensures
    ∙ sym (left_as s c.args.rec.now c.task-task.result.0 c.task_of.result.now (phase.At c.args.k) w.it.here))
    (wait_stands c.self.invariant.kept w c.go.ensures) c.self.view_is

pub returns-clause-pending : goal.returns-clause-pending
returns-clause-pending c =
    await_pending c.self.invariant.kept (known (goal.at.returns-clause-pending c).After-clear) c.open_among-pending.ensures c.self.view_is c.requires.same
