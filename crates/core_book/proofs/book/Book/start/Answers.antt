-- The book after a start, and the record.
use Rattle.std.proofs.Common.{◌≡◌, ◌∙◌, ap, sym, slice_get, Some, true, refl, arith}
use Rattle.rt_base.specs.declared.data.Phase.TheVariants as phase
use Rattle.rt_base.specs.MayMove.{MayMove}
use Rattle.task_machine.specs.Machine.{start_move}
use Rattle.std.specs.Prelude.{vec_capacity}
use Rattle.book_parts.specs.Ledger.{Ledger}
use Rattle.book_parts.specs.Kept.{state_now}
use Rattle.run_bounds.proofs.Few.{few_operations}
use Rattle.core_book.proofs.Insides.{parts_of}
use Rattle.book_parts.proofs.Moved.{IsMoved, book_after, gone_more, makes_move}
use Rattle.book_parts.proofs.Held.{Held, held_at, may_move, entry_room, same_program}
use Rattle.book_parts.proofs.BookMoves.{left_as, parts_alone, started_task, start_moved, start_left, start_stands}
use Rattle.book_parts.proofs.BoundAfter.{bound_kept}
use Rattle.book_parts.proofs.Figured.{kept_figures, found}
use Rattle.book_counts.proofs.AfterMoves.{binding_kept, start_counted}
use Rattle.book_counts.proofs.Numbers.{numbered_stop}
use Rattle.core_book.proofs.book.Book.start.Goals as goal
use Rattle.core_book.proofs.book.Book.start.Goals.{After-task_of-def, After-note}

here : (c : After-task_of-def) → Held (parts_of c.self.inside) c.args.rec.now c.task-task.result.0 c.task_of-def.result.now phase.Waiting
here c =
    held_at (parts_of c.self.inside) c.args.rec.now c.task-task.result.0 c.task_of-def.result.now phase.Waiting c.args.self.now c.args.prog.now
    c.self.view_is c.requires.same c.requires.stands
    c.task-task.ensures c.task_of-def.ensures c.requires.fresh

may : (c : After-task_of-def) → MayMove (parts_of c.self.inside).program (state_now (parts_of c.self.inside)) c.task-task.result.0
may c =
    may_move (parts_of c.self.inside) c.args.rec.now c.task-task.result.0 c.args.self.now c.args.prog.now c.self.view_is c.requires.same c.requires.enabled
    c.task-task.ensures

-- the task was handed out
mine : (c : After-task_of-def) → slice_get (parts_of c.self.inside).ready.handed c.task-task.result.0 ≡ Some true
mine c =
    ap (λ (z : Ledger). slice_get z.handed c.task-task.result.0) c.self.view_is ∙ ap (slice_get c.args.self.now.handed) c.task-task.ensures ∙ c.requires.handed

-- the insides after the start
moved : (c : After-note) → (h : Held (parts_of c.self.inside) c.args.rec.now c.task-task.result.0 c.task_of-def.result.now phase.Waiting)
    → MayMove (parts_of c.self.inside).program (state_now (parts_of c.self.inside)) c.task-task.result.0
    → slice_get (parts_of c.self.inside).ready.handed c.task-task.result.0 ≡ Some true
    → IsMoved (parts_of c.self.inside) (parts_alone (parts_of c.self.inside) c.task-task.result.0 c.stop.result c.note.new.list.items
    c.clear.new.self.items (vec_capacity c.note.new.list) (vec_capacity c.clear.new.self) c.self.inside.waits c.self.inside.marks c.self.inside.bound
    c.self.inside.incomplete) c.task-task.result.0 h.was (started_task (parts_of c.self.inside) c.task_of-def.result.now h.was)
    (start_move (parts_of c.self.inside).program (state_now (parts_of c.self.inside)) c.task-task.result.0 c.task_of-def.result.now h.was)
moved c h may handed =
    start_moved c.self.invariant.kept h may handed c.stop.ensures c.note.ensures.items c.clear.ensures.items c.note.ensures.places
    (omega (arith, c.clear.ensures.capacity))

pub stop-requires-clause-few : goal.stop-requires-clause-few
stop-requires-clause-few c = few_operations c.args.prog.now c.task-task.result.0 c.task_of-def.result.now c.requires.well_formed c.task_of-def.ensures

pub note-requires : goal.note-requires
note-requires c =
    entry_room (parts_of c.self.inside) c.task-task.result.0 c.self.invariant.kept (may (goal.at.note-requires c).After-task_of-def)

pub invariant_of-self : goal.invariant_of-self
invariant_of-self c =
    let s = parts_of c.self.inside in
    let at = (goal.at.invariant_of-self c).After-task_of-def in
    let h = here at in
    let m = moved (goal.at.invariant_of-self c).After-note h (may at) (mine at) in
    let f = kept_figures {parts = s} c.self.invariant in
    let same = bound_kept m refl in
    record {
      kept = book_after c.self.invariant.kept m;
      counted = start_counted f (found h) h.stands (mine at) c.stop.ensures (gone_more m (rw h.stands refl)) same;
      binding = binding_kept f same;
      numbered = numbered_stop f 0 (found h) h.stands (omega arith) refl c.stop.ensures;
    }

pub returns : goal.returns
returns c =
    let s = parts_of c.self.inside in
    let t = c.task-task.result.0 in
    let d = c.task_of-def.result.now in
    let at = (goal.at.returns c).After-task_of-def in
    let h = here at in
    let m = moved (goal.at.returns c).After-note h (may at) (mine at) in
    let left = start_left c.self.invariant.kept h (same_program s c.args.self.now c.args.prog.now c.self.view_is c.requires.same) c.deref.ensures.value
    c.load.ensures c.phase_before.ensures c.go.ensures in
    makes_move c.self.invariant.kept m h.is_def h.who h.program (left ∙ sym (left_as s c.args.rec.now t d phase.Waiting h))
    (start_stands s c.args.rec.now c.go.new.self d h.was left) c.self.view_is
