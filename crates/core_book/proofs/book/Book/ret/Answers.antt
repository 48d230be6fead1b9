-- The book after a return, and the record.
use Rattle.std.proofs.Common.{◌∙◌, sym, subst, refl, arith}
use Rattle.std.specs.Prelude.{vec_capacity}
use Rattle.std.proofs.lemmas.Option.{slice_get_within}
use Rattle.rt_base.specs.declared.data.Phase.TheVariants as phase
use Rattle.rt_base.specs.declared.data.Program.{Program}
use Rattle.rt_base.specs.declared.data.Entry.{Entry}
use Rattle.std.specs.Prelude.{List}
use Rattle.task_local.specs.StandsFor.{Record, StandsFor, StandsAs}
use Rattle.task_machine.specs.Legal.{final}
use Rattle.book_parts.specs.Kept.{state_now}
use Rattle.core_book.proofs.Insides.{parts_of}
use Rattle.book_parts.proofs.Moved.{book_after, gone_more, makes_move}
use Rattle.book_parts.proofs.Held.{Held, held_as, own, entry_room, place_within}
use Rattle.book_parts.proofs.BookMoves.{left_as, may_return, returned_task, ret_moved}
use Rattle.book_parts.proofs.BoundAfter.{bound_kept}
use Rattle.book_parts.proofs.Figured.{kept_figures, found}
use Rattle.book_counts.proofs.AfterMoves.{binding_kept, ret_counted}
use Rattle.book_counts.proofs.Numbers.{numbered_next}
use Rattle.core_book.proofs.book.Book.ret.Goals as goal
use Rattle.core_book.proofs.book.Book.ret.Goals.{After-task-task}

stands : (c : After-task-task) → StandsFor (parts_of c.self.inside).program c.args.rec.now (state_now (parts_of c.self.inside))
stands c =
    own (λ (q : Program) (es : List Entry). StandsFor q c.args.rec.now (final q es))
    (parts_of c.self.inside) c.args.self.now c.args.prog.now c.self.view_is c.requires.same c.requires.stands

here : (c : After-task-task) → Held (parts_of c.self.inside) c.args.rec.now c.task-task.result.0 (stands c).def phase.Ended
unfolding stands
here c = held_as (parts_of c.self.inside) c.args.rec.now c.task-task.result.0 phase.Ended (stands c) c.task-task.ensures c.requires.ended

pub note-requires : goal.note-requires
note-requires c =
    let h = here (goal.at.note-requires c).After-task-task in
    entry_room (parts_of c.self.inside) c.task-task.result.0 c.self.invariant.kept (may_return h)

pub at-open-requires : goal.at-open-requires
at-open-requires c =
    let h = here (goal.at.at-open-requires c).After-task-task in
    let within = slice_get_within (parts_of c.self.inside).program.tasks.items c.task-task.result.0 _ h.is_def in
    let long = c.self.invariant.binding.long_incomplete in
    omega arith

pub set-requires : goal.set-requires
set-requires c =
    let h = here (goal.at.set-requires c).After-task-task in
    let within = place_within (parts_of c.self.inside) c.args.rec.now c.task-task.result.0 _ phase.Ended c.self.invariant.kept h in
    let long = c.self.invariant.counted.long in
    omega arith

pub invariant_of-self : goal.invariant_of-self
invariant_of-self c =
    let h = here (goal.at.invariant_of-self c).After-task-task in
    let m = ret_moved {places' = vec_capacity c.clear.new.self} c.set.new.self c.self.invariant.kept h c.note.ensures.items c.clear.ensures.items
    c.note.ensures.places (omega (arith, c.clear.ensures.capacity)) in
    let f = kept_figures {parts = parts_of c.self.inside} c.self.invariant in
    let same = bound_kept m refl in
    record {
      kept = book_after c.self.invariant.kept m;
      counted = ret_counted f (found h) h.stands.0 c.at-open.ensures c.set.ensures (gone_more m (rw h.stands.0 refl)) same;
      binding = binding_kept f same;
      numbered = numbered_next f phase.Returned (found h) h.stands.0 refl;
    }

pub returns : goal.returns
returns c =
    let s = parts_of c.self.inside in
    let held = c.args.rec.now in
    let t = c.task-task.result.0 in
    let at = (goal.at.returns c).After-task-task in
    let d = (stands at).def in
    let h = here at in
    let m = ret_moved {places' = vec_capacity c.clear.new.self} c.set.new.self c.self.invariant.kept h c.note.ensures.items c.clear.ensures.items
    c.note.ensures.places (omega (arith, c.clear.ensures.capacity)) in
    makes_move c.self.invariant.kept m h.is_def h.who h.program (c.go.ensures ∙ sym (left_as s held t d phase.Ended h))
    (subst (λ (z : Record). StandsAs d z.phase z.copy (returned_task h.was)) (sym c.go.ensures) (refl, h.stands.1)) c.self.view_is
