-- The book after the end of a posting, and the record.
use Rattle.std.proofs.Common.{◌≡◌, ◌∙◌, ◌+◌, ◌^◌, ◌<◌, ℕ, List, Some, ap, sym, length, slice_get, refl, arith}
use Rattle.std.specs.Prelude.{vec_capacity}
use Rattle.std.proofs.lemmas.List.{length-append}
use Rattle.rt_base.specs.declared.data.Status.{Status}
use Rattle.rt_base.specs.declared.data.Phase.TheVariants as phase
use Rattle.rt_base.specs.Operations.{nth_at, request}
use Rattle.book_parts.specs.Kept.{told_now}
use Rattle.core_book.proofs.Insides.{parts_of}
use Rattle.run_bounds.proofs.Few.{few_operations}
use Rattle.book_parts.proofs.BookLemmas.{status_count}
use Rattle.book_parts.proofs.Moved.{book_after, gone_more, makes_move}
use Rattle.book_parts.proofs.Held.{entry_room, place_within}
use Rattle.book_parts.proofs.BookMoves.{left_as}
use Rattle.book_parts.proofs.Within.{enabled_in, within_body}
use Rattle.book_parts.proofs.LeaveLemmas.{Inside, inside, is_done, stores, received_fit, status_places, told_here, leave_left}
use Rattle.book_parts.proofs.LeaveMoved.{Leaves, told_back, leave_moved, leave_room, leave_record, leave_stands}
use Rattle.book_parts.proofs.BoundAfter.{bound_kept}
use Rattle.book_parts.proofs.Figured.{kept_figures, found}
use Rattle.book_counts.proofs.AfterMoves.{binding_kept, leave_counted}
use Rattle.book_counts.proofs.Numbers.{last_number, number_some, numbered_stop, posted_so_far, posting_number}
use Rattle.core_book.proofs.book.Book.leave_posting.Goals as goal
use Rattle.core_book.proofs.book.Book.leave_posting.Goals.{After-last-arg-1, After-note}

-- the task stands in the posting
within : (c : After-last-arg-1) → Inside (parts_of c.self.inside) c.args.rec.now c.task-task.result.0 c.args.k c.task_of-def.result.now c.args.posting
within c =
    inside (parts_of c.self.inside) c.args.rec.now c.task-task.result.0 c.args.k c.task_of-def.result.now c.args.posting
    c.args.self.now c.args.prog.now c.self.invariant.kept c.self.view_is c.requires.same c.requires.stands c.requires.enabled c.task-task.ensures
    c.task_of-def.ensures c.requires.within c.requires.posts

counts : (c : After-last-arg-1) → slice_get c.self.inside.posted c.task-task.result.0 ≡ Some (nth_at c.task_of-def.result.now c.args.k + 1)
counts c =
    let i = within c in
    posting_number c.task_of-def.result.now c.args.k c.task-task.result.0 _ c.self.inside.posted
    (posted_so_far (kept_figures {parts = parts_of c.self.inside} c.self.invariant) (found i.in_it.here) i.in_it.here.stands.0) i.posts.is refl

pub last-requires : goal.last-requires
last-requires c =
    number_some (nth_at c.task_of-def.result.now c.args.k) c.task-task.result.0 c.self.inside.posted
    (counts (goal.at.last-requires c).After-last-arg-1)

-- the request is that of the posting
nth : (c : After-last-arg-1) (n : ℕ) → slice_get c.self.inside.posted c.task-task.result.0 ≡ Some (n + 1)
    → n ≡ nth_at c.task_of-def.result.now c.args.k
nth c n read = last_number (nth_at c.task_of-def.result.now c.args.k) c.task-task.result.0 n c.self.inside.posted (counts c) read

pub cells-requires : goal.cells-requires
cells-requires c =
    let at = (goal.at.cells-requires c).After-last-arg-1 in
    is_done c.self.invariant.kept (within at) (nth at c.last.result c.last.ensures)

pub store-requires-clause-declared : goal.store-requires-clause-declared
store-requires-clause-declared c =
    stores c.self.invariant.kept (within (goal.at.store-requires-clause-declared c).After-last-arg-1)

pub store-requires-clause-fits : goal.store-requires-clause-fits
store-requires-clause-fits c =
    let at = (goal.at.store-requires-clause-fits c).After-last-arg-1 in
    received_fit c.self.invariant.kept (within at) (nth at c.last.result c.last.ensures) c.cells.result.now c.cells.ensures

pub count_of-from-requires : goal.count_of-from-requires
count_of-from-requires c =
    let few = status_count (parts_of c.self.inside) c.self.invariant.kept in
    let seen = ap (λ l. length l) c.deref.ensures.value in
    omega arith

pub tell_status-count-requires-clause-room : goal.tell_status-count-requires-clause-room
tell_status-count-requires-clause-room c =
    let at = (goal.at.tell_status-count-requires-clause-room c).After-last-arg-1 in
    let i = within at in
    leave_room i.in_it _ c.self.invariant.kept (told_here c.self.invariant.kept i (nth at c.last.result c.last.ensures))

pub tell_status-count-requires-clause-complete : goal.tell_status-count-requires-clause-complete
tell_status-count-requires-clause-complete c =
    let at = (goal.at.tell_status-count-requires-clause-complete c).After-last-arg-1 in
    is_done c.self.invariant.kept (within at) (nth at c.last.result c.last.ensures)

pub statuses_from-requires : goal.statuses_from-requires
statuses_from-requires c =
    let from = c.count_of-from.ensures ∙ ap (λ (l : List Status). length l) c.deref.ensures.value in
    let now = ap (λ (l : List Status). length l) (c.deref-2.ensures.value ∙ c.tell_status-count.ensures.items) in
    let e = c.self.inside.engine in
    omega (arith, length-append c.self.inside.statuses.items (told_now e.program e.exchange (request c.task-task.result.0 c.last.result) c.args.posting.how))

pub store_statuses-requires-clause-declared : goal.store_statuses-requires-clause-declared
store_statuses-requires-clause-declared c =
    status_places c.self.invariant.kept (within (goal.at.store_statuses-requires-clause-declared c).After-last-arg-1) _ _ _
    c.store.ensures
    (told_back c.self.inside.statuses.items (c.count_of-from.ensures ∙ ap (λ (l : List Status). length l) c.deref.ensures.value)
    (c.deref-2.ensures.value ∙ c.tell_status-count.ensures.items) c.statuses_from.ensures)

-- the next operation has a number
short : (c : After-last-arg-1) → c.args.k + 1 < 2 ^ 32
short c =
    let few = few_operations c.args.prog.now c.task-task.result.0 c.task_of-def.result.now c.requires.well_formed c.task_of-def.ensures in
    let inner = within_body (within c).in_it in
    omega arith

pub overflow_add-k : goal.overflow_add-k
overflow_add-k c =
    let less = short (goal.at.overflow_add-k c).After-last-arg-1 in
    omega arith

pub stop-requires-clause-within : goal.stop-requires-clause-within
stop-requires-clause-within c =
    let i = within (goal.at.stop-requires-clause-within c).After-last-arg-1 in
    let inner = within_body i.in_it in
    omega arith

pub stop-requires-clause-few : goal.stop-requires-clause-few
stop-requires-clause-few c = few_operations c.args.prog.now c.task-task.result.0 c.task_of-def.result.now c.requires.well_formed c.task_of-def.ensures

pub index_mut-requires : goal.index_mut-requires
index_mut-requires c =
    let i = within (goal.at.index_mut-requires c).After-last-arg-1 in
    let inner = place_within (parts_of c.self.inside) c.args.rec.now c.task-task.result.0 c.task_of-def.result.now
    (phase.In c.args.k) c.self.invariant.kept i.in_it.here in
    let len = c.self.inside.phases.len in
    omega arith

pub overflow_add-k-2 : goal.overflow_add-k-2
overflow_add-k-2 c =
    let less = short (goal.at.overflow_add-k-2 c).After-last-arg-1 in
    omega arith

pub note-requires : goal.note-requires
note-requires c =
    entry_room (parts_of c.self.inside) c.task-task.result.0 c.self.invariant.kept (within (goal.at.note-requires c).After-last-arg-1).in_it.may

-- what the calls have answered
leaves : (c : After-note) → Leaves (parts_of c.self.inside) c.tell_status-count.new.statuses.items c.note.new.list.items c.task-task.result.0 c.args.k
    c.count_of-from.result c.tell_status-count.result
    (told_now (parts_of c.self.inside).engine.program (parts_of c.self.inside).engine.exchange (request c.task-task.result.0 c.last.result) c.args.posting.how)
leaves c = record {
  from_is = c.count_of-from.ensures ∙ ap (λ l. length l) c.deref.ensures.value;
  count_is = c.tell_status-count.ensures.count;
  statuses_are = c.tell_status-count.ensures.items;
  entries_are = c.note.ensures.items;
}

pub invariant_of-self : goal.invariant_of-self
invariant_of-self c =
    let s = parts_of c.self.inside in
    let k = c.args.k in
    let at = (goal.at.invariant_of-self c).After-last-arg-1 in
    let i = within at in
    let m = leave_moved {opened_places = vec_capacity c.clear.new.self} c.self.invariant.kept i.in_it (leaves (goal.at.invariant_of-self c).After-note)
    (told_here c.self.invariant.kept i (nth at c.last.result c.last.ensures)) c.stop.ensures c.clear.ensures.items c.note.ensures.places
    c.tell_status-count.ensures.places (omega (arith, c.clear.ensures.capacity)) in
    let f = kept_figures {parts = s} c.self.invariant in
    let inner = within_body i.in_it in
    let same = bound_kept m refl in
    record {
      kept = book_after c.self.invariant.kept m;
      counted = leave_counted f k (found i.in_it.here) i.in_it.here.stands.0 (enabled_in i.in_it) c.stop.ensures
          (gone_more m (rw i.in_it.here.stands.0 refl)) same;
      binding = binding_kept f same;
      numbered = numbered_stop f (k + 1) (found i.in_it.here) i.in_it.here.stands.0 (omega arith) refl c.stop.ensures;
    }

pub returns : goal.returns
returns c =
    let s = parts_of c.self.inside in
    let held = c.args.rec.now in
    let t = c.task-task.result.0 in
    let k = c.args.k in
    let d = c.task_of-def.result.now in
    let at = (goal.at.returns c).After-last-arg-1 in
    let i = within at in
    let m = leave_moved {opened_places = vec_capacity c.clear.new.self} c.self.invariant.kept i.in_it (leaves (goal.at.returns c).After-note)
    (told_here c.self.invariant.kept i (nth at c.last.result c.last.ensures)) c.stop.ensures c.clear.ensures.items c.note.ensures.places
    c.tell_status-count.ensures.places (omega (arith, c.clear.ensures.capacity)) in
    let left = leave_left c.self.invariant.kept i (nth at c.last.result c.last.ensures) c.cells.result.now
    c.cells.ensures c.store.ensures
    (told_back c.self.inside.statuses.items (c.count_of-from.ensures ∙ ap (λ (l : List Status). length l) c.deref.ensures.value)
    (c.deref-2.ensures.value ∙ c.tell_status-count.ensures.items) c.statuses_from.ensures)
    c.store_statuses.ensures c.phase_before.ensures c.go.ensures in
    makes_move c.self.invariant.kept m i.in_it.here.is_def i.in_it.here.who i.in_it.here.program
    (leave_record i.in_it left ∙ sym (left_as s held t d (phase.In k) i.in_it.here))
    (leave_stands s held c.go.new.self t k d i.in_it.here.was left) c.self.view_is
