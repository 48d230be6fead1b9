-- The book after the end of a wait, and the record.
use Rattle.std.proofs.Common.{◌∙◌, ◌+◌, ◌^◌, ◌<◌, sym, ap, List, length, refl, arith}
use Rattle.std.specs.Prelude.{vec_capacity}
use Rattle.std.proofs.lemmas.List.{length-append}
use Rattle.rt_base.specs.declared.data.Status.{Status}
use Rattle.rt_base.specs.declared.data.Phase.TheVariants as phase
use Rattle.task_local.specs.Waits.{statuses_of}
use Rattle.core_book.proofs.Insides.{parts_of}
use Rattle.run_bounds.proofs.Few.{few_operations}
use Rattle.book_parts.proofs.BookLemmas.{status_count}
use Rattle.book_parts.proofs.Moved.{book_after, gone_more, makes_move}
use Rattle.book_parts.proofs.Held.{entry_room, place_within}
use Rattle.book_parts.proofs.BookMoves.{left_as}
use Rattle.book_parts.proofs.BoundAfter.{bound_kept}
use Rattle.book_parts.proofs.Figured.{kept_figures, found}
use Rattle.book_counts.proofs.AfterMoves.{binding_kept, leave_counted}
use Rattle.book_counts.proofs.Numbers.{numbered_stop}
use Rattle.run_bounds.proofs.Tells.{statuses_each}
use Rattle.book_parts.proofs.Within.{Within, enabled_in, is_within, within_body}
use Rattle.book_parts.proofs.LeaveMoved.{Leaves, told_back, leave_moved, leave_record, leave_stands}
use Rattle.book_parts.proofs.WaitEnds.{InWait, in_wait, is_await, is_wait, wait_complete, wait_few, wait_told_room, wait_declared, wait_tells, wait_end}
use Rattle.core_book.proofs.book.Book.leave_wait.Goals as goal
use Rattle.core_book.proofs.book.Book.leave_wait.Goals.{After-task_of-def, After-handles_at-handles, After-note}

-- the task is in the wait
within_it : (c : After-task_of-def) → Within (parts_of c.self.inside) c.args.rec.now c.task-task.result.0 c.args.k c.task_of-def.result.now
within_it c =
    is_within (parts_of c.self.inside) c.args.rec.now c.task-task.result.0 c.args.k c.task_of-def.result.now c.args.self.now c.args.prog.now
    c.self.invariant.kept c.self.view_is c.requires.same c.requires.stands c.requires.enabled c.task-task.ensures c.task_of-def.ensures c.requires.within

known : (c : After-handles_at-handles) → InWait (parts_of c.self.inside) c.args.rec.now c.task-task.result.0 c.args.k c.task_of-def.result.now
    c.handles_at-handles.result.now
known c =
    in_wait (is_within (parts_of c.self.inside) c.args.rec.now c.task-task.result.0 c.args.k c.task_of-def.result.now c.args.self.now c.args.prog.now
    c.self.invariant.kept c.self.view_is c.requires.same c.requires.stands c.requires.enabled c.task-task.ensures c.task_of-def.ensures c.requires.within)
    c.requires.other (c.handles_at-handles.ensures 0)

inner : (c : After-handles_at-handles) → c.args.k < length c.task_of-def.result.now.body.items
inner c = within_body (known c).in_it

short : (c : After-handles_at-handles) → c.args.k + 1 < 2 ^ 32
short c =
    let few = few_operations c.args.prog.now c.task-task.result.0 c.task_of-def.result.now c.requires.well_formed c.task_of-def.ensures in
    let within = inner c in
    omega arith

pub handles_at-handles-requires-clause-within : goal.handles_at-handles-requires-clause-within
handles_at-handles-requires-clause-within c =
    let w = within_it (goal.at.handles_at-handles-requires-clause-within c).After-task_of-def in
    within_body w

pub handles_at-handles-requires-clause-waits : goal.handles_at-handles-requires-clause-waits
handles_at-handles-requires-clause-waits c =
    let w = within_it (goal.at.handles_at-handles-requires-clause-waits c).After-task_of-def in
    is_await w c.requires.other

pub status_at-requires-clause-waits : goal.status_at-requires-clause-waits
status_at-requires-clause-waits c =
    let w = within_it (goal.at.status_at-requires-clause-waits c).After-task_of-def in
    is_wait w c.requires.other

pub store_received-requires-clause-complete : goal.store_received-requires-clause-complete
store_received-requires-clause-complete c =
    let at = (goal.at.store_received-requires-clause-complete c).After-handles_at-handles in
    let w = known at in
    wait_complete c.self.invariant.kept w c.args.rec.now.task (sym c.task-task.ensures)

pub count_of-from-requires : goal.count_of-from-requires
count_of-from-requires c =
    let less = status_count (parts_of c.self.inside) c.self.invariant.kept in
    let seen = ap (λ (l : List Status). length l) c.deref.ensures.value in
    omega arith

pub tell_each-requires-clause-complete : goal.tell_each-requires-clause-complete
tell_each-requires-clause-complete c =
    let at = (goal.at.tell_each-requires-clause-complete c).After-handles_at-handles in
    let w = known at in
    wait_complete c.self.invariant.kept w c.task-task.result.0 refl

pub tell_each-requires-clause-room : goal.tell_each-requires-clause-room
tell_each-requires-clause-room c =
    let at = (goal.at.tell_each-requires-clause-room c).After-handles_at-handles in
    let w = known at in
    wait_told_room c.self.invariant.kept w

pub status_at-requires-clause-within : goal.status_at-requires-clause-within
status_at-requires-clause-within c = inner (goal.at.status_at-requires-clause-within c).After-handles_at-handles

pub statuses_from-requires : goal.statuses_from-requires
statuses_from-requires c =
    let from = c.count_of-from.ensures ∙ ap (λ (l : List Status). length l) c.deref.ensures.value in
    let now = ap (λ (l : List Status). length l) (c.deref-2.ensures.value ∙ c.tell_each.ensures.items) in
    let more = statuses_of c.self.inside.engine.program c.self.inside.engine.exchange c.task-task.result.0 c.handles_at-handles.result.now in
    omega (arith, length-append c.self.inside.statuses.items more)

pub store_statuses-requires-clause-declared : goal.store_statuses-requires-clause-declared
store_statuses-requires-clause-declared c =
    let at = (goal.at.store_statuses-requires-clause-declared c).After-handles_at-handles in
    let w = known at in
    wait_declared c.self.invariant.kept w c.store_received.new.rec _ c.status_at.result c.statuses_from.result.now c.store_received.ensures
    c.status_at.ensures
    (told_back c.self.inside.statuses.items (c.count_of-from.ensures ∙ ap (λ (l : List Status). length l) c.deref.ensures.value)
    (c.deref-2.ensures.value ∙ c.tell_each.ensures.items) c.statuses_from.ensures)

pub overflow_add-k : goal.overflow_add-k
overflow_add-k c =
    let less = short (goal.at.overflow_add-k c).After-handles_at-handles in
    omega arith

pub stop-requires-clause-within : goal.stop-requires-clause-within
stop-requires-clause-within c =
    let within = inner (goal.at.stop-requires-clause-within c).After-handles_at-handles in
    omega arith

pub stop-requires-clause-few : goal.stop-requires-clause-few
stop-requires-clause-few c = few_operations c.args.prog.now c.task-task.result.0 c.task_of-def.result.now c.requires.well_formed c.task_of-def.ensures

pub index_mut-requires : goal.index_mut-requires
index_mut-requires c =
    let w = known (goal.at.index_mut-requires c).After-handles_at-handles in
    let within = place_within (parts_of c.self.inside) c.args.rec.now c.task-task.result.0 c.task_of-def.result.now (phase.In c.args.k)
    c.self.invariant.kept w.in_it.here in
    let len = c.self.inside.phases.len in
    omega arith

pub overflow_add-k-2 : goal.overflow_add-k-2
overflow_add-k-2 c =
    let less = short (goal.at.overflow_add-k-2 c).After-handles_at-handles in
    omega arith

pub overflow_cast-handles : goal.overflow_cast-handles
overflow_cast-handles c =
    let less = wait_few c.self.invariant.kept (known (goal.at.overflow_cast-handles c).After-handles_at-handles) in
    omega arith

pub note-requires : goal.note-requires
note-requires c =
    entry_room (parts_of c.self.inside) c.task-task.result.0 c.self.invariant.kept (known (goal.at.note-requires c).After-handles_at-handles).in_it.may

-- what the calls have answered
leaves : (c : After-note) → Leaves (parts_of c.self.inside) c.tell_each.new.statuses.items c.note.new.list.items c.task-task.result.0 c.args.k
    c.count_of-from.result (length c.handles_at-handles.result.now)
    (statuses_of c.self.inside.engine.program c.self.inside.engine.exchange c.task-task.result.0 c.handles_at-handles.result.now)
leaves c = record {
  from_is = c.count_of-from.ensures ∙ ap (λ (l : List Status). length l) c.deref.ensures.value;
  count_is = sym (statuses_each c.self.inside.engine.program c.self.inside.engine.exchange c.task-task.result.0 c.handles_at-handles.result.now);
  statuses_are = c.tell_each.ensures.items;
  entries_are = c.note.ensures.items;
}

pub invariant_of-self : goal.invariant_of-self
invariant_of-self c =
    let at = (goal.at.invariant_of-self c).After-handles_at-handles in
    let w = known at in
    let m = leave_moved {opened_places = vec_capacity c.clear.new.self} c.self.invariant.kept w.in_it (leaves (goal.at.invariant_of-self c).After-note)
    (wait_tells c.self.invariant.kept w) c.stop.ensures c.clear.ensures.items c.note.ensures.places c.tell_each.ensures.places
    (omega (arith, c.clear.ensures.capacity)) in
    let f = kept_figures {parts = parts_of c.self.inside} c.self.invariant in
    let within = inner at in
    let as_before = bound_kept m refl in
    record {
      kept = book_after c.self.invariant.kept m;
      counted = leave_counted f c.args.k (found w.in_it.here) w.in_it.here.stands.0 (enabled_in w.in_it) c.stop.ensures
          (gone_more m (rw w.in_it.here.stands.0 refl)) as_before;
      binding = binding_kept f as_before;
      numbered = numbered_stop f (c.args.k + 1) (found w.in_it.here) w.in_it.here.stands.0 (omega arith) refl c.stop.ensures;
    }

pub returns : goal.returns
returns c =
    let s = parts_of c.self.inside in
    let held = c.args.rec.now in
    let t = c.task-task.result.0 in
    let d = c.task_of-def.result.now in
    let at = (goal.at.returns c).After-handles_at-handles in
    let w = known at in
    let m = leave_moved {opened_places = vec_capacity c.clear.new.self} c.self.invariant.kept w.in_it (leaves (goal.at.returns c).After-note)
    (wait_tells c.self.invariant.kept w) c.stop.ensures c.clear.ensures.items c.note.ensures.places c.tell_each.ensures.places
    (omega (arith, c.clear.ensures.capacity)) in
    let left = wait_end c.self.invariant.kept w c.store_received.new.rec c.store_statuses.new.rec c.go.new.self held.task c.status_at.result
    c.statuses_from.result.now c.phase_before.result (sym c.task-task.ensures)
    c.store_received.ensures c.status_at.ensures
    (told_back c.self.inside.statuses.items (c.count_of-from.ensures ∙ ap (λ (l : List Status). length l) c.deref.ensures.value)
    (c.deref-2.ensures.value ∙ c.tell_each.ensures.items) c.statuses_from.ensures)
    c.store_statuses.ensures c.phase_before.ensures c.go.ensures in
    makes_move c.self.invariant.kept m w.in_it.here.is_def w.in_it.here.who w.in_it.here.program
    (leave_record w.in_it left ∙ sym (left_as s held t d (phase.In c.args.k) w.in_it.here))
    (leave_stands s held c.go.new.self t c.args.k d w.in_it.here.was left) c.self.view_is
