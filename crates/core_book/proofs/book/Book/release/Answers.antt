-- The book after a release, and the record.
use Rattle.std.proofs.Common.{◌≡◌, ◌∙◌, ◌-◌, refl, sym, ap, List, ◌++◌, length, take, drop, slice_get, arith}
use Rattle.std.specs.Prelude.{ℤ, vec_capacity}
use Rattle.std.proofs.lemmas.Option.{slice_get_within}
use Rattle.rt_base.specs.declared.data.Phase.TheVariants as phase
use Rattle.rt_base.specs.declared.data.Status.{Status}
use Rattle.core_book.proofs.Insides.{parts_of}
use Rattle.book_parts.proofs.BookLemmas.{status_count}
use Rattle.book_parts.proofs.BookMoves.{left_as}
use Rattle.book_parts.proofs.Moved.{book_after, gone_more, makes_move, still_held}
use Rattle.book_parts.proofs.Held.{entry_room, handed_of, place_within, same_program}
use Rattle.book_parts.proofs.BoundAfter.{bound_kept}
use Rattle.book_parts.proofs.Figured.{kept_figures, found}
use Rattle.book_counts.proofs.AfterMoves.{binding_kept, release_counted, some_unreleased}
use Rattle.book_counts.proofs.Numbers.{numbered_next}
use Rattle.book_parts.proofs.ReleaseLemmas.{Releases, LetsGo, copy_now, releases, late_received, late_told_room, late_count, late_stored, late_tells}
use Rattle.book_parts.proofs.ReleaseLemmas.{release_left, release_stands, saved_now, release_moved, whole_back}
use Rattle.core_book.proofs.book.Book.release.Goals as goal
use Rattle.core_book.proofs.book.Book.release.Goals.{After-note, After-task_of}

pub count_of-from-requires : goal.count_of-from-requires
count_of-from-requires c =
    let few = status_count (parts_of c.self.inside) c.self.invariant.kept in
    let seen = ap (λ (l : List Status). length l) c.deref.ensures.value in
    omega arith

pub task_of-requires : goal.task_of-requires
task_of-requires c =
    slice_get_within c.args.prog.now.tasks.items c.task-task.result.0 c.requires.stands.def
    (ap (slice_get c.args.prog.now.tasks.items) c.task-task.ensures ∙ c.requires.stands.is_def)

-- the task has returned, and may let go
known : (c : After-task_of) → Releases (parts_of c.self.inside) c.args.rec.now c.task-task.result.0 c.task_of.result.now
known c =
    releases (parts_of c.self.inside) c.args.rec.now c.task-task.result.0 c.task_of.result.now c.args.self.now c.args.prog.now c.self.invariant.kept
    c.self.view_is c.requires.same c.requires.stands c.requires.enabled c.task-task.ensures c.task_of.ensures c.requires.returned

pub take_bound-requires-clause-received : goal.take_bound-requires-clause-received
take_bound-requires-clause-received c =
    late_received c.self.invariant.kept (known (goal.at.take_bound-requires-clause-received c).After-task_of) c.args.rec.now.task (sym c.task-task.ensures)

pub take_bound-requires-clause-room : goal.take_bound-requires-clause-room
take_bound-requires-clause-room c = late_told_room c.self.invariant.kept (known (goal.at.take_bound-requires-clause-room c).After-task_of)

pub count_of-requires : goal.count_of-requires
count_of-requires c =
    let few = late_count c.self.invariant.kept (known (goal.at.count_of-requires c).After-task_of) c.args.rec.now.task c.take_bound.new.statuses.items
    c.take_bound.ensures.told in
    let seen = ap (λ (l : List Status). length l) c.deref-2.ensures.value in
    omega (arith, few.1)

pub index_mut-requires : goal.index_mut-requires
index_mut-requires c =
    let r = known (goal.at.index_mut-requires c).After-task_of in
    let within = place_within (parts_of c.self.inside) c.args.rec.now c.task-task.result.0 c.task_of.result.now phase.Returned c.self.invariant.kept r.here in
    let len = c.self.inside.phases.len in
    omega arith

pub overflow_sub-self : goal.overflow_sub-self
overflow_sub-self c =
    let r = known (goal.at.overflow_sub-self c).After-task_of in
    let some = some_unreleased (kept_figures {parts = parts_of c.self.inside} c.self.invariant) (found r.here) r.here.stands.0 in
    omega arith

pub set-requires : goal.set-requires
set-requires c =
    let r = known (goal.at.set-requires c).After-task_of in
    let within = place_within (parts_of c.self.inside) c.args.rec.now c.task-task.result.0 c.task_of.result.now phase.Returned c.self.invariant.kept r.here in
    let long = c.self.invariant.counted.long in
    omega arith

pub release-requires-clause-handed : goal.release-requires-clause-handed
release-requires-clause-handed c =
    let r = known (goal.at.release-requires-clause-handed c).After-task_of in
    handed_of (parts_of c.self.inside) c.args.rec.now c.task-task.result.0 c.task_of.result.now phase.Returned phase.Returned c.self.invariant.kept r.here
    r.here.stands.0 (λ e. absurd (cc e))

pub release-requires-clause-held : goal.release-requires-clause-held
release-requires-clause-held c =
    let r = known (goal.at.release-requires-clause-held c).After-task_of in
    still_held (parts_of c.self.inside) c.task-task.result.0 r.here.was c.self.invariant.kept r.here.is_task (rw r.here.stands.0 refl)

pub note-requires : goal.note-requires
note-requires c =
    entry_room (parts_of c.self.inside) c.task-task.result.0 c.self.invariant.kept (known (goal.at.note-requires c).After-task_of).may

-- the memory that was lent comes back with what the release has put there
back : (c : After-note) → take c.self.inside.memory.len (c.save.new.memory ++ drop (length c.save.new.memory) c.self.inside.memory.items) ≡ c.save.new.memory
back c =
    let b = c.self.inside in
    let long : length c.save.new.memory ≡ length b.memory.items = c.save.auto.memory ∙ ap (λ (z : List ℤ). length z) c.deref_mut.ensures.value in
    whole_back c.save.new.memory b.memory.items b.memory.len (omega arith) (omega arith)

long_back : (c : After-note) → length (take c.self.inside.memory.len (c.save.new.memory ++ drop
    (length c.save.new.memory) c.self.inside.memory.items)) ≡ length c.self.inside.memory.items
unfolding back
long_back c = ap (λ (z : List ℤ). length z) (back c) ∙ c.save.auto.memory ∙ ap (λ (z : List ℤ). length z) c.deref_mut.ensures.value

-- the record with what was bound in its copy
stored : (c : After-note) → (r : Releases (parts_of c.self.inside) c.args.rec.now c.task-task.result.0 c.task_of.result.now)
    → c.take_bound.new.rec ≡ record c.args.rec.now { copy = copy_now r }
stored c r = late_stored c.self.invariant.kept r c.take_bound.ensures.stored

-- what the calls have answered
goes : (c : After-note) → (r : Releases (parts_of c.self.inside) c.args.rec.now c.task-task.result.0 c.task_of.result.now)
    → LetsGo (parts_of c.self.inside) c.task-task.result.0 c.task_of.result.now r.here.was c.release.new.self
    (take c.self.inside.memory.len (c.save.new.memory ++ drop (length c.save.new.memory) c.self.inside.memory.items)) c.take_bound.new.statuses.items
    c.note.new.list.items c.count_of-from.result (c.count_of.result - c.count_of-from.result) c.clear.new.self.items
goes c r =
    let s = parts_of c.self.inside in
    let held = c.args.rec.now in
    let from = c.count_of-from.ensures ∙ ap (λ (l : List Status). length l) c.deref.ensures.value in
    let until = c.count_of.ensures ∙ ap (λ (l : List Status). length l) c.deref-2.ensures.value in
    let more = late_count c.self.invariant.kept r held.task c.take_bound.new.statuses.items c.take_bound.ensures.told in
    record {
      long = long_back c;
      put = back c ∙ saved_now c.self.invariant.kept r c.take_bound.new.rec c.args.prog.now _ c.save.new.memory (stored c r)
          (same_program s c.args.self.now c.args.prog.now c.self.view_is c.requires.same) c.deref_mut.ensures.value c.save.ensures;
      of_program = c.release.ensures.program;
      marks = c.release.ensures.handed;
      freed = c.release.ensures.released;
      whole = c.release.ensures.places;
      told = c.take_bound.ensures.told
          ∙ ap (λ (z : List Status). c.self.inside.statuses.items ++ z) (late_tells c.self.invariant.kept r held.task (sym c.task-task.ensures));
      from_is = from;
      count_is = omega (arith, from, until, more.0);
      grown = c.note.ensures.items;
      none = c.clear.ensures.items;
    }

pub invariant_of-self : goal.invariant_of-self
invariant_of-self c =
    let r = known (goal.at.invariant_of-self c).After-task_of in
    let m = release_moved {status_places = vec_capacity c.take_bound.new.statuses} {opened_places = vec_capacity c.clear.new.self}
    (c.self.inside.unreleased - 1) c.set.new.self c.self.invariant.kept r (goes (goal.at.invariant_of-self c).After-note r) c.note.ensures.places
    c.take_bound.ensures.places (omega (arith, c.clear.ensures.capacity)) in
    let f = kept_figures {parts = parts_of c.self.inside} c.self.invariant in
    let same = bound_kept m refl in
    record {
      kept = book_after c.self.invariant.kept m;
      counted = release_counted f (found r.here) r.here.stands.0 c.release.ensures.handed c.set.ensures (gone_more m (rw r.here.stands.0 refl)) same;
      numbered = numbered_next f phase.Released (found r.here) r.here.stands.0 refl;
      binding = binding_kept f same;
    }

pub returns : goal.returns
returns c =
    let noted = (goal.at.returns c).After-note in
    let r = known (goal.at.returns c).After-task_of in
    let m = release_moved {status_places = vec_capacity c.take_bound.new.statuses} {opened_places = vec_capacity c.clear.new.self}
    (c.self.inside.unreleased - 1) c.set.new.self c.self.invariant.kept r (goes noted r) c.note.ensures.places c.take_bound.ensures.places
    (omega (arith, c.clear.ensures.capacity)) in
    makes_move c.self.invariant.kept m r.here.is_def r.here.who r.here.program
    (release_left r (stored noted r) c.go.ensures
    ∙ sym (left_as (parts_of c.self.inside) c.args.rec.now c.task-task.result.0 c.task_of.result.now phase.Returned r.here))
    (release_stands r (stored noted r) c.go.ensures) c.self.view_is
