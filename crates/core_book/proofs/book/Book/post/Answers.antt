-- The book after a posting, and the record.
use Rattle.std.proofs.Common.{◌≡◌, ◌∙◌, ◌<◌, ℕ, true, sym, ap, cond, List, length, slice_set, refl, subst, arith}
use Rattle.std.specs.Prelude.{vec_capacity, IfSome}
use Rattle.rt_base.specs.declared.data.ReqNo.{ReqNo}
use Rattle.rt_base.specs.declared.data.Phase.TheVariants as phase
use Rattle.rt_base.specs.declared.data.Program.{Program}
use Rattle.rt_base.specs.Operations.{blocks, nth_at, request}
use Rattle.rt_base.specs.Completion.{is_complete}
use Rattle.book_counts.specs.declared.telling.Told.{Told}
use Rattle.wait_steps.specs.MarkedRows.{is_marked}
use Rattle.book_counts.specs.Counted.{completed_now, expects_now, holds_now, one_less_for, told_requests}
use Rattle.core_book.proofs.Insides.{parts_of}
use Rattle.run_bounds.proofs.Few.{few_operations}
use Rattle.book_parts.proofs.Moved.{book_after, gone_more, makes_move}
use Rattle.book_parts.proofs.Held.{same_program, phases_counted, entry_room, place_within}
use Rattle.book_parts.proofs.BookMoves.{left_as}
use Rattle.book_parts.proofs.CallLemmas.{Calls, calls, call_within, call_sends, call_receives, call_is_new, call_follows, call_may, post_opens, posting_op}
use Rattle.book_parts.proofs.CallMoved.{Answered, call_left, call_moved, call_opens, call_pending, call_stands, post_room, posted_bound}
use Rattle.book_parts.proofs.BoundAfter.{bound_kept}
use Rattle.book_parts.proofs.Figured.{kept_figures, found}
use Rattle.book_parts.proofs.CountCalls.{completes, number_is, seen_as}
use Rattle.book_counts.proofs.AfterCalls.{binding_call, call_counted}
use Rattle.book_counts.proofs.Numbers.{few_posted, next_number, numbered_post, numbered_seen}
use Rattle.book_counts.proofs.Tallies.{length-one_less_for}
use Rattle.book_counts.proofs.Listeners.{told_exists}
use Rattle.core_book.proofs.book.Book.post.Goals as goal
use Rattle.core_book.proofs.book.Book.post.Goals.{After-next-arg-1, After-post-arg-1, After-who_is_told-told, After-note}

-- the task stands at the posting
at_call : (c : After-next-arg-1) → Calls (parts_of c.self.inside) c.args.rec.now c.task-task.result.0 c.args.k c.task_of-def.result.now c.args.posting
at_call c =
    calls (parts_of c.self.inside) c.args.rec.now c.task-task.result.0 c.args.k c.task_of-def.result.now c.args.posting
    c.args.self.now c.args.prog.now c.self.view_is c.requires.same c.requires.stands c.task-task.ensures c.task_of-def.ensures c.requires.at c.requires.posts

index : (c : After-next-arg-1) → c.task-task.result.0 < length c.self.inside.phases.items
index c =
    place_within (parts_of c.self.inside) c.args.rec.now c.task-task.result.0 c.task_of-def.result.now
    (phase.At c.args.k) c.self.invariant.kept (at_call c).here

inner : (c : After-next-arg-1) → c.args.k < length c.task_of-def.result.now.body.items
inner c = call_within (at_call c)

pub next-requires : goal.next-requires
next-requires c =
    let lt = index c in
    let long = c.self.invariant.numbered.long in
    omega arith

-- the request is the posting's own
nth : (c : After-post-arg-1) → Calls (parts_of c.self.inside) c.args.rec.now c.task-task.result.0 c.args.k c.task_of-def.result.now
    c.args.posting
    → c.next.result ≡ nth_at c.task_of-def.result.now c.args.k
nth c call = next_number (kept_figures {parts = parts_of c.self.inside} c.self.invariant) (found call.here) call.at c.next.ensures

pub post-partner-requires-clause-send : goal.post-partner-requires-clause-send
post-partner-requires-clause-send c =
    let call = at_call (goal.at.post-partner-requires-clause-send c).After-next-arg-1 in
    call_sends c.self.invariant.kept call c.requires.packed c.requires.cells (nth (goal.at.post-partner-requires-clause-send c).After-post-arg-1 call)

pub post-partner-requires-clause-receive : goal.post-partner-requires-clause-receive
post-partner-requires-clause-receive c =
    let call = at_call (goal.at.post-partner-requires-clause-receive c).After-next-arg-1 in
    call_receives c.self.invariant.kept call c.requires.packed (nth (goal.at.post-partner-requires-clause-receive c).After-post-arg-1 call)

pub post-partner-requires-clause-fresh : goal.post-partner-requires-clause-fresh
post-partner-requires-clause-fresh c =
    let call = at_call (goal.at.post-partner-requires-clause-fresh c).After-next-arg-1 in
    call_is_new c.self.invariant.kept call (nth (goal.at.post-partner-requires-clause-fresh c).After-post-arg-1 call)

-- who is told, in the book's own terms
tells : (c : After-who_is_told-told) → told_requests (λ (found : Told). true) c.who_is_told-told.result
    ≡ completed_now c.self.inside.program.value (expects_now c.self.inside.program.value c.self.inside.phases.items c.self.inside.marks) c.post-partner.result
tells c =
    let s = parts_of c.self.inside in
    c.who_is_told-told.ensures.told
    ∙ seen_as (λ q z. completed_now q (expects_now q z s.marks) c.post-partner.result) s.program c.args.prog.now s.phases c.deref.result.now
    (same_program s c.args.self.now c.args.prog.now c.self.view_is c.requires.same) c.deref.ensures.value

-- who is told is a task of the program
told : (c : After-who_is_told-told) → IfSome c.who_is_told-told.result (λ (found : Told). found.req.task.0 < length c.self.inside.program.value.tasks.items)
told c =
    told_exists (kept_figures {parts = parts_of c.self.inside} c.self.invariant) c.who_is_told-told.result c.post-partner.result (tells c)

pub lower_bound-requires : goal.lower_bound-requires
lower_bound-requires c =
    subst (λ (n : ℕ). IfSome c.who_is_told-told.result (λ (found : Told). found.req.task.0 < n)) (sym c.self.invariant.binding.long_incomplete)
    (told (goal.at.lower_bound-requires c).After-who_is_told-told)

pub lower_waited-requires : goal.lower_waited-requires
lower_waited-requires c =
    subst (λ (n : ℕ). IfSome c.who_is_told-told.result (λ (found : Told). found.req.task.0 < n))
    (sym (c.self.invariant.counted.long ∙ phases_counted (parts_of c.self.inside) c.self.invariant.kept))
    (told (goal.at.lower_waited-requires c).After-who_is_told-told)

pub who_is_told-told-requires-clause-numbered : goal.who_is_told-told-requires-clause-numbered
who_is_told-told-requires-clause-numbered c =
    let s = parts_of c.self.inside in
    numbered_seen s.program c.args.prog.now s.phases c.deref.result.now s.posted c.self.invariant.numbered
    (same_program s c.args.self.now c.args.prog.now c.self.view_is c.requires.same) c.deref.ensures.value

pub note_some-requires : goal.note_some-requires
note_some-requires c =
    let call = at_call (goal.at.note_some-requires c).After-next-arg-1 in
    let fits = post_opens c.self.invariant.kept call in
    omega (arith, ap (λ (z : List ReqNo). length z) c.clear.ensures.items, c.clear.ensures.capacity)

pub add-requires-clause-within : goal.add-requires-clause-within
add-requires-clause-within c =
    let lt = index (goal.at.add-requires-clause-within c).After-next-arg-1 in
    let long = c.self.invariant.numbered.long in
    omega arith

pub add-requires-clause-few : goal.add-requires-clause-few
add-requires-clause-few c =
    let call = at_call (goal.at.add-requires-clause-few c).After-next-arg-1 in
    few_posted (kept_figures {parts = parts_of c.self.inside} c.self.invariant) (found call.here) call.at
    (inner (goal.at.add-requires-clause-few c).After-next-arg-1) c.next.ensures

pub phase_after-requires-clause-within : goal.phase_after-requires-clause-within
phase_after-requires-clause-within c = inner (goal.at.phase_after-requires-clause-within c).After-next-arg-1

pub phase_after-requires-clause-few : goal.phase_after-requires-clause-few
phase_after-requires-clause-few c = few_operations c.args.prog.now c.task-task.result.0 c.task_of-def.result.now c.requires.well_formed c.task_of-def.ensures

pub index_mut-requires : goal.index_mut-requires
index_mut-requires c =
    let lt = index (goal.at.index_mut-requires c).After-next-arg-1 in
    omega arith

pub place_after-requires-clause-within : goal.place_after-requires-clause-within
place_after-requires-clause-within c = inner (goal.at.place_after-requires-clause-within c).After-next-arg-1

pub place_after-requires-clause-few : goal.place_after-requires-clause-few
place_after-requires-clause-few c = few_operations c.args.prog.now c.task-task.result.0 c.task_of-def.result.now c.requires.well_formed c.task_of-def.ensures

pub go-requires-clause-goes_to : goal.go-requires-clause-goes_to
go-requires-clause-goes_to c = call_follows (at_call (goal.at.go-requires-clause-goes_to c).After-next-arg-1) c.place_after.ensures

pub note-requires : goal.note-requires
note-requires c =
    entry_room (parts_of c.self.inside) c.task-task.result.0 c.self.invariant.kept
    (call_may (at_call (goal.at.note-requires c).After-next-arg-1))

pub set-requires : goal.set-requires
set-requires c =
    let lt = index (goal.at.set-requires c).After-next-arg-1 in
    let long = c.self.invariant.counted.long in
    let same = ap (λ (z : List ℕ). length z) c.lower_waited.ensures ∙ length-one_less_for c.self.inside.waits
    (told_requests (λ (found : Told). found.waited) c.who_is_told-told.result) in
    omega arith

-- what the calls have answered, and the count that comes of it
asked : (c : After-who_is_told-told) → c.next.result ≡ nth_at c.task_of-def.result.now c.args.k
    → Answered (parts_of c.self.inside) c.args.rec.now c.task-task.result.0 c.args.k c.next.result
    (cond (is_complete c.post-partner.new.engine.program c.post-partner.new.engine.exchange (request c.task-task.result.0 c.next.result)) 0 1)
    c.task_of-def.result.now
    c.args.posting c.args.cells.items c.post-partner.new.engine c.post-partner.result
asked c is_nth = record {
  nth = is_nth;
  packs = c.requires.packed;
  program = c.post-partner.ensures.program;
  exchange = c.post-partner.ensures.exchange;
  partner_is = c.post-partner.ensures.partner;
  before = c.post-partner.ensures.before;
  completed = c.post-partner.ensures.completed;
  counted = refl;
}

answered : (c : After-note) → c.next.result ≡ nth_at c.task_of-def.result.now c.args.k
    → Answered (parts_of c.self.inside) c.args.rec.now c.task-task.result.0 c.args.k c.next.result c.pending-pending.result
    c.task_of-def.result.now
    c.args.posting c.args.cells.items c.post-partner.new.engine c.post-partner.result
answered c is_nth = record {
  nth = is_nth;
  packs = c.requires.packed;
  program = c.post-partner.ensures.program;
  exchange = c.post-partner.ensures.exchange;
  partner_is = c.post-partner.ensures.partner;
  before = c.post-partner.ensures.before;
  completed = c.post-partner.ensures.completed;
  counted = c.pending-pending.ensures;
}

-- there is room for the notice
pub tell-requires : goal.tell-requires
tell-requires c = record {
  room =
      let told_here = (goal.at.tell-requires c).After-who_is_told-told in
      let call = at_call (goal.at.tell-requires c).After-next-arg-1 in
      let a = asked told_here (nth (goal.at.tell-requires c).After-post-arg-1 call) in
      post_room c.self.invariant.kept call a c.self.invariant.binding.marked (tells told_here);
}

pub invariant_of-self : goal.invariant_of-self
invariant_of-self c =
    let s = parts_of c.self.inside in
    let found_now = c.post-partner.result in
    let call = at_call (goal.at.invariant_of-self c).After-next-arg-1 in
    let a = answered (goal.at.invariant_of-self c).After-note (nth (goal.at.invariant_of-self c).After-post-arg-1 call) in
    let same = same_program s c.args.self.now c.args.prog.now c.self.view_is c.requires.same in
    let m = call_moved c.self.invariant.kept call a {opened_places = vec_capacity c.note_some.new.list} c.set.new.self c.add.new.self
    c.lower_bound.new.incomplete c.self.invariant.binding.marked c.tell.ensures.items (tells (goal.at.invariant_of-self c).After-who_is_told-told)
    c.phase_after.ensures c.note.ensures.items
    (call_opens c.self.invariant.kept call a c.waits_after-awaited.ensures c.clear.ensures.items c.note_some.ensures.items)
    c.note.ensures.places c.tell.ensures.places (omega (arith, c.clear.ensures.capacity, c.note_some.ensures.places)) in
    let as_before = bound_kept m (posted_bound c.task_of-def.result.now c.args.k (blocks c.args.posting.how) call.here.was) in
    let f = kept_figures {parts = s} c.self.invariant in
    let made = completes c.self.invariant.kept a in
    let x = posting_op c.args.posting _ call.posts in
    record {
      kept = book_after c.self.invariant.kept m;
      counted = call_counted f x (blocks c.args.posting.how) (found call.here) call.at call.posts.is refl made
          (number_is c.self.invariant.kept a c.waits_after-awaited.ensures)
          (c.set.ensures ∙ ap (λ (z : List ℕ). slice_set z c.task-task.result.0 c.waits_after-awaited.result) (c.lower_waited.ensures
          ∙ ap (one_less_for s.waits) (c.who_is_told-told.ensures.waited ∙ seen_as (λ q z. completed_now q (holds_now q z s.marks) found_now)
          s.program c.args.prog.now s.phases c.deref.result.now same c.deref.ensures.value)))
          c.phase_after.ensures (gone_more m (rw call.at refl)) as_before;
      numbered = numbered_post f x (blocks c.args.posting.how) (found call.here) call.at call.posts.is refl c.next.ensures c.add.ensures c.phase_after.ensures;
      binding = binding_call f (found call.here) call.at made (c.lower_bound.ensures ∙ ap (one_less_for s.incomplete) (c.who_is_told-told.ensures.bound
          ∙ ap (λ (q : Program). completed_now q (is_marked s.marks) found_now) same)) as_before;
    }

pub returns-clause-moves : goal.returns-clause-moves
returns-clause-moves c =
    let s = parts_of c.self.inside in
    let call = at_call (goal.at.returns-clause-moves c).After-next-arg-1 in
    let a = answered (goal.at.returns-clause-moves c).After-note (nth (goal.at.returns-clause-moves c).After-post-arg-1 call) in
    let m = call_moved c.self.invariant.kept call a {opened_places = vec_capacity c.note_some.new.list} c.set.new.self c.add.new.self
    c.lower_bound.new.incomplete c.self.invariant.binding.marked c.tell.ensures.items (tells (goal.at.returns-clause-moves c).After-who_is_told-told)
    c.phase_after.ensures c.note.ensures.items
    (call_opens c.self.invariant.kept call a c.waits_after-awaited.ensures c.clear.ensures.items c.note_some.ensures.items)
    c.note.ensures.places c.tell.ensures.places (omega (arith, c.clear.ensures.capacity, c.note_some.ensures.places)) in
    makes_move c.self.invariant.kept m call.here.is_def call.here.who call.here.program
    (call_left call c.place_after.ensures c.go.ensures
    ∙ sym (left_as s c.args.rec.now c.task-task.result.0 c.task_of-def.result.now (phase.At c.args.k) call.here))
    (call_stands call c.place_after.ensures c.go.ensures) c.self.view_is

pub returns-clause-pending : goal.returns-clause-pending
returns-clause-pending c =
    let call = at_call (goal.at.returns-clause-pending c).After-next-arg-1 in
    let a = answered (goal.at.returns-clause-pending c).After-note (nth (goal.at.returns-clause-pending c).After-post-arg-1 call) in
    call_pending c.self.invariant.kept call a c.self.view_is c.requires.same
