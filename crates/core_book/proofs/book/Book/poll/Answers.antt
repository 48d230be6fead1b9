-- The book after a poll, and what its caller sees.
use Rattle.std.proofs.Common.{sym, ◌<◌, subst, arith}
use Rattle.std.specs.Prelude.{vec_capacity}
use Rattle.std.specs.VecDeque.{deque_capacity}
use Rattle.book_parts.specs.Ledger.{Ledger}
use Rattle.core_book.proofs.Insides.{parts_of}
use Rattle.book_parts.proofs.Polled.{Polls, book_polled, poll_room, takes_notice}
use Rattle.core_book.proofs.book.Book.poll.Goals as goal
use Rattle.core_book.proofs.book.Book.poll.Goals.{After-note}

polls : (c : After-note) → Polls (parts_of c.self.inside) c.args.poller c.in-Some.req c.pop_front.new.self.items c.note.new.list.items
    (vec_capacity c.note.new.list) (deque_capacity c.pop_front.new.self)
polls c = record {
  kept = c.self.invariant.kept;
  exists = subst (λ (l : Ledger). c.args.poller < l.workers) (sym c.self.view_is) c.requires.exists;
  first = c.in-Some.ensures.items;
  grown = c.note.ensures.items;
  entry_places = c.note.ensures.places;
  notice_places = omega (arith, c.in-Some.ensures.capacity);
}

pub note-requires : goal.note-requires
note-requires c = poll_room (parts_of c.self.inside) c.in-Some.req c.pop_front.new.self.items c.self.invariant.kept c.in-Some.ensures.items

pub invariant_of-self : goal.invariant_of-self
invariant_of-self c = book_polled (polls (goal.at.invariant_of-self c).After-note) c.self.invariant

pub returns : goal.returns
returns c = takes_notice (polls (goal.at.returns c).After-note) c.args.self.now c.self.view_is
