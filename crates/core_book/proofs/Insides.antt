-- The fields of a book as its insides.
use Rattle.std.specs.Prelude.{vec_capacity}
use Rattle.std.specs.VecDeque.{deque_capacity}
use Rattle.core_book.specs.declared.book.Book.TheInside.{Inside}
use Rattle.book_parts.specs.Kept.{BookParts}

abbrev pub parts_of : Inside → BookParts
parts_of b = record {
  program = b.program.value;
  workers = b.workers;
  ready = b.deps;
  engine = b.engine;
  memory = b.memory.items;
  phases = b.phases.items;
  notices = b.notices.items;
  entries = b.entries.items;
  statuses = b.statuses.items;
  unreleased = b.unreleased;
  waits = b.waits;
  posted = b.posted;
  marks = b.marks;
  bound = b.bound;
  incomplete = b.incomplete;
  opened = b.opened.items;
  entry_places = vec_capacity b.entries;
  status_places = vec_capacity b.statuses;
  notice_places = deque_capacity b.notices;
  opened_places = vec_capacity b.opened;
}
