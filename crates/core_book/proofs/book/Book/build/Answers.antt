-- A new book's insides are the opening state.
use Rattle.book_parts.proofs.NewBook.{fresh_book}
use Rattle.core_book.proofs.book.Book.build.Goals as goal

pub invariant_of-result : goal.invariant_of-result
invariant_of-result c =
    let lists = c.in_ok-lists.ensures in
    let numbers = c.in_ok-numbers.ensures in
    rw c.of.ensures (fresh_book _ (record {
      new = record {
        well = c.requires.well_formed;
        fresh = c.in_ok-build.ensures.none_handed_out;
        whole = c.in_ok-build.ensures.places;
        engine_of = c.in_ok-build-2.ensures.program;
        quiet = c.in_ok-build-2.ensures.exchange;
        memory_is = lists.memory;
        phases_are = lists.phases;
        notices_are = lists.notices;
        entries_are = lists.entries;
        statuses_are = lists.statuses;
        opened_are = lists.opened;
        entry_places = lists.entry_places;
        status_places = lists.status_places;
        notice_places = lists.notice_places;
        opened_places = lists.opened_places;
      };
      unreleased_is = c.len.ensures;
      waits_are = numbers.waits;
      posted_are = numbers.posted;
      marks_are = numbers.marks;
      bound_are = numbers.bound;
      incomplete_are = numbers.incomplete;
    }))
