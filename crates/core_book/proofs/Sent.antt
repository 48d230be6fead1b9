-- A book, and what is left of it at its end, may move to another thread.
use denote.Param.Send.{IsSend, sendable}
use denote.Struct.Struct.{Struct}
use denote.Struct.Declared as struct
use Rattle.std.proofs.Crossing.{crosses}
use Rattle.rt_base.proofs.Sent.{listed_send, req_no_send, phase_send, entry_send, status_send, history_send}
use Rattle.region_deps.proofs.Sent.{deps_send}
use Rattle.match_engine.proofs.Sent.{engine_send}
use Rattle.wait_steps.proofs.Sent.{marks_send}
use Rattle.book_counts.proofs.Sent.{counts_send, posted_send}
use Rattle.core_book.specs.contracts.book.Book as book
use Rattle.core_book.specs.contracts.book.BookEnd as end_of

pub book_send : IsSend book.the_row
book_send =
    search (sendable, crosses, deps_send, engine_send, phase_send, req_no_send, entry_send, status_send, counts_send, posted_send, marks_send) depth 30

pub end_send : IsSend (Struct (struct.shape end_of.the_type))
end_send = search (sendable, crosses, history_send, listed_send, phase_send) depth 20
