-- What a book counts may move to another thread.
use denote.Param.Send.{IsSend, sendable}
use Rattle.std.proofs.Crossing.{crosses}
use Rattle.book_counts.specs.contracts.counts.Counts as counts
use Rattle.book_counts.specs.contracts.posted.Posted as posted

pub counts_send : IsSend counts.the_row
counts_send = search (sendable, crosses) depth 20

pub posted_send : IsSend posted.the_row
posted_send = search (sendable, crosses) depth 20
