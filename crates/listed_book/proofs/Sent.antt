-- A book with its list, and what its calls answer, may move to another thread.
use denote.Param.Send.{IsSend, sendable}
use denote.Enum.Enum.{Enum}
use denote.Struct.Struct.{Struct}
use denote.Enum.Declared as enum
use denote.Struct.Declared as struct
use Rattle.std.proofs.Crossing.{crosses}
use Rattle.rt_base.proofs.Sent.{task_no_send, req_no_send}
use Rattle.pass_table.proofs.Sent.{pen_send, pass_send, note_send}
use Rattle.core_book.proofs.Sent.{book_send}
use Rattle.listed_book.specs.contracts.lying_pen.LyingPen as lying_pen
use Rattle.listed_book.specs.contracts.listed.ListedBook as listed
use Rattle.listed_book.specs.contracts.replies.Offered as offered
use Rattle.listed_book.specs.contracts.replies.Told as told
use Rattle.listed_book.specs.contracts.replies.Idle as idle

pub lying_pen_send : IsSend lying_pen.the_row
lying_pen_send = search (sendable, crosses, pen_send) depth 20

pub listed_send : IsSend listed.the_row
listed_send = search (sendable, crosses, book_send, lying_pen_send, pass_send) depth 20

pub offered_send : IsSend (Struct (struct.shape offered.the_type))
offered_send = search (sendable, crosses, task_no_send, pass_send) depth 20

pub told_send : IsSend (Struct (struct.shape told.the_type))
told_send = search (sendable, crosses, req_no_send, note_send) depth 20

pub idle_send : IsSend (Enum (enum.shape idle.the_type))
idle_send = search (sendable, crosses, note_send) depth 20
