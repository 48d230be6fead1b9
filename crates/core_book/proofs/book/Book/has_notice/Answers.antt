-- A notice stands exactly where the book has one.
use Rattle.core_book.proofs.Insides.{parts_of}
use Rattle.book_parts.proofs.Polled.{notice_answer}
use Rattle.core_book.proofs.book.Book.has_notice.Goals as goal

pub returns : goal.returns
returns c = notice_answer (parts_of c.self.inside) _ _ c.args.self.now c.self.invariant.kept c.self.view_is c.self.inside.notices.ok.0 c.is_empty.ensures
