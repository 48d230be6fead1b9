-- The end of a book with its list.
use Rattle.std.proofs.Common.{subst}
use mathlib.Core.List.{IsPrefix}
use Rattle.shared_lists.specs.Deeds.{moves}
use Rattle.listed_book.specs.Listed.{BookIs}
use Rattle.listed_book.proofs.Insides.{insides_of}
use Rattle.listed_book.proofs.Finishing.{moves_front, quiet_end}
use Rattle.listed_book.proofs.listed.ListedBook.finish.Goals as goal

pub returns-clause-begins : goal.returns-clause-begins
returns-clause-begins c =
    subst (λ (b : BookIs). IsPrefix (moves c.args.note.seen) (moves b.seen)) c.self.view_is
    (moves_front c.args.note.seen c.self.inside.pen.seen c.settle.ensures.before)

pub returns-clause-quiet : goal.returns-clause-quiet
returns-clause-quiet c =
    quiet_end (insides_of c.self.inside) c.args.self c.args.note.seen c.into_end.result.history.entries.items c.self.invariant c.self.view_is
    c.settle.ensures.before c.into_end.ensures.history
