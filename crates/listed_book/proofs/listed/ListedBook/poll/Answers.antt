-- Where the book has no notice, none stands in the list that the pass has seen.
use Rattle.std.proofs.Common.{◌≡◌, true}
use Rattle.listed_book.proofs.Insides.{insides_of}
use Rattle.listed_book.proofs.Looking.{none_stands}
use Rattle.listed_book.proofs.listed.ListedBook.poll.Goals as goal

pub returns-else-has_notice-clause-none : goal.returns-else-has_notice-clause-none
returns-else-has_notice-clause-none c =
    none_stands (insides_of c.self.inside) c.args.self.now c.look.new.self c.args.pass c.look.result c.self.invariant c.self.view_is c.look.ensures
    (λ stands. let is : c.has_notice.result ≡ true = c.has_notice.ensures.1 stands in absurd (cc (is, c.if-has_notice.false)))
