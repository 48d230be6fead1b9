-- The number of the last request is one less than how many were posted.
use Rattle.book_counts.proofs.Numbers.{number_before}
use Rattle.book_counts.proofs.posted.Posted.last.Goals as goal

pub returns : goal.returns
returns c = number_before c.self.inside.numbers.items c.args.task.0 c.index.result.now c.args.self.now c.self.view_is c.requires c.index.ensures
