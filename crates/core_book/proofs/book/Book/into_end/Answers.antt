use Rattle.std.proofs.Common.{◌∙◌}
use Rattle.core_book.proofs.book.Book.into_end.Goals as goal

pub returns-clause-legal : goal.returns-clause-legal
returns-clause-legal c = rw (← c.self.view_is) c.self.invariant.kept.legal

pub returns-clause-cells : goal.returns-clause-cells
returns-clause-cells c = rw (← c.self.view_is) (c.from_vec-3.ensures.items ∙ c.self.invariant.kept.memory_is)

pub returns-clause-phases : goal.returns-clause-phases
returns-clause-phases c = rw (← c.self.view_is) (c.from_vec-4.ensures.items ∙ c.self.invariant.kept.phases_are)
