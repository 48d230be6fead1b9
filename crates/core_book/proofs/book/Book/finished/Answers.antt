-- All tasks are released exactly where none is counted that is not.
use Rattle.std.proofs.Common.{sym, ◌∙◌, eqb-true, eq-eqb}
use Rattle.core_book.proofs.Insides.{parts_of}
use Rattle.book_parts.proofs.Questions.{finished_answer}
use Rattle.book_counts.proofs.CountLemmas.{all_gone, none_unreleased}
use Rattle.core_book.proofs.book.Book.finished.Goals as goal

pub returns : goal.returns
returns c =
    let b = c.self.inside in
    let counts = c.self.invariant.counted.unreleased_is in
    finished_answer (parts_of b) _ c.args.self.now c.self.invariant.kept c.self.view_is (
      λ yes. all_gone b.phases.items (sym counts ∙ eqb-true b.unreleased 0 yes),
      λ all. eq-eqb b.unreleased 0 (counts ∙ none_unreleased b.phases.items all),
    )
