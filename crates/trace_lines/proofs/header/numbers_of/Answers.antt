use Rattle.std.proofs.Common.{pos, [], ◌∷◌, refl}
use Rattle.report_lines.specs.Lines.{numbers_text}
use Rattle.trace_lines.proofs.header.numbers_of.Goals as goal

pub returns-in_err-version-clause-only : goal.returns-in_err-version-clause-only
returns-in_err-version-clause-only c = λ header fits e.
    absurd (c.in_err-version.ensures.only header.version (numbers_text (pos header.ranks ∷ pos header.workers ∷ pos header.eager ∷ [])) fits.0 refl e)
