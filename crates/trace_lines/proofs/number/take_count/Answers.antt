use Rattle.std.proofs.Common.{pos}
use Rattle.trace_lines.proofs.Numbers.{count_fits32, passed_on}
use Rattle.trace_lines.proofs.number.take_count.Goals as goal

pub returns-in_err-number-clause-only : goal.returns-in_err-number-clause-only
returns-in_err-number-clause-only c = λ n rest small ends e. absurd (c.in_err-number.ensures.only (pos n) rest (count_fits32 n small) ends e)

pub returns-in_err-count-clause-only : goal.returns-in_err-count-clause-only
returns-in_err-count-clause-only c = λ n rest small ends e.
    let fits = count_fits32 n small in let read = c.in_ok-number.ensures.only (pos n) rest fits ends e in
    absurd (c.in_err-count.ensures.only n small (passed_on c.in_ok-number.number (pos n) fits read.0))

pub returns-clause-only : goal.returns-clause-only
returns-clause-only c = λ n rest small ends e.
    let fits = count_fits32 n small in let read = c.in_ok-number.ensures.only (pos n) rest fits ends e in
    (c.in_ok-count.ensures.only n small (passed_on c.in_ok-number.number (pos n) fits read.0), read.1)
