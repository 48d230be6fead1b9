use Rattle.trace_lines.proofs.Numbers.{whole_fits, passed_on, passed_on32}
use Rattle.trace_lines.proofs.number.take_whole.Goals as goal

pub returns-in_err-number-clause-only : goal.returns-in_err-number-clause-only
returns-in_err-number-clause-only c = λ z rest small ends e. absurd (c.in_err-number.ensures.only z rest (whole_fits z small) ends e)

pub returns-in_err-whole-clause-only : goal.returns-in_err-whole-clause-only
returns-in_err-whole-clause-only c = λ z rest small ends e.
    let fits = whole_fits z small in let read = c.in_ok-number.ensures.only z rest fits ends e in
    absurd (c.in_err-whole.ensures.only z small (passed_on c.in_ok-number.number z fits read.0))

pub returns-clause-only : goal.returns-clause-only
returns-clause-only c = λ z rest small ends e.
    let fits = whole_fits z small in let read = c.in_ok-number.ensures.only z rest fits ends e in
    (passed_on32 c.in_ok-whole.whole z small (c.in_ok-whole.ensures.only z small (passed_on c.in_ok-number.number z fits read.0)), read.1)
