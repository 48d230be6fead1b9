use Rattle.std.proofs.Common.{◌++◌, None, Some, ◌∙◌}
use Rattle.std.specs.Fmt.{signed_decimal}
use Rattle.trace_lines.proofs.Numbers.{whole_number, behind_is, found, passed_on}
use Rattle.trace_lines.proofs.number.take_number.Goals as goal

pub returns-in_err-number-clause-only : goal.returns-in_err-number-clause-only
returns-in_err-number-clause-only c = λ z rest fits ends e.
    let behind = behind_is c.args.bytes.now c.in_ok-behind.behind.now (signed_decimal z ++ rest) c.in_ok-behind.ensures e in
    let whole = whole_number z rest c.in_ok-behind.behind.now fits ends behind in
    absurd (found None z (c.in_err-number.ensures.only z fits (c.split_word.ensures.word ∙ whole.0)))

pub returns-clause-only : goal.returns-clause-only
returns-clause-only c = λ z rest fits ends e.
    let behind = behind_is c.args.bytes.now c.in_ok-behind.behind.now (signed_decimal z ++ rest) c.in_ok-behind.ensures e in
    let whole = whole_number z rest c.in_ok-behind.behind.now fits ends behind in
    let same = found (Some c.in_ok-number.number) z (c.in_ok-number.ensures.only z fits (c.split_word.ensures.word ∙ whole.0)) in
    (passed_on c.in_ok-number.number z fits same, c.split_word.ensures.rest ∙ whole.1)
