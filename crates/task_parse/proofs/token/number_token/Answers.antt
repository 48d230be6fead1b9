use Rattle.std.proofs.Common.{◌+◌, ◌*◌, drop, arith}
use Rattle.task_parse.proofs.Numbers.{one_more, past_range}
use Rattle.task_parse.proofs.token.number_token.Goals as goal

pub returns-then-value-ge-NUMBERS_END : goal.returns-then-value-ge-NUMBERS_END
returns-then-value-ge-NUMBERS_END c =
    let digits = c.args.digits.now in
    let i = c.loop-digit.digit-index in
    past_range digits (drop (i + 1) digits) (c.loop-digit.value * 10 + c.from.result) (grind (arith, one_more)) (omega arith)
