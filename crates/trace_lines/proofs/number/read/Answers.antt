use Rattle.trace_lines.proofs.Numbers.{is_text}
use Rattle.trace_lines.proofs.number.read.Goals as goal

pub returns-in-Err : goal.returns-in-Err
returns-in-Err c = λ z fits e. absurd (c.in-Err.ensures.cases.0 (is_text z c.args.word.now fits e))
