use Rattle.std.proofs.Common.{◌≡◌, length, ap, ◌∙◌, arith, length-drop}
use Rattle.task_parse.proofs.LineLemmas.{last_line_is}
use Rattle.task_parse.proofs.text.first_line.Goals as goal

pub returns-else-len-text-clause-lines : goal.returns-else-len-text-clause-lines
returns-else-len-text-clause-lines c =
    let text = c.args.text.now in
    let nothing : length c.behind-else-len-text.result.now ≡ 0 = ap length c.behind-else-len-text.ensures ∙ length-drop (length text) text ∙ omega arith in
    last_line_is text c.behind-else-len-text.result.now c.line_len-len.result c.line_len-len.ensures.len c.if-len-text.false c.requires nothing
