use Rattle.std.proofs.Common.{sym}
use Rattle.report_lines.specs.Lines.{number_text}
use Rattle.report_lines.proofs.Putting.{puts_both, puts_same}
use Rattle.report_lines.proofs.trace.put_words.Goals as goal
use Rattle.std.proofs.lemmas.List.Concat.{flat_map-append}

pub returns : goal.returns
returns g c =
    puts_both c.put.ensures (puts_same (puts_both c.put_numbers.ensures c.put_statuses.ensures) _ (sym (flat_map-append number_text c.args.numbers.now _)))
