use Rattle.std.proofs.Common.{ap}
use Rattle.std.specs.Fmt.{decimal}
use Rattle.report_lines.proofs.Putting.{puts_both, puts_same}
use Rattle.report_lines.proofs.report.put_array.Goals as goal

pub returns : goal.returns
returns g c =
    let rank = puts_same c.put_decimal.ensures (decimal c.args.rank) (ap decimal c.from.ensures) in
    puts_both (puts_both (puts_both (puts_both rank c.put.ensures) c.put_bytes.ensures) c.put_numbers.ensures) c.put_byte.ensures
