use Rattle.std.proofs.Common.{sym, ap}
use Rattle.report_lines.specs.Report.{place_text}
use Rattle.report_lines.proofs.Putting.{puts_both, puts_same}
use Rattle.report_lines.proofs.report.put_place.Goals as goal

pub returns-in-At : goal.returns-in-At
returns-in-At g c = puts_same (puts_both c.put-in-At.ensures c.put_decimal.ensures) _ (ap place_text (sym c.in-At.is))

pub returns-in-In : goal.returns-in-In
returns-in-In g c = puts_same (puts_both c.put-in-In.ensures c.put_decimal-in-In.ensures) _ (ap place_text (sym c.in-In.is))
