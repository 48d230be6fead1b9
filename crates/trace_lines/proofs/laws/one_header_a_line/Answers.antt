use Rattle.trace_lines.proofs.Once.{one_header}
use Rattle.trace_lines.proofs.laws.one_header_a_line.Goals as goal

pub returns : goal.returns
returns c = one_header
