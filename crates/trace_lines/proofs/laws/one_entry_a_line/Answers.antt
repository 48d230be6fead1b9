use Rattle.trace_lines.proofs.Once.{one_entry}
use Rattle.trace_lines.proofs.laws.one_entry_a_line.Goals as goal

pub returns : goal.returns
returns c = one_entry
