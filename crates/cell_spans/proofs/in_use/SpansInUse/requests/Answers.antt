use Rattle.std.proofs.Common.{ap, length, arith}
use Rattle.cell_spans.proofs.RequestLemmas.{count_is}
use Rattle.cell_spans.proofs.in_use.SpansInUse.requests.Goals as goal

pub returns : goal.returns
returns c earlier holds = omega (arith, c.len.ensures, c.args.self.now.requests.ok.0, ap length holds.requests, count_is 0 earlier)
