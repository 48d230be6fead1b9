use Rattle.std.proofs.Common.{sym, arith}
use Rattle.cell_spans.proofs.RequestLemmas.{noted_none}
use Rattle.cell_spans.proofs.in_use.SpansInUse.note.Goals as goal

pub returns-else-n-len-clause-requests : goal.returns-else-n-len-clause-requests
returns-else-n-len-clause-requests c =
    rw c.in-Nth.is (sym (noted_none c.args.later c.in-Nth.n c.args.self.now.requests.items (omega (
      arith,
      c.len.ensures,
      c.args.self.now.requests.ok.0,
      c.if-n-len.false,
    ))))
