use Rattle.std.proofs.Common.{◌∙◌, ap, sym}
use Rattle.rt_base.specs.Touched.{shares_any}
use Rattle.cell_spans.specs.Requests.{spans_of, is_sending}
use Rattle.cell_spans.proofs.RequestLemmas.{sent_is}
use Rattle.cell_spans.proofs.in_use.SpansInUse.is_sent.Goals as goal

pub returns : goal.returns
returns c earlier holds =
    c.meets.ensures _ holds.spans.sent ∙ ap (λ spans. shares_any spans c.args.span) (ap (spans_of is_sending) holds.requests ∙ sym (sent_is 0 earlier))
