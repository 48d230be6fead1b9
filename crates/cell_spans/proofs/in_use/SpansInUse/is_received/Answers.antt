use Rattle.std.proofs.Common.{◌∙◌, ◌++◌, ap, sym}
use Rattle.rt_base.specs.Touched.{shares, shares_any}
use Rattle.rt_base.specs.InUse.{bound_statuses}
use Rattle.cell_spans.specs.Requests.{spans_of, is_receiving}
use Rattle.cell_spans.proofs.RequestLemmas.{received_is, any_either_way}
use Rattle.cell_spans.proofs.in_use.SpansInUse.is_received.Goals as goal

pub returns : goal.returns
returns c earlier holds =
    c.meets.ensures _ holds.spans.received
    ∙ any_either_way (shares c.args.span) (bound_statuses earlier) (spans_of is_receiving c.args.self.now.requests.items)
    ∙ ap (λ spans. shares_any (spans ++ bound_statuses earlier) c.args.span) (ap (spans_of is_receiving) holds.requests ∙ sym (received_is 0 earlier))
