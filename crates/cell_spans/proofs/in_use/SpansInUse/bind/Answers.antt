use Rattle.cell_spans.proofs.RequestLemmas.{status_last}
use Rattle.cell_spans.proofs.in_use.SpansInUse.bind.Goals as goal

pub returns-in_ok-add-clause-spans : goal.returns-in_ok-add-clause-spans
returns-in_ok-add-clause-spans c statuses had =
    rw c.in-Some.is (record { received = status_last c.in-Some.span statuses _ _ _ (c.in_ok-add.ensures.added _ had.received); sent = had.sent })
