use Rattle.std.proofs.Common.{◌∙◌, ◌&&◌, ap, sym, refl, [], not, false, slice_set}
use Rattle.cell_spans.specs.Requests.{is_receiving, is_sending, noted}
use Rattle.cell_spans.proofs.RequestLemmas.{named_alone, freed, noted_is, and_true, and_false}
use Rattle.cell_spans.proofs.in_use.SpansInUse.note_at.Goals as goal

pub returns-then-later-clause-requests : goal.returns-then-later-clause-requests
returns-then-later-clause-requests c =
    ap (slice_set c.args.self.now.requests.items c.args.n) (c.noted.ensures ∙ ap (noted c.args.later) c.index-request.ensures)
    ∙ sym (noted_is c.args.later c.args.n c.args.self.now.requests.items c.index-request.result.now c.requires)

pub returns-then-later-clause-spans : goal.returns-then-later-clause-spans
returns-then-later-clause-spans c statuses had = rw (c.noted.ensures, c.if-later.true) (record {
  received = named_alone is_receiving _ c.args.n c.index-request.result.now _ statuses _ _ c.requires c.index-request.ensures
      (ap (λ b. b && c.index-request.result.now.receives) (and_true c.index-request.result.now.used)) refl had.received;
  sent = named_alone is_sending _ c.args.n c.index-request.result.now _ [] _ _ c.requires c.index-request.ensures
      (ap (λ b. b && not c.index-request.result.now.receives) (and_true c.index-request.result.now.used)) refl had.sent;
})

pub returns-else-later-clause-requests : goal.returns-else-later-clause-requests
returns-else-later-clause-requests c = rw c.release.ensures.requests (
    ap (slice_set c.args.self.now.requests.items c.args.n) (c.noted-else-later.ensures ∙ ap (noted c.args.later) c.index-request.ensures)
    ∙ sym (noted_is c.args.later c.args.n c.args.self.now.requests.items c.index-request.result.now c.requires))

pub returns-else-later-clause-spans : goal.returns-else-later-clause-spans
returns-else-later-clause-spans c statuses had = rw (c.noted-else-later.ensures, c.if-later.false, c.release.ensures.requests) (record {
  received = c.release.ensures.received _ (freed is_receiving _ c.args.n c.index-request.result.now (noted false c.index-request.result.now) statuses _ _
      c.requires c.index-request.ensures
      (and_false c.index-request.result.now.used) had.received);
  sent = c.release.ensures.sent _ (freed is_sending _ c.args.n c.index-request.result.now (noted false c.index-request.result.now) [] _ _ c.requires
      c.index-request.ensures
      (and_false c.index-request.result.now.used) had.sent);
})
