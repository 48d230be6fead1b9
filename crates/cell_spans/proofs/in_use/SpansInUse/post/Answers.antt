use Rattle.std.proofs.Common.{◌≡◌, ◌∙◌, ap, sym, subst, [], ◌∷◌, ◌++◌}
use Rattle.cell_spans.specs.Marks.{AreMarks}
use Rattle.cell_spans.specs.Requests.{is_receiving, is_sending, spans_of}
use Rattle.cell_spans.proofs.RequestLemmas.{pushed}
use Rattle.cell_spans.proofs.in_use.SpansInUse.post.Goals as goal

-- the requests with the new one
now_are : (c : goal.In-Ok) → c.push.new.self.items ≡ c.args.self.now.requests.items ++ c.args.request ∷ []
now_are c = c.in-Ok.ensures.items ∙ ap (λ (requests : _). requests.items ++ c.args.request ∷ []) c.in_ok-hold.ensures.requests
    ∙ ap (λ requests. requests ++ c.args.request ∷ []) c.in_ok-try_reserve.ensures.items

pub returns-clause-spans : goal.returns-clause-spans
returns-clause-spans c statuses had = record {
  received = subst (λ requests. AreMarks c.hold.new.self.received.begins c.hold.new.self.received.ends (statuses ++ spans_of is_receiving requests))
      (sym (now_are c))
      (pushed is_receiving c.args.self.now.requests.items c.args.request statuses _ _ (c.in_ok-hold.ensures.received _ had.received));
  sent = subst (λ requests. AreMarks c.hold.new.self.sent.begins c.hold.new.self.sent.ends (spans_of is_sending requests)) (sym (now_are c))
      (pushed is_sending c.args.self.now.requests.items c.args.request [] _ _ (c.in_ok-hold.ensures.sent _ had.sent));
}
