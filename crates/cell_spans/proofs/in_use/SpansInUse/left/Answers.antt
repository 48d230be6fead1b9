use Rattle.std.proofs.Common.{◌∙◌, ap, sym, refl, slice_get}
use Rattle.cell_spans.specs.Requests.{unnamed}
use Rattle.cell_spans.proofs.RequestLemmas.{left_is, count_is}
use Rattle.cell_spans.proofs.in_use.SpansInUse.left.Goals as goal

pub returns-clause-first : goal.returns-clause-first
returns-clause-first c earlier holds =
    c.first_unnamed.ensures.first ∙ ap (λ requests. slice_get (unnamed 0 requests) 0) (c.deref.ensures.value ∙ holds.requests)
    ∙ ap (λ numbers. slice_get numbers 0) (sym (left_is 0 0 earlier refl))

pub returns-clause-posted : goal.returns-clause-posted
returns-clause-posted c earlier holds = rw (← (count_is 0 earlier), ← holds.requests, ← c.deref.ensures.value) c.first_unnamed.ensures.posted
