-- the list of startable tasks is empty exactly where no task is open
use Rattle.std.proofs.Common.{ℕ, ◌↔◌, IsTrue, sym, ◌∙◌, eqb-true, eq-eqb, subst, arith}
use Rattle.region_deps.specs.Links.{Waiting, IsOpen}
use Rattle.region_deps.proofs.QueueLemmas.{none_open, empty_if_none}
use Rattle.region_deps.proofs.graph.Graph.none_open.Goals as goal

pub returns : goal.returns
returns c =
    let i = c.self.inside in
    subst (λ (w : Waiting). IsTrue c.is_empty.result ↔ ((task : ℕ) → ¬ IsOpen w task)) c.self.view_is (
      λ empty. none_open i.links.items i.first.items i.gone.items i.handed.items i.left.items i.startable.items _ c.self.invariant
          (omega (arith, eqb-true _ _ (sym c.is_empty.ensures ∙ empty), i.startable.ok)),
      λ none. c.is_empty.ensures ∙ eq-eqb _ _ (omega (
        arith,
        i.startable.ok,
        empty_if_none i.links.items i.first.items i.gone.items i.handed.items i.left.items i.startable.items _ c.self.invariant none,
      )),
    )
