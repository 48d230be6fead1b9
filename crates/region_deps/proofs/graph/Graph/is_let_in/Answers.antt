-- the count is 0 exactly where no link holds the task
use Rattle.std.proofs.Common.{◌<◌, ◌==◌, ◌↔◌, IsTrue, length, subst, sym}
use Rattle.region_deps.specs.Links.{IsLetIn, is_gone}
use Rattle.region_deps.proofs.QueueLemmas.{let_in_read}
use Rattle.region_deps.proofs.graph.Graph.is_let_in.Goals as goal

pub returns : goal.returns
returns c =
    let i = c.self.inside in
    let known = subst (λ w. c.args.task < length w.handed) (sym c.self.view_is) c.requires.known in
    subst (λ w. IsTrue (c.index.result.now == 0) ↔ IsLetIn w.links (is_gone w.gone) c.args.task) c.self.view_is
    (let_in_read i.links.items i.first.items i.gone.items i.handed.items i.left.items i.startable.items _ c.args.task c.index.result.now c.self.invariant
    known c.index.ensures)
