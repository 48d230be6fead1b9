-- the links of the source are those between its two places
use Rattle.std.proofs.Common.{◌<◌, length, false, subst, sym, ◌∙◌, vec_capacity}
use Rattle.std.proofs.lemmas.List.{get_or_read}
use Rattle.region_deps.proofs.QueueLemmas.{enough_read, after_read}
use Rattle.region_deps.proofs.graph.Graph.let_go.Goals as goal

pub count_down-requires-clause-enough : goal.count_down-requires-clause-enough
count_down-requires-clause-enough c =
    let i = c.self.inside in
    let within = subst (λ w. c.args.source < length w.gone) (sym c.self.view_is) c.requires.known in
    let there = sym (get_or_read i.gone.items c.args.source c.index.result.now within c.index.ensures false) ∙ c.if-index.false in
    enough_read i.links.items _ i.first.items i.gone.items i.handed.items i.left.items i.startable.items
    (vec_capacity i.startable) c.args.source _ _ c.self.invariant within there
    c.deref.ensures.value c.index-from.ensures c.index-to.ensures

pub invariant_of-self : goal.invariant_of-self
invariant_of-self c =
    let i = c.self.inside in
    let within = subst (λ w. c.args.source < length w.gone) (sym c.self.view_is) c.requires.known in
    let there = sym (get_or_read i.gone.items c.args.source c.index.result.now within c.index.ensures false) ∙ c.if-index.false in
    after_read i.links.items _ i.first.items i.gone.items i.handed.items i.left.items i.startable.items c.count_down.new.left.items
    c.count_down.new.startable.items
    (vec_capacity i.startable) (vec_capacity c.count_down.new.startable) c.args.source _ _ c.self.invariant within there
    c.count_down.ensures.long c.deref.ensures.value c.index-from.ensures c.index-to.ensures c.count_down.ensures.left c.count_down.ensures.queued
    c.count_down.ensures.room
