-- what was laid out for the links in order is a graph, and the order changes nothing of what is linked
use Rattle.std.proofs.Common.{◌<◌, sym, subst}
use Rattle.std.specs.List.{All}
use Rattle.std.proofs.lemmas.List.Sorted.{All-permutation, Contains-permutation, IsPermutation-sym}
use Rattle.region_deps.specs.declared.graph.Link.{Link}
use Rattle.region_deps.specs.Links.{IsWithin}
use Rattle.region_deps.proofs.LayoutLemmas.{built_read}
use Rattle.region_deps.proofs.graph.Graph.build.Goals as goal

pub counts-requires : goal.counts-requires
counts-requires c =
    let ends = All-permutation (IsWithin c.args.sources c.args.tasks) _ _ c.arrange.ensures.same c.requires.ends in
    subst (All (λ (l : Link). l.task < c.args.tasks)) (sym c.deref-2.ensures.value) (λ k d lt. (ends k d lt).task)

pub invariant_of-result : goal.invariant_of-result
invariant_of-result c =
    built_read c.arrange.new.links.items _ _ c.in_ok-first.first.items c.in_ok-left.left.items _ c.in_ok-startable.startable.items c.args.sources
    c.args.tasks _ c.in_ok-none_yet.field-0.items c.in_ok-none_yet-2.field-0.items
    c.deref.ensures.value c.deref-2.ensures.value c.deref-3.ensures.value
    c.in_ok-none_yet.ensures c.in_ok-none_yet-2.ensures c.requires.tasks
    (All-permutation (IsWithin c.args.sources c.args.tasks) _ _ c.arrange.ensures.same c.requires.ends)
    c.in_ok-first.ensures.length c.in_ok-first.ensures.place c.in_ok-left.ensures.length c.in_ok-left.ensures.counted c.in_ok-startable.ensures.queued
    c.in_ok-startable.ensures.room

pub returns-clause-links : goal.returns-clause-links
returns-clause-links c = λ l. (Contains-permutation _ _ l (IsPermutation-sym _ _ c.arrange.ensures.same), Contains-permutation _ _ l c.arrange.ensures.same)
