-- each source has its place, since the loop went past the last one
use Rattle.std.proofs.Common.{◌+◌, arith}
use Rattle.region_deps.proofs.LayoutLemmas.{place_from_ends}
use Rattle.region_deps.proofs.order.places.Goals as goal

pub returns-clause-place : goal.returns-clause-place
returns-clause-place c = λ source lt.
    place_from_ends c.args.links.now c.loop-source.first.items source c.requires.sorted (c.loop-source.invariant.place source (omega arith))
    (c.loop-source.invariant.place (source + 1) (omega arith))
