-- each place where a region begins was kept
use Rattle.region_deps.proofs.BoundLemmas.{rises_from_strict, begins_at}
use Rattle.region_deps.proofs.bounds.bounds.Goals as goal

pub returns : goal.returns
returns c = record {
  rises = rises_from_strict _ c.each_once.ensures.rises;
  begins = λ k d lt. c.each_once.ensures.keeps _ (begins_at c.args.regions.now _ c.in_ok-bounds.ensures k d lt);
}
