-- the point at which the sources reach this one
use Rattle.std.proofs.Common.{ltb, arith, rules}
use Rattle.std.proofs.lemmas.Bool.{ltb-true, ltb-false}
use Rattle.std.proofs.lemmas.List.Sorted.{IsPartitionPoint-from_clause, IsPartitionedBy-ltb}
use Rattle.region_deps.proofs.order.place.Goals as goal

pub returns : goal.returns
returns c =
    let parted = IsPartitionedBy-ltb (λ l. l.source) _ c.args.source c.requires.sorted in
    let point = IsPartitionPoint-from_clause (λ l. ltb l.source c.args.source) _ _ c.partition_point.ensures.partitioned parted (λ a r q k. search rules) in
    record {
      within = c.partition_point.ensures.bound;
      below = λ k d lt. ltb-true _ _ (point.0 k d (omega arith) lt);
      above = λ k d le lt. ltb-false _ _ (point.1 k d le lt);
    }
