-- the point at which the bounds reach the place
use Rattle.std.proofs.Common.{ltb, sym, arith, rules}
use Rattle.std.proofs.lemmas.List.Sums.{prefix_len_is}
use Rattle.std.proofs.lemmas.List.Sorted.{IsPartitionPoint-from_clause, IsPartitionedBy-ltb, IsNonDecreasingBy-from_default}
use Rattle.region_deps.proofs.bounds.position.Goals as goal

pub returns-clause-position : goal.returns-clause-position
returns-clause-position c =
    let parted = IsPartitionedBy-ltb (λ b. b) _ c.args.place (IsNonDecreasingBy-from_default (λ b. b) c.args.bounds.now 0 c.requires) in
    let point = IsPartitionPoint-from_clause (λ b. ltb b c.args.place) _ _ c.partition_point.ensures.partitioned parted (λ a r q k. search rules) in
    sym (prefix_len_is (λ b. ltb b c.args.place) c.args.bounds.now c.partition_point.result 0 c.partition_point.ensures.bound
    (λ k lt. point.0 k 0 (omega arith) lt)
    (λ within. point.1 c.partition_point.result 0 (omega arith) within))
