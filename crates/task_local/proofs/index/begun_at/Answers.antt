use Rattle.std.proofs.Common.{◌+◌, ◌*◌, ◌^◌, leb, leb-true, leb-false, arith, rules}
use Rattle.std.proofs.lemmas.List.Sorted.{IsPartitionPoint-from_clause, IsPartitionedBy-leb}
use Rattle.task_local.specs.Kept.{first_cell}
use Rattle.task_local.proofs.index.begun_at.Goals as goal

pub returns : goal.returns
returns c =
    let number = c.args.array * 2 ^ 32 + c.args.cell in
    let parted = IsPartitionedBy-leb first_cell _ number c.requires in
    let point = IsPartitionPoint-from_clause (λ access. leb (first_cell access) number) _ _ c.partition_point.ensures.partitioned parted
    (λ a r q k. search rules) in
    record {
      within = omega arith;
      begun = λ k d lt. leb-true _ _ (point.0 k d (omega arith) lt);
      later = λ k d ge lt. leb-false _ _ (point.1 k d ge lt);
    }
