-- The first passes are those of the tasks.
use Rattle.std.proofs.Common.{◌+◌, length, ap, arith}
use Rattle.pass_table.proofs.FirstPasses.{each_has_its_pass}
use Rattle.listed_book.proofs.build.deal.Goals as goal

pub split_off-requires : goal.split_off-requires
split_off-requires c =
    let all = (each_has_its_pass c.in_ok-table.table (c.args.tasks + c.from.result)).0 in
    omega (arith, c.in_ok-table.passes.ok.0, ap length c.in_ok-table.ensures.passes, all)
