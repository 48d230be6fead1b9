use Rattle.std.proofs.Common.{ap, nat_lt, count_by, arith}
use Rattle.cell_spans.proofs.CutLemmas.{rises_ascends, cells_counted}
use Rattle.cell_spans.proofs.pieces.cut_cells.Goals as goal

pub count_below-up_to-requires : goal.count_below-up_to-requires
count_below-up_to-requires c = rises_ascends _ c.requires

pub count_below-before-requires : goal.count_below-before-requires
count_below-before-requires c = rises_ascends _ c.requires

pub returns : goal.returns
returns c = omega (
  arith,
  c.count_below-up_to.ensures.count,
  c.count_below-before.ensures.count,
  ap (λ at. count_by (λ number. nat_lt number at) c.args.cuts.now) c.spot.ensures,
  ap (λ at. count_by (λ number. nat_lt number at) c.args.cuts.now) c.spot-2.ensures,
  cells_counted c.args.cuts.now c.args.rank c.args.span c.requires (omega (arith, c.if-span.false)),
)
