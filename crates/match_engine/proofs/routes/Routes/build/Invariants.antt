use Rattle.std.proofs.Common.{take, length, vec_items}
use Rattle.match_engine.specs.Routes.{row_of}
use Rattle.match_engine.proofs.Cuts.{AreCut}
use Rattle.match_engine.proofs.routes.Routes.build.Given as goal

-- the rows so far, end to end
abbrev pub invariant-loop-row : goal.invariant-loop-row
invariant-loop-row l = AreCut (λ row. row_of l.keys (vec_items row)) (λ row. length (vec_items row)) (take l.row-index l.rows) l.ways.items l.firsts.items
