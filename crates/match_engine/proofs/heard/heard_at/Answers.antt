use Rattle.std.proofs.Common.{vec_items, ap, ◌∙◌}
use Rattle.match_engine.proofs.Known.{one_row_more, rows_heard}
use Rattle.match_engine.proofs.heard.heard_at.Goals as goal

pub loop-row-preserved : goal.loop-row-preserved
loop-row-preserved c =
    one_row_more vec_items c.args.rank _ _ c.args.rows.now c.loop-row.row-index c.row-item.result _ c.loop-row-test.true
    (c.deref.ensures.value ∙ ap vec_items c.row-item.is) c.loop-row.invariant c.in_ok-hear_all.ensures.heard c.in_ok-hear_all.ensures.kept

pub returns : goal.returns
returns c = rows_heard vec_items c.args.rank _ c.args.rows.now c.loop-row.row-index c.loop-row-test.false c.loop-row.invariant
