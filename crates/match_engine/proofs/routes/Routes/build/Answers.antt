use Rattle.std.proofs.Common.{◌<◌, ◌^◌, ◌++◌, ◌∷◌, [], vec_items, length, List, sum_by, ℕ, ap, ◌∙◌, arith}
use Rattle.std.proofs.lemmas.List.{length-map}
use Rattle.match_engine.specs.declared.slots.Slot.{Slot}
use Rattle.match_engine.specs.Routes.{row_of, way_by, ways_of}
use Rattle.match_engine.proofs.Counts.{made_of_rows, sum_by-map}
use Rattle.match_engine.proofs.Cuts.{one_row_more, length_below}
use Rattle.match_engine.proofs.routes.Routes.build.Goals as goal

pub loop-row-preserved : goal.loop-row-preserved
loop-row-preserved c =
    let rows = c.rows-rows.result.now in
    let ways = c.loop-row.ways.items in
    let few : length ways < 2 ^ 32 =
    length_below (λ row. row_of c.args.keys.now (vec_items row)) (λ row. length (vec_items row)) rows c.loop-row.row-index ways c.loop-row.firsts.items (2 ^ 32)
    c.loop-row.invariant
    (omega (arith, c.requires, sum_by-map length vec_items rows, ap (λ (all : List (List Slot)). sum_by length all) c.rows-rows.ensures)) in
    one_row_more (λ row. row_of c.args.keys.now (vec_items row)) (λ row. length (vec_items row)) rows c.loop-row.row-index c.row-item.result
    _ _ _ _ c.loop-row-test.true c.row-item.is (length-map c.row-item.result.items (λ (slot : Slot). way_by c.args.keys.now slot.call)) c.loop-row.invariant
    (c.in_ok-push.ensures.items ∙ ap (λ (n : ℕ). c.loop-row.firsts.items ++ n ∷ []) (omega (arith, few, c.len.ensures, c.loop-row.ways.ok.0)))
    (c.in_ok-push_row.ensures ∙ ap (λ row. ways ++ row_of c.args.keys.now row) c.deref.ensures.value)

pub returns : goal.returns
returns c =
    made_of_rows (row_of c.args.keys.now) vec_items c.rows-rows.result.now c.loop-row.row-index _ c.loop-row-test.false c.loop-row.invariant.parts
    ∙ ap (ways_of c.args.keys.now) c.rows-rows.ensures
