use Rattle.std.proofs.Common.{arith, vec_items, count_by, ap, ◌∙◌}
use Rattle.match_engine.specs.Slots.{is_due}
use Rattle.match_engine.proofs.Counts.{counts_within}
use Rattle.match_engine.proofs.slots.count_due.Goals as goal

pub overflow_add-count : goal.overflow_add-count
overflow_add-count c =
    omega (
      arith,
      c.requires,
      c.loop-row.invariant,
      c.due_in-count.ensures ∙ ap (count_by (is_due c.args.side c.args.rank)) (c.deref.ensures.value ∙ ap vec_items c.row-item.is),
      counts_within (is_due c.args.side c.args.rank) vec_items c.args.rows.now c.loop-row.row-index c.row-item.result c.loop-row-test.true,
    )
