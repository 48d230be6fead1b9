use Rattle.match_engine.proofs.Known.{none_heard, one_slot_more, row_heard}
use Rattle.match_engine.proofs.heard.hear_all.Goals as goal

pub loop-slot-init : goal.loop-slot-init
loop-slot-init c = none_heard c.args.rank c.args.keys.now c.args.row.now

pub loop-slot-preserved : goal.loop-slot-preserved
loop-slot-preserved c =
    one_slot_more c.args.rank _ _ _ c.args.row.now c.loop-slot.slot-index _ c.loop-slot-test.true c.loop-slot.invariant
    c.in_ok-hear.ensures.heard c.in_ok-hear.ensures.kept

pub returns-clause-heard : goal.returns-clause-heard
returns-clause-heard c = row_heard c.args.rank _ c.args.row.now c.loop-slot.slot-index c.loop-slot-test.false c.loop-slot.invariant.0
