-- one more segment is touched, and at the end all of the region's are
use Rattle.std.proofs.Common.{◌<◌, length, arith}
use Rattle.region_deps.proofs.LinkLemmas.{touched_more, touched_upto}
use Rattle.region_deps.proofs.segments.touch_all.Goals as goal

pub loop-at-preserved : goal.loop-at-preserved
loop-at-preserved c =
    let a = c.args in
    let within : c.loop-at.at < length c.loop-at.segments.items = omega (arith, c.loop-at.invariant.touched.long, c.requires) in
    record {
      touched = touched_more a.segments.now.items c.loop-at.segments.items a.region.now.from c.loop-at.at a.number a.region.now.task a.region.now.writes
          a.links.now.items c.loop-at.links.items c.touch.new.links.items
          c.index_mut.result.now c.touch.new.self c.loop-at.invariant.touched c.loop-at.auto.at within c.index_mut.ensures.value
          c.in_ok-touch.ensures.segment c.in_ok-touch.ensures.links;
      upto = λ past. absurd (omega (arith, past, c.loop-at-test.true));
    }

pub returns : goal.returns
returns c =
    let a = c.args in
    touched_upto a.segments.now.items c.loop-at.segments.items a.region.now.from c.loop-at.at a.region.now.to a.number a.region.now.task a.region.now.writes
    a.links.now.items c.loop-at.links.items
    c.loop-at-test.false c.loop-at.invariant.upto c.loop-at.invariant.touched
