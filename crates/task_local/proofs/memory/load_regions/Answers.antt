use Rattle.std.proofs.Common.{◌≡◌, ◌+◌, ◌-◌, length, drop, ◌∙◌, sym, length-take-le, length-drop, arith}
use Rattle.task_local.proofs.Copies.{load_more, length-put_mid, part_is, left_after}
use Rattle.task_local.proofs.memory.load_regions.Goals as goal

pub address_of-from-requires : goal.address_of-from-requires
address_of-from-requires c = record { lies = c.requires.inside _ _ c.loop-region-test.true }

pub loop-region-preserved : goal.loop-region-preserved
loop-region-preserved c =
    let at = c.loop-region.at in
    let count = c.len-count.result in
    let after = left_after c.args.ordered.now at c.loop-region.region-index count
    (length c.loop-region.copy) _ c.loop-region-test.true c.len-count.ensures c.loop-region.invariant.left in
    let len : length c.copy_from_slice.new.self ≡ (at + count) - at =
    c.copy_from_slice.ensures.len ∙ length-take-le ((at + count) - at) (drop at c.loop-region.copy) (omega (arith, length-drop at c.loop-region.copy)) in
    record {
      value = load_more c.args.prog.now c.args.rank c.args.ordered.now c.args.memory.now c.loop-region.copy c.copy_from_slice.new.self _
          at c.loop-region.region-index count _ _ c.loop-region-test.true (omega arith) (omega arith) c.len-count.ensures
          (part_is c.address_of-from.result count _ c.args.memory.now c.copy_from_slice.new.self c.copy_from_slice.ensures.after c.address_of-from.ensures)
          c.loop-region.invariant.value;
      left = after ∙ sym (length-put_mid at ((at + count) - at) c.loop-region.copy c.copy_from_slice.new.self len (omega arith));
    }
