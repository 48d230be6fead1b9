use Rattle.std.proofs.Common.{ℤ, ◌+ℤ◌, ◌∙◌, ap, arith, w64}
use Rattle.std.proofs.lemmas.Int.{to_z-of_z, wrapping_add_onto}
use Rattle.block_kernels.specs.Kernels.{wrapped}
use Rattle.block_kernels.proofs.Loops.{written_more, written_all}
use Rattle.block_kernels.proofs.Numbers.{ramp_more}
use Rattle.block_kernels.proofs.lanes.ramp.Goals as goal

pub loop-i-preserved : goal.loop-i-preserved
loop-i-preserved c =
    let value_fits = c.ranges.value in
    let step_fits = c.ranges.step in
    let now = simp to_z-of_z at c.loop-i.invariant.next in
    record {
      front = written_more _ _ _ _ _ (omega arith) (omega arith) c.loop-i.invariant.front c.loop-i.invariant.next;
      next = simp to_z-of_z
          (wrapping_add_onto w64 c.loop-i.next-bits c.args.step (omega arith) step_fits
          ∙ (ap (λ (n : ℤ). wrapped (n +ℤ c.args.step)) now ∙ ramp_more c.args.value c.args.step c.loop-i.i));
    }

pub returns : goal.returns
returns c =
    let value_fits = c.ranges.value in
    let step_fits = c.ranges.step in
    written_all _ _ _ _ (omega arith) (omega arith) (simp to_z-of_z at c.loop-i.invariant.front)
