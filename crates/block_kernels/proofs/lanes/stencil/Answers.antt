use Rattle.std.proofs.Common.{ℤ, ap, ◌∙◌, rules, w64}
use Rattle.std.specs.Int.{int_shr}
use Rattle.std.proofs.lemmas.Int.{to_z-of_z}
use Rattle.block_kernels.proofs.Numbers.{stencil_sum}
use Rattle.block_kernels.proofs.lanes.stencil.Goals as goal

pub returns : goal.returns
returns c =
    to_z-of_z w64 _ (search rules)
    ∙ ap (λ (n : ℤ). int_shr n 2)
    (stencil_sum c.args.before c.args.here c.args.after c.ranges.before c.ranges.here c.ranges.after)
