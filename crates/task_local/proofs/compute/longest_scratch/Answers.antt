use Rattle.std.proofs.Common.{List, subst, arith}
use Rattle.std.proofs.lemmas.List.{take_all}
use Rattle.rt_base.specs.declared.data.Op.{Op}
use Rattle.task_local.specs.Kept.{IsScratchOf}
use Rattle.task_local.proofs.Beside.{scratch_more}
use Rattle.task_local.proofs.compute.longest_scratch.Goals as goal

pub loop-op-preserved : goal.loop-op-preserved
loop-op-preserved c =
    scratch_more c.args.index.now c.args.body.now c.loop-op.op-index c.loop-op.longest c.scratch_len.result c.max-longest.result _ (omega arith) c.op-item.is
    (omega (arith, c.max-longest.ensures)) (omega (arith, c.max-longest.ensures)) (λ other le here_le. omega (arith, c.max-longest.ensures))
    c.loop-op.invariant c.scratch_len.ensures

pub returns : goal.returns
returns c = subst (λ (ops : List Op). IsScratchOf c.args.index.now ops c.loop-op.longest)
    (take_all c.loop-op.op-index c.args.body.now (omega arith)) c.loop-op.invariant
