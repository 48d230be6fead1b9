use Rattle.std.proofs.Common.{rules, ◌≡◌, ◌++◌, ◌∷◌, [], List, ◌+◌, Ok, sym, subst, arith, w64, ℤ}
use Rattle.std.specs.Int.RustNames.{FitsSigned}
use Rattle.std.proofs.lemmas.Int.{to_z-of_z}
use Rattle.task_names.specs.Values.{value}
use Rattle.task_unroll.specs.Unrolling.{at}
use Rattle.task_unroll.specs.States.{scene}
use Rattle.task_unroll.specs.Operands.{values_of}
use Rattle.task_unroll.proofs.Gathering.{IsGathered, next_gathered}
use Rattle.task_unroll.proofs.state.State.values_of.Goals as goal

pub loop-e-preserved : goal.loop-e-preserved
loop-e-preserved c =
    let x = c.in_ok-value.field-0 in
    let s = c.args.self.now in
    let fits : FitsSigned w64 x = search rules in
    let items = simp to_z-of_z at c.in_ok-push.ensures.items in
    let gives : at c.args.line (value (scene s) c.e-item.result) ≡ Ok x = search rules in
    let below = c.loop-e-test.true in
    let is = c.e-item.is in
    subst (λ (done : List ℤ). IsGathered (value (scene s)) c.args.es.now (c.loop-e.e-index + 1) done (values_of s c.args.es.now)) (sym items)
    (next_gathered (value (scene s)) c.args.es.now c.loop-e.e-index c.loop-e.values.items (values_of s c.args.es.now) c.args.line c.e-item.result x
    c.loop-e.invariant below is gives)
