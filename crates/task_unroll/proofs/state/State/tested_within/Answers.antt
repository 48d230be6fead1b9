use Rattle.std.proofs.Common.{◌≡◌, [], ◌∷◌, Err, sym}
use Rattle.rt_base.specs.declared.data.FaultKind.TheVariants as fault
use Rattle.rt_base.specs.InUse.{is_in_use}
use Rattle.task_unroll.specs.Checks.{check, passed, form_checks}
use Rattle.task_unroll.proofs.Testing.{passed_not}
use Rattle.task_unroll.proofs.state.State.tested_within.Goals as goal

pub returns-in-Err : goal.returns-in-Err
returns-in-Err c =
    let operation = c.args.operation.now in
    let more = check c.args.handles.kind c.args.handles.finds ∷ check fault.InUse (is_in_use c.args.self.now.accesses c.args.self.now.body operation) ∷ [] in
    let found : passed (form_checks operation) ≡ Err c.in-Err.kind = cc (c.is_formed.ensures, c.in-Err.is) in
    sym (passed_not (form_checks operation) more c.in-Err.kind found)
