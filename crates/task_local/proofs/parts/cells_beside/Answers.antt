use Rattle.std.proofs.Common.{◌+◌, ◌-◌, ◌≤◌, length, ⊎_elim, true≢false, sym, refl}
use Rattle.task_local.proofs.Beside.{seen_in_back}
use Rattle.task_local.proofs.Copies.{part_is}
use Rattle.task_local.proofs.parts.cells_beside.Goals as goal

pub returns : goal.returns
returns c =
    let part = c.args.part in
    let behind : c.args.begins ≤ part.at =
    ⊎_elim (λ (inside : part.at + part.count ≤ length c.args.front.now). absurd (true≢false (sym (c.if-ends_by.ensures.1 inside))))
    (λ back. back.0) c.requires.fits in
    seen_in_back c.args.front.now c.args.back.now c.args.begins part.at part.count _ behind
    (part_is (part.at - c.args.begins) part.count (part.at - c.args.begins) c.args.back.now _ refl refl)
