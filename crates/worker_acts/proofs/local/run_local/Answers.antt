-- After its local operations the task is kept as it was, and before its next step.
use Rattle.std.proofs.Common.{◌≡◌, sym, subst}
use Rattle.task_local.specs.StandsFor.{Record}
use Rattle.task_local.specs.Standing.{def}
use Rattle.shared_tasks.specs.Values.{LiveIs}
use Rattle.shared_tasks.specs.Keeping.{IsLive, IsAble}
use Rattle.worker_acts.specs.Acts.{IsBeforeStep}
use Rattle.worker_acts.proofs.Locals.{HasRun, has_run}
use Rattle.worker_acts.proofs.local.run_local.Goals as goal

pub new-requires : goal.new-requires
new-requires g c =
    let p = g.K.Run.program in
    let parts = c.into_parts-rec.result in
    let live : LiveIs = record { rec = parts.0; pass = parts.1; pause = parts.2; events = parts.3 } in
    let keeps : IsLive p g.K.Run.workers g.K.Run.passes g.H.Site.hall live = subst (IsLive p g.K.Run.workers g.K.Run.passes g.H.Site.hall)
    (sym c.into_parts-rec.ensures.parts) c.into_parts-rec.ensures.keeps in
    let able : IsAble p live = subst (IsAble p) (sym c.into_parts-rec.ensures.parts) c.requires.able in
    (subst (HasRun p g.K.Run.workers g.K.Run.passes g.H.Site.hall live) (sym c.run_local.ensures)
    (has_run p g.K.Run.workers g.K.Run.passes g.H.Site.hall live keeps able)).keeps

pub returns-clause-before : goal.returns-clause-before
returns-clause-before g c =
    let p = g.K.Run.program in
    let parts = c.into_parts-rec.result in
    let live : LiveIs = record { rec = parts.0; pass = parts.1; pause = parts.2; events = parts.3 } in
    let keeps : IsLive p g.K.Run.workers g.K.Run.passes g.H.Site.hall live = subst (IsLive p g.K.Run.workers g.K.Run.passes g.H.Site.hall)
    (sym c.into_parts-rec.ensures.parts) c.into_parts-rec.ensures.keeps in
    let able : IsAble p live = subst (IsAble p) (sym c.into_parts-rec.ensures.parts) c.requires.able in
    let ran = subst (HasRun p g.K.Run.workers g.K.Run.passes g.H.Site.hall live) (sym c.run_local.ensures)
    (has_run p g.K.Run.workers g.K.Run.passes g.H.Site.hall live keeps able) in
    subst (λ (l : LiveIs). IsBeforeStep (def l.rec) l.rec.phase) (sym c.new.ensures) ran.before
