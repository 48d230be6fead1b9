use Rattle.std.proofs.Common.{◌≡◌, ap, ◌∙◌, subst}
use Rattle.rt_base.specs.declared.data.Phase.TheVariants as phase
use Rattle.turn_table.specs.declared.hands.Door.TheVariants.{Events}
use Rattle.shared_tasks.specs.Values.{LiveIs}
use Rattle.shared_book.specs.Answers.{MovesOn}
use Rattle.shared_book.proofs.Moves.{step_of, step_opens_none, none_returned}
use Rattle.shared_book.proofs.Sections.{kept_step}
use Rattle.shared_book.proofs.section.Section.release.Goals as goal

pub invariant_of-self : goal.invariant_of-self
invariant_of-self g c =
    let r = c.into_parts-rec.result in
    let live : LiveIs = record { rec = r.0; pass = r.1; pause = r.2; events = r.3 } in
    let is = c.into_parts-rec.ensures.parts in
    let step = step_of g.K.Run.program g.K.Run.workers g.K.Run.passes g.H.Site.hall c.self.inside.book c.release.new.self c.args.live live
    c.release.result c.release.new.rec c.self.invariant.program_is c.self.invariant.workers_is c.self.invariant.table_is is c.into_parts-rec.ensures.keeps
    c.release.ensures in
    let ended : live.rec.phase ≡ phase.Returned = ap (λ (l : LiveIs). l.rec.phase) is ∙ c.requires.returned in
    kept_step g.K.Run.program g.K.Run.workers g.K.Run.passes g.H.Site.hall c.self.inside.book c.release.new.self live.pass c.release.result live.rec
    c.release.new.rec c.self.inside.tickets c.self.inside.pairs.items live.rec.task Events live.events c.self.invariant c.release.ensures
    step.keeps.task.caller step.keeps.events
    (step_opens_none g.K.Run.program g.K.Run.workers g.K.Run.passes g.H.Site.hall c.self.inside.book c.release.new.self live c.release.result
    c.release.new.rec c.self.invariant.program_is c.self.invariant.workers_is step.keeps c.release.ensures (none_returned live.rec.phase ended))

pub returns : goal.returns
returns g c =
    let r = c.into_parts-rec.result in
    let live : LiveIs = record { rec = r.0; pass = r.1; pause = r.2; events = r.3 } in
    let is = c.into_parts-rec.ensures.parts in
    let step = step_of g.K.Run.program g.K.Run.workers g.K.Run.passes g.H.Site.hall c.self.inside.book c.release.new.self c.args.live live
    c.release.result c.release.new.rec c.self.invariant.program_is c.self.invariant.workers_is c.self.invariant.table_is is c.into_parts-rec.ensures.keeps
    c.release.ensures in
    (c.release.new.rec, subst (λ (l : LiveIs). MovesOn g.K.Run.program g.K.Run.workers l.pass c.release.result l.rec c.release.new.rec) is step.moves_it)
