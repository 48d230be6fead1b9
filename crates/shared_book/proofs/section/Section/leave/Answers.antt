use Rattle.std.proofs.Common.{sym, ap, ◌∙◌, subst}
use Rattle.book_parts.specs.Ledger.{IsInOperation}
use Rattle.turn_table.specs.declared.hands.Door.TheVariants.{Events}
use Rattle.shared_tasks.specs.Values.{LiveIs}
use Rattle.shared_tasks.specs.Keeping.{IsAble}
use Rattle.shared_book.proofs.Moves.{step_of, step_opens_none, live_left, in_place, none_in, returned_live}
use Rattle.shared_book.proofs.Sections.{kept_step}
use Rattle.shared_book.proofs.Going.{left_able}
use Rattle.shared_book.proofs.section.Section.leave.Goals as goal

pub new-requires : goal.new-requires
new-requires g c =
    let r = c.into_parts-rec.result in
    let live : LiveIs = record { rec = r.0; pass = r.1; pause = r.2; events = r.3 } in
    let is = c.into_parts-rec.ensures.parts in
    let step = step_of g.K.Run.program g.K.Run.workers g.K.Run.passes g.H.Site.hall c.self.inside.book c.leave-pass.new.self c.args.live live
    c.leave-pass.result c.leave-pass.new.rec c.self.invariant.program_is c.self.invariant.workers_is c.self.invariant.table_is is c.into_parts-rec.ensures.keeps
    c.leave-pass.ensures in
    let inside = in_place live.rec.phase (subst (λ (l : LiveIs). IsInOperation l.rec.phase) (sym is) c.requires.within) in
    live_left g.K.Run.program g.K.Run.workers g.K.Run.passes g.H.Site.hall live c.leave-pass.result c.leave-pass.new.rec inside.0 step.keeps inside.1
    (ap (λ (l : LiveIs). l.pause.issued) is ∙ c.requires.idle) step.moves_it step.task

pub invariant_of-self : goal.invariant_of-self
invariant_of-self g c =
    let r = c.into_parts-rec.result in
    let live : LiveIs = record { rec = r.0; pass = r.1; pause = r.2; events = r.3 } in
    let is = c.into_parts-rec.ensures.parts in
    let step = step_of g.K.Run.program g.K.Run.workers g.K.Run.passes g.H.Site.hall c.self.inside.book c.leave-pass.new.self c.args.live live
    c.leave-pass.result c.leave-pass.new.rec c.self.invariant.program_is c.self.invariant.workers_is c.self.invariant.table_is is c.into_parts-rec.ensures.keeps
    c.leave-pass.ensures in
    let inside = in_place live.rec.phase (subst (λ (l : LiveIs). IsInOperation l.rec.phase) (sym is) c.requires.within) in
    kept_step g.K.Run.program g.K.Run.workers g.K.Run.passes g.H.Site.hall c.self.inside.book c.leave-pass.new.self live.pass c.leave-pass.result live.rec
    c.leave-pass.new.rec c.self.inside.tickets c.self.inside.pairs.items live.rec.task Events live.events c.self.invariant c.leave-pass.ensures
    step.keeps.task.caller step.keeps.events
    (step_opens_none g.K.Run.program g.K.Run.workers g.K.Run.passes g.H.Site.hall c.self.inside.book c.leave-pass.new.self live c.leave-pass.result
    c.leave-pass.new.rec c.self.invariant.program_is c.self.invariant.workers_is step.keeps c.leave-pass.ensures (none_in live.rec.phase inside.0 inside.1))

pub returns-clause-moves : goal.returns-clause-moves
returns-clause-moves g c =
    let r = c.into_parts-rec.result in
    let live : LiveIs = record { rec = r.0; pass = r.1; pause = r.2; events = r.3 } in
    let is = c.into_parts-rec.ensures.parts in
    let step = step_of g.K.Run.program g.K.Run.workers g.K.Run.passes g.H.Site.hall c.self.inside.book c.leave-pass.new.self c.args.live live
    c.leave-pass.result c.leave-pass.new.rec c.self.invariant.program_is c.self.invariant.workers_is c.self.invariant.table_is is c.into_parts-rec.ensures.keeps
    c.leave-pass.ensures in
    returned_live g.K.Run.program g.K.Run.workers c.args.live live c.new.result c.leave-pass.result c.leave-pass.new.rec r.2 r.3 is c.new.ensures step.moves_it

pub returns-clause-able : goal.returns-clause-able
returns-clause-able g c =
    let r = c.into_parts-rec.result in
    let live : LiveIs = record { rec = r.0; pass = r.1; pause = r.2; events = r.3 } in
    let is = c.into_parts-rec.ensures.parts in
    let step = step_of g.K.Run.program g.K.Run.workers g.K.Run.passes g.H.Site.hall c.self.inside.book c.leave-pass.new.self c.args.live live
    c.leave-pass.result c.leave-pass.new.rec c.self.invariant.program_is c.self.invariant.workers_is c.self.invariant.table_is is c.into_parts-rec.ensures.keeps
    c.leave-pass.ensures in
    let inside = in_place live.rec.phase (subst (λ (l : LiveIs). IsInOperation l.rec.phase) (sym is) c.requires.within) in
    subst (IsAble g.K.Run.program) (sym c.new.ensures)
    (left_able g.K.Run.program g.K.Run.workers live c.leave-pass.result c.leave-pass.new.rec inside.0 inside.1
    (ap (λ (l : LiveIs). l.pause.issued) is ∙ c.requires.idle) step.moves_it)
