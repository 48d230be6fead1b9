use Rattle.std.proofs.Common.{sym, ap, ◌∙◌, subst}
use Rattle.turn_table.specs.declared.hands.Door.TheVariants.{Events}
use Rattle.shared_tasks.specs.Values.{FreshIs, LiveIs}
use Rattle.shared_tasks.specs.Keeping.{IsFresh, IsAble}
use Rattle.shared_book.specs.Answers.{MovesOn}
use Rattle.shared_book.proofs.Moves.{moves_for, live_for, live_started, start_opens_none, held_still}
use Rattle.shared_book.proofs.Sections.{kept_step}
use Rattle.shared_book.proofs.Going.{started_able}
use Rattle.shared_book.proofs.section.Section.start.Goals as goal

pub new-requires : goal.new-requires
new-requires g c =
    let r = c.into_parts-pass.result in
    let fresh : FreshIs = record { task = r.0.0; pass = r.1; pause = r.2; events = r.3 } in
    let is = c.into_parts-pass.ensures.parts in
    let book = c.self.inside.book in
    let kept = c.self.invariant in
    let keeps : IsFresh g.K.Run.program g.K.Run.workers g.K.Run.passes g.H.Site.hall fresh =
    subst (IsFresh g.K.Run.program g.K.Run.workers g.K.Run.passes g.H.Site.hall) (sym is) c.into_parts-pass.ensures.keeps in
    let its = c.requires.its ∙ sym (ap (λ (f : FreshIs). f.task) is) in
    let m = moves_for g.K.Run.program g.K.Run.workers book c.start-pass.new.self fresh.pass c.start-pass.result c.args.rec c.start-pass.new.rec
    kept.program_is kept.workers_is (keeps.task.caller ∙ sym its) c.start-pass.ensures in
    live_started g.K.Run.program g.K.Run.workers g.K.Run.passes g.H.Site.hall fresh c.start-pass.result c.args.rec c.start-pass.new.rec kept.well_formed
    keeps its c.requires.waits m
    (live_for g.K.Run.program g.K.Run.workers g.K.Run.passes book c.start-pass.new.rec c.start-pass.result kept.program_is kept.workers_is kept.table_is
    c.start-pass.ensures.live)

pub invariant_of-self : goal.invariant_of-self
invariant_of-self g c =
    let r = c.into_parts-pass.result in
    let fresh : FreshIs = record { task = r.0.0; pass = r.1; pause = r.2; events = r.3 } in
    let is = c.into_parts-pass.ensures.parts in
    let book = c.self.inside.book in
    let kept = c.self.invariant in
    let keeps : IsFresh g.K.Run.program g.K.Run.workers g.K.Run.passes g.H.Site.hall fresh =
    subst (IsFresh g.K.Run.program g.K.Run.workers g.K.Run.passes g.H.Site.hall) (sym is) c.into_parts-pass.ensures.keeps in
    let its = c.requires.its ∙ sym (ap (λ (f : FreshIs). f.task) is) in
    kept_step g.K.Run.program g.K.Run.workers g.K.Run.passes g.H.Site.hall book c.start-pass.new.self fresh.pass c.start-pass.result c.args.rec
    c.start-pass.new.rec c.self.inside.tickets c.self.inside.pairs.items c.args.rec.task Events fresh.events kept c.start-pass.ensures
    (keeps.task.caller ∙ sym its) (held_still g.K.Run.program g.H.Site.hall fresh.task c.args.rec.task Events fresh.events (sym its) keeps.events)
    (start_opens_none g.K.Run.program g.K.Run.workers g.K.Run.passes g.H.Site.hall book c.start-pass.new.self fresh c.start-pass.result c.args.rec
    c.start-pass.new.rec kept.program_is kept.workers_is keeps its c.start-pass.ensures)

pub returns-clause-moves : goal.returns-clause-moves
returns-clause-moves g c =
    let r = c.into_parts-pass.result in
    let fresh : FreshIs = record { task = r.0.0; pass = r.1; pause = r.2; events = r.3 } in
    let is = c.into_parts-pass.ensures.parts in
    let kept = c.self.invariant in
    let keeps : IsFresh g.K.Run.program g.K.Run.workers g.K.Run.passes g.H.Site.hall fresh =
    subst (IsFresh g.K.Run.program g.K.Run.workers g.K.Run.passes g.H.Site.hall) (sym is) c.into_parts-pass.ensures.keeps in
    let its = c.requires.its ∙ sym (ap (λ (f : FreshIs). f.task) is) in
    let m = moves_for g.K.Run.program g.K.Run.workers c.self.inside.book c.start-pass.new.self fresh.pass c.start-pass.result c.args.rec c.start-pass.new.rec
    kept.program_is kept.workers_is (keeps.task.caller ∙ sym its) c.start-pass.ensures in
    subst (λ (f : FreshIs). MovesOn g.K.Run.program g.K.Run.workers f.pass c.new.result.pass c.args.rec c.new.result.rec) is
    (subst (λ (n : LiveIs). MovesOn g.K.Run.program g.K.Run.workers fresh.pass n.pass c.args.rec n.rec) (sym c.new.ensures) m)

pub returns-clause-able : goal.returns-clause-able
returns-clause-able g c =
    let r = c.into_parts-pass.result in
    let fresh : FreshIs = record { task = r.0.0; pass = r.1; pause = r.2; events = r.3 } in
    let is = c.into_parts-pass.ensures.parts in
    let kept = c.self.invariant in
    let keeps : IsFresh g.K.Run.program g.K.Run.workers g.K.Run.passes g.H.Site.hall fresh =
    subst (IsFresh g.K.Run.program g.K.Run.workers g.K.Run.passes g.H.Site.hall) (sym is) c.into_parts-pass.ensures.keeps in
    let its = c.requires.its ∙ sym (ap (λ (f : FreshIs). f.task) is) in
    let m = moves_for g.K.Run.program g.K.Run.workers c.self.inside.book c.start-pass.new.self fresh.pass c.start-pass.result c.args.rec c.start-pass.new.rec
    kept.program_is kept.workers_is (keeps.task.caller ∙ sym its) c.start-pass.ensures in
    subst (IsAble g.K.Run.program) (sym c.new.ensures)
    (started_able g.K.Run.program g.K.Run.workers g.K.Run.passes g.H.Site.hall fresh c.start-pass.result c.args.rec c.start-pass.new.rec keeps
    c.requires.waits m)
