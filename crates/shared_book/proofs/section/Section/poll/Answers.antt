use Rattle.std.proofs.Common.{List, Option, sym, subst}
use Rattle.meet_hall.specs.Holders.{TicketIs}
use Rattle.shared_book.specs.Kept.{KeepsSection}
use Rattle.shared_book.specs.Answers.{Takes}
use Rattle.shared_book.proofs.Sections.{kept_look, kept_poll, takes_for, told_lies}
use Rattle.shared_book.proofs.section.Section.poll.Goals as goal

pub invariant_of-self : goal.invariant_of-self
invariant_of-self g c =
    kept_look g.K.Run.program g.K.Run.workers g.K.Run.passes g.H.Site.hall c.self.inside.book c.poll-pass.new.self c.args.pass c.poll-pass.result.0
    c.self.inside.tickets c.self.inside.pairs.items c.self.invariant (rw c.in-None.is at c.poll-pass.ensures.looks)

pub invariant_of-self-in-Some : goal.invariant_of-self-in-Some
invariant_of-self-in-Some g c =
    let takes = rw c.in-Some.is at c.poll-pass.ensures.takes in
    let has = told_lies g.K.Run.program g.K.Run.workers g.K.Run.passes g.H.Site.hall c.self.inside.book c.poll-pass.new.self c.args.pass
    c.poll-pass.result.0 c.in-Some.field-0 c.self.inside.tickets c.self.inside.pairs.items c.self.invariant takes in
    let kept = kept_poll g.K.Run.program g.K.Run.workers g.K.Run.passes g.H.Site.hall c.self.inside.book c.poll-pass.new.self c.args.pass
    c.poll-pass.result.0 c.in-Some.field-0 c.self.inside.tickets c.self.inside.pairs.items c.self.invariant takes has in
    subst
    (λ (rows : List (List (Option TicketIs))).
    KeepsSection g.K.Run.program g.K.Run.workers g.K.Run.passes g.H.Site.hall c.poll-pass.new.self rows c.self.inside.pairs.items)
    (sym c.take-lying.ensures.rest) kept

pub returns-in-Some-lying-clause-takes : goal.returns-in-Some-lying-clause-takes
returns-in-Some-lying-clause-takes g c =
    subst (Takes g.K.Run.program g.K.Run.workers c.args.pass c.poll-pass.result.0) (sym c.new.ensures)
    (takes_for g.K.Run.program g.K.Run.workers c.self.inside.book c.poll-pass.new.self c.args.pass c.poll-pass.result.0 c.in-Some.field-0
    c.in-Some-lying.ticket c.self.invariant.program_is c.self.invariant.workers_is (rw c.in-Some.is at c.poll-pass.ensures.takes))
