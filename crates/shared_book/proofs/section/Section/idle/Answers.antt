use Rattle.std.proofs.Common.{subst}
use Rattle.rt_base.specs.declared.data.Program.{Program}
use Rattle.listed_book.specs.Replies.{IsIdle}
use Rattle.shared_book.proofs.Sections.{kept_look}
use Rattle.shared_book.proofs.section.Section.idle.Goals as goal

pub invariant_of-self : goal.invariant_of-self
invariant_of-self g c =
    kept_look g.K.Run.program g.K.Run.workers g.K.Run.passes g.H.Site.hall c.self.inside.book c.idle.new.self c.args.pass c.idle.result.0
    c.self.inside.tickets c.self.inside.pairs.items c.self.invariant c.idle.ensures.looks

pub returns-clause-idle : goal.returns-clause-idle
returns-clause-idle g c = subst (λ (q : Program). IsIdle q c.idle.result.0 c.idle.result.1) c.self.invariant.program_is c.idle.ensures.idle
