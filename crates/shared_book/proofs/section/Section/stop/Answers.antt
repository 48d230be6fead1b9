use Rattle.shared_book.proofs.Sections.{kept_stop}
use Rattle.shared_book.proofs.section.Section.stop.Goals as goal

pub invariant_of-self : goal.invariant_of-self
invariant_of-self g c =
    kept_stop g.K.Run.program g.K.Run.workers g.K.Run.passes g.H.Site.hall c.self.inside.book c.stop.new.self c.args.pass c.stop.result
    c.self.inside.tickets c.self.inside.pairs.items c.self.invariant c.stop.ensures
