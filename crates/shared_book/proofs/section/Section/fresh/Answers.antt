use Rattle.std.proofs.Common.{◌≡◌, List, Option, sym, ◌∙◌, subst}
use Rattle.task_machine.proofs.Items.{same_some}
use Rattle.shared_book.specs.declared.pairs.Pair.{Pair}
use Rattle.shared_book.specs.Kept.{IsPairOf, KeepsSection}
use Rattle.shared_book.proofs.Sections.{kept_look, kept_offer, offered_lies, fresh_is}
use Rattle.shared_book.proofs.section.Section.fresh.Goals as goal

pub invariant_of-self : goal.invariant_of-self
invariant_of-self g c =
    kept_look g.K.Run.program g.K.Run.workers g.K.Run.passes g.H.Site.hall c.self.inside.book c.fresh-pass.new.self c.args.pass c.fresh-pass.result.0
    c.self.inside.tickets c.self.inside.pairs.items c.self.invariant (rw c.in-None.is at c.fresh-pass.ensures.looks)

pub take_pair-pause-requires : goal.take_pair-pause-requires
take_pair-pause-requires g c =
    let lies = offered_lies g.K.Run.program g.K.Run.workers g.K.Run.passes g.H.Site.hall c.self.inside.book c.fresh-pass.new.self c.args.pass
    c.fresh-pass.result.0 c.in-Some.field-0 c.self.inside.tickets c.self.inside.pairs.items c.self.invariant
    (rw c.in-Some.is at c.fresh-pass.ensures.offers) in
    record { there = (lies.0, lies.1) }

pub new-requires : goal.new-requires
new-requires g c =
    let offers = rw c.in-Some.is at c.fresh-pass.ensures.offers in
    let lies = offered_lies g.K.Run.program g.K.Run.workers g.K.Run.passes g.H.Site.hall c.self.inside.book c.fresh-pass.new.self c.args.pass
    c.fresh-pass.result.0 c.in-Some.field-0 c.self.inside.tickets c.self.inside.pairs.items c.self.invariant offers in
    let same : lies.0 ≡ c.take_pair-pause.result = same_some (same_some (sym lies.1 ∙ c.take_pair-pause.ensures.pair)) in
    fresh_is g.K.Run.program g.K.Run.workers g.K.Run.passes g.H.Site.hall c.self.inside.book c.fresh-pass.new.self c.args.pass c.fresh-pass.result.0
    c.in-Some.field-0 c.take_pair-pause.result c.self.invariant.program_is c.self.invariant.workers_is c.self.invariant.table_is offers
    (subst (IsPairOf g.K.Run.program g.H.Site.hall c.in-Some.field-0.task.0) same lies.2)

pub invariant_of-self-in-Some : goal.invariant_of-self-in-Some
invariant_of-self-in-Some g c =
    let kept = kept_offer g.K.Run.program g.K.Run.workers g.K.Run.passes g.H.Site.hall c.self.inside.book c.fresh-pass.new.self c.args.pass
    c.fresh-pass.result.0 c.in-Some.field-0 c.self.inside.tickets c.self.inside.pairs.items c.self.invariant
    (rw c.in-Some.is at c.fresh-pass.ensures.offers) in
    subst
    (λ (pairs : List (Option Pair)).
    KeepsSection g.K.Run.program g.K.Run.workers g.K.Run.passes g.H.Site.hall c.fresh-pass.new.self c.self.inside.tickets pairs)
    (sym c.take_pair-pause.ensures.pairs) kept
