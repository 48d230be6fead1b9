use Rattle.std.proofs.Common.{◌≡◌, ◌<◌, List, ℕ, arith, subst, sym, ap, ◌∙◌}
use Rattle.meetings.specs.Meetings.{times}
use Rattle.meet_hall.specs.Places.{AreSpread}
use Rattle.meet_hall.proofs.PlaceLemmas.{spread_shorter, spread_added}
use Rattle.meet_hall.proofs.lists.Lists.add.Goals as goal

pub push_reserved-requires : goal.push_reserved-requires
push_reserved-requires c =
    let within : c.args.place < c.self.inside.places = subst (λ l. c.args.place < l.places) (sym c.self.view_is) c.requires.within in
    let new : times c.args.place c.self.inside.issued.items ≡ 0 = ap (λ l. times c.args.place l.issued) c.self.view_is ∙ c.requires.new in
    let room = spread_shorter c.self.inside.places c.args.place c.self.inside.issued.items c.self.invariant.3 within new in
    omega (arith, c.self.inside.issued.ok.0, c.self.invariant.1)

pub invariant_of-self : goal.invariant_of-self
invariant_of-self c =
    let within : c.args.place < c.self.inside.places = subst (λ l. c.args.place < l.places) (sym c.self.view_is) c.requires.within in
    let new : times c.args.place c.self.inside.issued.items ≡ 0 = ap (λ l. times c.args.place l.issued) c.self.view_is ∙ c.requires.new in
    let spread = spread_added c.self.inside.places c.args.place c.self.inside.issued.items c.self.invariant.3 within new in (
      c.self.invariant.0,
      omega (arith, c.self.invariant.1, c.push_reserved.ensures.capacity),
      c.self.invariant.2,
      subst (λ l. AreSpread c.self.inside.places l) (sym c.push_reserved.ensures.items) spread,
    )
