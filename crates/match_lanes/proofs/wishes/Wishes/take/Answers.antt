use Rattle.std.proofs.Common.{Option, set, slice_get, sym, ap, ◌∙◌, subst, arith}
use Rattle.std.proofs.lemmas.List.{length-set}
use Rattle.rt_base.specs.Matching.{Receive}
use Rattle.match_lanes.specs.Waiting.{Line, Waits}
use Rattle.match_lanes.specs.Hanging.{AreWishes}
use Rattle.match_lanes.proofs.Places.{read_waits}
use Rattle.match_lanes.proofs.Wished.{wish_taken}
use Rattle.match_lanes.proofs.wishes.Wishes.take.Goals as goal

pub invariant_of-self : goal.invariant_of-self
invariant_of-self c =
    let items = c.self.inside.items.items in
    let place = c.args.place in (
      subst (λ (o : Option Receive). AreWishes c.self.inside.keys.value (set items place o) c.unhook.new.self c.self.inside.room) (sym c.take.ensures.after)
          (wish_taken c.self.inside.keys.value items c.self.inside.lanes c.unhook.new.self c.self.inside.room place c.self.invariant.0 c.unhook.ensures.lanes
          c.unhook.ensures.count c.unhook.ensures.room),
      omega (arith, length-set items place c.take.new.self, c.self.invariant.1),
    )

pub returns-clause-item : goal.returns-clause-item
returns-clause-item c =
    ap (λ (l : Line Receive). slice_get l.items c.args.place) (sym c.self.view_is)
    ∙ read_waits c.self.inside.items.items c.args.place c.index_mut.result.now c.in-Some.wish c.index_mut.ensures.value
    (sym c.take.ensures.value ∙ c.in-Some.is)
    (subst (λ (l : Line Receive). Waits l.items c.args.place) (sym c.self.view_is) c.requires)
