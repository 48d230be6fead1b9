use Rattle.std.proofs.Common.{Option, length, set, slice_get, sym, ap, ◌∙◌, subst, arith}
use Rattle.std.proofs.lemmas.List.{length-set}
use Rattle.rt_base.specs.Matching.{Message}
use Rattle.match_lanes.specs.Waiting.{Line, Waits}
use Rattle.match_lanes.specs.Hanging.{AreMails}
use Rattle.match_lanes.proofs.Places.{read_waits, waits_within}
use Rattle.match_lanes.proofs.Mailed.{mail_taken, length_four}
use Rattle.match_lanes.proofs.mails.Mails.take.Goals as goal

pub unhook_four-requires-clause-within : goal.unhook_four-requires-clause-within
unhook_four-requires-clause-within c =
    let items = c.self.inside.items.items in
    let waits = subst (λ (l : Line Message). Waits l.items c.args.place) (sym c.self.view_is) c.requires in
    omega (
      arith,
      waits_within items c.args.place waits,
      length_four c.self.inside.keys.value items,
      ap (λ l. length l) c.self.invariant.0.hang,
    )

pub invariant_of-self : goal.invariant_of-self
invariant_of-self c =
    let items = c.self.inside.items.items in
    let place = c.args.place in
    let waits = subst (λ (l : Line Message). Waits l.items place) (sym c.self.view_is) c.requires in (
      subst (λ (o : Option Message). AreMails c.self.inside.keys.value (set items place o) c.unhook_four.new.lanes c.self.inside.room)
          (sym c.take.ensures.after)
          (mail_taken c.self.inside.keys.value items c.self.inside.lanes c.unhook_four.new.lanes c.self.inside.room place c.self.invariant.0
          (waits_within items place waits) c.unhook_four.ensures.lanes c.unhook_four.ensures.count c.unhook_four.ensures.room),
      record {
        memory = omega (arith, length-set items place c.take.new.self, c.self.invariant.1.memory);
        numbers = omega (arith, length-set items place c.take.new.self, c.self.invariant.1.numbers);
      },
    )

pub returns-clause-item : goal.returns-clause-item
returns-clause-item c =
    ap (λ (l : Line Message). slice_get l.items c.args.place) (sym c.self.view_is)
    ∙ read_waits c.self.inside.items.items c.args.place c.index_mut.result.now c.in-Some.message c.index_mut.ensures.value
    (sym c.take.ensures.value ∙ c.in-Some.is)
    (subst (λ (l : Line Message). Waits l.items c.args.place) (sym c.self.view_is) c.requires)
