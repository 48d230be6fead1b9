use Rattle.std.proofs.Common.{◌∷◌, ◌++◌, [], List, Option, Some, length, sym, ap, ◌∙◌, arith, rules}
use Rattle.std.proofs.lemmas.Iterator.Adapters.{YieldsList-from_vec}
use Rattle.std.proofs.lemmas.Iterator.Consumers.{YieldsList-turn}
use Rattle.shared_book.specs.declared.pairs.Pair.{Pair}
use Rattle.shared_book.proofs.Pairing.{odd_none, odd_some, odd_count}
use Rattle.shared_book.proofs.pairs.paired.Goals as goal

pub loop-holder-preserved-in-None-take : goal.loop-holder-preserved-in-None-take
loop-holder-preserved-in-None-take c =
    let none = sym c.loop-holder.invariant.odd ∙ (sym c.take.ensures.value ∙ c.in-None-take.is) in
    let next = odd_none c.loop-holder.yielded c.in-Some.holder none in
    record { pairs = c.loop-holder.invariant.pairs ∙ sym next.0; odd = sym next.1; room = c.loop-holder.invariant.room }

pub push_reserved-requires : goal.push_reserved-requires
push_reserved-requires c =
    let some = sym c.loop-holder.invariant.odd ∙ (sym c.take.ensures.value ∙ c.in-Some-take.is) in
    let count = odd_count c.loop-holder.yielded c.in-Some-take.pause some in
    let turn = YieldsList-turn (YieldsList-from_vec {s = c.into_iter-holder-iterator.result} c.args.holders.items (search rules) (search rules))
    c.loop-holder.yielded
    c.loop-holder.holder-iterator c.loop-holder.yielded_by c.next.result c.next.new.self c.in-Some.holder c.in-Some.is c.next.ensures.steps in
    let all = ap (λ (ps : List (Option Pair)). length ps) c.loop-holder.invariant.pairs in
    omega (arith, count, turn.0, all, c.loop-holder.invariant.room, c.requires.room, c.loop-holder.pairs.ok.0)

pub loop-holder-preserved : goal.loop-holder-preserved
loop-holder-preserved c =
    let some = sym c.loop-holder.invariant.odd ∙ (sym c.take.ensures.value ∙ c.in-Some-take.is) in
    let next = odd_some c.loop-holder.yielded c.in-Some-take.pause c.in-Some.holder some in
    record {
      pairs =
          c.push_reserved.ensures.items
          ∙ ap (λ (ps : List (Option Pair)). ps ++ Some (record { pause = c.in-Some-take.pause; events = c.in-Some.holder }) ∷ []) c.loop-holder.invariant.pairs
          ∙ sym next.0;
      odd = c.take.ensures.after ∙ sym next.1;
      room = omega (arith, c.loop-holder.invariant.room, c.push_reserved.ensures.capacity);
    }
