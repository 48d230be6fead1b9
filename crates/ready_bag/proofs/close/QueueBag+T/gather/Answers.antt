use Rattle.std.proofs.Common.{length}
use Rattle.std.proofs.lemmas.List.Elements.{All-rest}
use Rattle.crossbeam_queue.specs.Passes.{view}
use Rattle.ready_bag.specs.Passes.{IsPassOfBag}
use Rattle.ready_bag.proofs.Together.{gathered_more, counted_more}
use Rattle.ready_bag.proofs.close.QueueBag+T.gather.Goals as goal

pub loop-pass-preserved : goal.loop-pass-preserved
loop-pass-preserved g c =
    let old = c.loop-pass.invariant in
    let now = c.take_over.ensures in
    let v = view c.loop-pass.all.seat in
    let w = view c.take_over.new.all.seat in
    let more = gathered_more v w _ _ _ _ c.in-Some.ensures.items old.accounts now.accounts in
    record {
      table = now.queue.0;
      slots = now.queue.1;
      rest = All-rest (λ pass. IsPassOfBag pass c.args.self.now) _ _ _ c.in-Some.ensures.items old.rest;
      dealt = more.0;
      accounts = more.1;
      put = counted_more (λ a. length a.put) v w _ _ _ now.accounts old.put now.put;
      taken = counted_more (λ a. length a.took) v w _ _ _ now.accounts old.taken now.taken;
    }
