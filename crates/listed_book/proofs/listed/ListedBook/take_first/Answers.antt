-- The book after a notice was taken.
use Rattle.std.proofs.Common.{◌-◌, ◌<◌, ℕ, length, ap, sym, ◌∙◌, subst}
use Rattle.rt_base.specs.State.{State}
use Rattle.pass_table.specs.Passes.{PassIs}
use Rattle.shared_lists.specs.Sound.{IsPoller}
use Rattle.listed_book.specs.Listed.{BookIs, state_in}
use Rattle.listed_book.specs.Replies.{TakesFirst}
use Rattle.listed_book.specs.Kept.{seen_as}
use Rattle.listed_book.proofs.Insides.{insides_of}
use Rattle.listed_book.proofs.Keeping.{has_room, final_seen}
use Rattle.listed_book.proofs.Polling.{Polls, keeps_polled, takes_first}
use Rattle.listed_book.proofs.listed.ListedBook.take_first.Goals as goal
use Rattle.listed_book.proofs.listed.ListedBook.take_first.Goals.{After-note-pass}

polls : (c : After-note-pass) → Polls (insides_of c.self.inside) c.poll-req.new.self c.append-pass.new.self c.args.pass c.append-pass.result
    c.poller_of-poller.result c.poll-req.result
polls c = record {
  keeps = c.self.invariant;
  is_poller = subst (λ (b : BookIs). IsPoller b.program b.workers c.args.pass.caller) (sym c.self.view_is) c.requires.poller;
  carried = record { front = c.append-pass.ensures.before; steps = c.append-pass.ensures.steps };
  notice =
      subst (λ (s : State). 0 < length s.notices) (sym (final_seen (insides_of c.self.inside) c.self.invariant))
      (subst (λ (b : BookIs). 0 < length (state_in b).notices) (sym c.self.view_is) c.requires.notice);
  number =
      c.poller_of-poller.ensures
      ∙ ap (λ (n : ℕ). c.args.pass.caller - n) (ap length c.deref.ensures.value ∙ c.self.invariant.counted);
  takes = c.poll-req.ensures;
  pen_is = c.append-pass.ensures.pen;
  after_is = c.append-pass.ensures.pass;
}

pub append-pass-requires-clause-room : goal.append-pass-requires-clause-room
append-pass-requires-clause-room c = has_room (insides_of c.self.inside) c.self.invariant

pub invariant_of-self : goal.invariant_of-self
invariant_of-self c = keeps_polled _ _ _ _ _ _ _ (polls (goal.at.invariant_of-self c).After-note-pass)

pub returns : goal.returns
returns c =
    subst (λ (pass : PassIs). TakesFirst c.args.self.now (seen_as (record
    (insides_of c.self.inside) { book = c.poll-req.new.self; pen = c.append-pass.new.self }))
    c.args.pass pass (record { req = c.poll-req.result; note = c.note-pass.result.1 }))
    (sym c.note-pass.ensures.pass)
    (takes_first _ _ _ _ _ _ _ (polls (goal.at.returns c).After-note-pass) c.args.self.now c.note-pass.result.1 c.self.view_is c.note-pass.ensures.note)
