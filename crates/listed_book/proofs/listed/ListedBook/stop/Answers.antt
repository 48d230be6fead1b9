-- The book after a stop, or as it was where one stood.
use Rattle.std.proofs.Common.{◌≡◌, length, ap, sym, ◌∙◌, subst, arith}
use Rattle.pass_table.specs.Passes.{NoteIs}
use Rattle.shared_lists.specs.Sound.{IsPoller}
use Rattle.shared_lists.specs.Deeds.{stop_number}
use Rattle.listed_book.specs.Listed.{BookIs, StopsAt}
use Rattle.listed_book.specs.Kept.{seen_as}
use Rattle.listed_book.proofs.Insides.{insides_of}
use Rattle.listed_book.proofs.Keeping.{has_room}
use Rattle.listed_book.proofs.Looking.{Writes, keeps_stop_at, stops_at, stops_before}
use Rattle.listed_book.proofs.listed.ListedBook.stop.Goals as goal
use Rattle.listed_book.proofs.listed.ListedBook.stop.Goals.{After-append}

writes : (c : After-append) → Writes (insides_of c.self.inside) c.append.new.self c.args.pass c.append.result c.number_behind-number.result
writes c = record {
  keeps = c.self.invariant;
  poller = subst (λ (b : BookIs). IsPoller b.program b.workers c.args.pass.caller) (sym c.self.view_is) c.requires.poller;
  carried = record { front = c.append.ensures.before; steps = c.append.ensures.steps };
  pen_is = c.append.ensures.pen;
  after_is = c.append.ensures.pass;
}

is_stop : (c : After-append) → c.number_behind-number.result ≡ stop_number c.self.inside.book.program
is_stop c = c.number_behind-number.ensures ∙ omega (arith, ap length c.deref.ensures.value, c.self.invariant.counted)

pub append-requires-clause-room : goal.append-requires-clause-room
append-requires-clause-room c = has_room (insides_of c.self.inside) c.self.invariant

pub invariant_of-self-else-self : goal.invariant_of-self-else-self
invariant_of-self-else-self c =
    let d = (goal.at.invariant_of-self-else-self c).After-append in
    keeps_stop_at (insides_of c.self.inside) c.append.new.self c.args.pass c.append.result c.number_behind-number.result (writes d) (is_stop d) c.if-self.false

pub returns-then-self : goal.returns-then-self
returns-then-self c =
    subst (λ (pen : NoteIs). StopsAt c.args.self.now (seen_as (record (insides_of c.self.inside) { pen = pen })) c.args.pass c.catch_up.result)
    (sym c.catch_up.ensures.pen)
    (stops_before (insides_of c.self.inside) c.args.pass c.catch_up.result (record {
      keeps = c.self.invariant;
      carried = record { front = c.catch_up.ensures.before; steps = c.catch_up.ensures.steps };
      after_is = c.catch_up.ensures.pass;
    }) c.if-self.true c.args.self.now c.self.view_is)

pub returns-else-self : goal.returns-else-self
returns-else-self c =
    let d = (goal.at.returns-else-self c).After-append in
    stops_at (insides_of c.self.inside) c.append.new.self c.args.pass c.append.result c.number_behind-number.result (writes d) (is_stop d)
    c.if-self.false c.args.self.now c.self.view_is
