-- The book after a look, or as it was where the look is left out.
use Rattle.std.proofs.Common.{◌≡◌, length, ap, sym, ◌∙◌, subst, arith}
use Rattle.pass_table.specs.Passes.{NoteIs}
use Rattle.shared_lists.specs.Sound.{IsPoller}
use Rattle.shared_lists.specs.Deeds.{look_number}
use Rattle.listed_book.specs.Listed.{BookIs, LooksAt}
use Rattle.listed_book.specs.Kept.{seen_as}
use Rattle.listed_book.proofs.Insides.{insides_of}
use Rattle.listed_book.proofs.Keeping.{has_room}
use Rattle.listed_book.proofs.Looking.{Writes, keeps_look_at, looks_at, looks_left}
use Rattle.listed_book.proofs.listed.ListedBook.look.Goals as goal
use Rattle.listed_book.proofs.listed.ListedBook.look.Goals.{After-append}

writes : (c : After-append) → Writes (insides_of c.self.inside) c.append.new.self c.args.pass c.append.result c.number_behind-number.result
writes c = record {
  keeps = c.self.invariant;
  poller = subst (λ (b : BookIs). IsPoller b.program b.workers c.args.pass.caller) (sym c.self.view_is) c.requires.poller;
  carried = record { front = c.append.ensures.before; steps = c.append.ensures.steps };
  pen_is = c.append.ensures.pen;
  after_is = c.append.ensures.pass;
}

is_look : (c : After-append) → c.number_behind-number.result ≡ look_number c.self.inside.book.program
is_look c = c.number_behind-number.ensures ∙ omega (arith, ap length c.deref.ensures.value, c.self.invariant.counted)

pub append-requires-clause-room : goal.append-requires-clause-room
append-requires-clause-room c = has_room (insides_of c.self.inside) c.self.invariant

pub invariant_of-self : goal.invariant_of-self
invariant_of-self c =
    let d = (goal.at.invariant_of-self c).After-append in
    keeps_look_at (insides_of c.self.inside) c.append.new.self c.args.pass c.append.result c.number_behind-number.result (writes d) (is_look d)
    c.if-self-lt-MOST_LOOKS.true

pub returns-then-self-lt-MOST_LOOKS : goal.returns-then-self-lt-MOST_LOOKS
returns-then-self-lt-MOST_LOOKS c =
    let d = (goal.at.returns-then-self-lt-MOST_LOOKS c).After-append in
    looks_at (insides_of c.self.inside) c.append.new.self c.args.pass c.append.result c.number_behind-number.result (writes d) (is_look d)
    c.if-self-lt-MOST_LOOKS.true c.args.self.now c.self.view_is

pub returns-else-self-lt-MOST_LOOKS : goal.returns-else-self-lt-MOST_LOOKS
returns-else-self-lt-MOST_LOOKS c =
    subst (λ (pen : NoteIs). LooksAt c.args.self.now (seen_as (record (insides_of c.self.inside) { pen = pen })) c.args.pass c.catch_up.result)
    (sym c.catch_up.ensures.pen)
    (looks_left (insides_of c.self.inside) c.args.pass c.catch_up.result (record {
      keeps = c.self.invariant;
      carried = record { front = c.catch_up.ensures.before; steps = c.catch_up.ensures.steps };
      after_is = c.catch_up.ensures.pass;
    }) c.if-self-lt-MOST_LOOKS.false c.args.self.now c.self.view_is)
