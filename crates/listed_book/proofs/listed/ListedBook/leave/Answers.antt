-- The book after a leave, with its list.
use Rattle.std.proofs.Common.{◌^◌, ◌-◌, ◌<◌, length, sym, subst}
use Rattle.book_parts.specs.Ledger.{IsInOperation}
use Rattle.pass_table.specs.Passes.{NoteIs}
use Rattle.listed_book.proofs.Insides.{insides_of}
use Rattle.listed_book.proofs.Keeping.{has_room}
use Rattle.listed_book.proofs.Moving.{begun_live, stands_now, may_now, Made, keeps_made, moves_made}
use Rattle.listed_book.proofs.listed.ListedBook.leave.Goals as goal
use Rattle.listed_book.proofs.listed.ListedBook.leave.Goals.{After-append}

made : (c : After-append) → Made (insides_of c.self.inside) c.args.prog.now c.leave.new.self c.catch_up-pass.new.self c.append.new.self
    c.args.pass c.catch_up-pass.result c.append.result c.args.rec.now c.leave.new.rec
made c = record {
  begins = begun_live (insides_of c.self.inside) c.args.self.now c.args.prog.now c.args.rec.now c.args.pass c.self.invariant c.self.view_is c.requires.same
      c.requires.live c.requires.enabled (λ e. subst IsInOperation e c.requires.within)
      c.catch_up-pass.ensures.before c.catch_up-pass.ensures.steps;
  makes = c.leave.ensures;
  caught_is = c.catch_up-pass.ensures.pass;
  pen_is = c.catch_up-pass.ensures.pen;
  after_pen_is = c.append.ensures.pen;
  after_is = c.append.ensures.pass;
}

pub leave-requires-clause-stands : goal.leave-requires-clause-stands
leave-requires-clause-stands c =
    stands_now (insides_of c.self.inside) c.args.prog.now c.args.rec.now c.args.pass
    (begun_live (insides_of c.self.inside) c.args.self.now c.args.prog.now c.args.rec.now c.args.pass c.self.invariant c.self.view_is c.requires.same
    c.requires.live c.requires.enabled (λ e. subst IsInOperation e c.requires.within)
    c.catch_up-pass.ensures.before c.catch_up-pass.ensures.steps)

pub leave-requires-clause-enabled : goal.leave-requires-clause-enabled
leave-requires-clause-enabled c =
    may_now (insides_of c.self.inside) c.args.prog.now c.args.rec.now c.args.pass
    (begun_live (insides_of c.self.inside) c.args.self.now c.args.prog.now c.args.rec.now c.args.pass c.self.invariant c.self.view_is c.requires.same
    c.requires.live c.requires.enabled (λ e. subst IsInOperation e c.requires.within)
    c.catch_up-pass.ensures.before c.catch_up-pass.ensures.steps)

pub append-requires-clause-room : goal.append-requires-clause-room
append-requires-clause-room c =
    subst (λ (pen : NoteIs). length pen.seen < 2 ^ 64 - 1) (sym c.catch_up-pass.ensures.pen) (has_room (insides_of c.self.inside) c.self.invariant)

pub invariant_of-self : goal.invariant_of-self
invariant_of-self c = keeps_made _ _ _ _ _ _ _ _ _ _ (made (goal.at.invariant_of-self c).After-append)

pub returns : goal.returns
returns c = moves_made _ _ _ _ _ _ _ _ _ _ (made (goal.at.returns c).After-append) c.args.self.now c.self.view_is
