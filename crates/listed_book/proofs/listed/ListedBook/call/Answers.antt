-- The book after a call, with its list.
use Rattle.std.proofs.Common.{◌^◌, ◌-◌, ◌<◌, length, sym, subst}
use Rattle.task_local.specs.Standing.{def, IsAtCall}
use Rattle.pass_table.specs.Passes.{NoteIs}
use Rattle.listed_book.proofs.Insides.{insides_of}
use Rattle.listed_book.proofs.Keeping.{has_room}
use Rattle.listed_book.proofs.Moving.{begun_live, stands_now, pending_now, Made, keeps_made, moves_made}
use Rattle.listed_book.proofs.listed.ListedBook.call.Goals as goal
use Rattle.listed_book.proofs.listed.ListedBook.call.Goals.{After-append}

made : (c : After-append) → Made (insides_of c.self.inside) c.args.prog.now c.call-pending.new.self c.catch_up-pass.new.self c.append.new.self
    c.args.pass c.catch_up-pass.result c.append.result c.args.rec.now c.call-pending.new.rec
made c = record {
  begins = begun_live (insides_of c.self.inside) c.args.self.now c.args.prog.now c.args.rec.now c.args.pass c.self.invariant c.self.view_is c.requires.same
      c.requires.live c.requires.enabled (λ e. subst (IsAtCall (def c.args.rec.now)) e c.requires.before)
      c.catch_up-pass.ensures.before c.catch_up-pass.ensures.steps;
  makes = c.call-pending.ensures.moves;
  caught_is = c.catch_up-pass.ensures.pass;
  pen_is = c.catch_up-pass.ensures.pen;
  after_pen_is = c.append.ensures.pen;
  after_is = c.append.ensures.pass;
}

pub call-pending-requires-clause-stands : goal.call-pending-requires-clause-stands
call-pending-requires-clause-stands c =
    stands_now (insides_of c.self.inside) c.args.prog.now c.args.rec.now c.args.pass
    (begun_live (insides_of c.self.inside) c.args.self.now c.args.prog.now c.args.rec.now c.args.pass c.self.invariant c.self.view_is c.requires.same
    c.requires.live c.requires.enabled (λ e. subst (IsAtCall (def c.args.rec.now)) e c.requires.before)
    c.catch_up-pass.ensures.before c.catch_up-pass.ensures.steps)

pub append-requires-clause-room : goal.append-requires-clause-room
append-requires-clause-room c =
    subst (λ (pen : NoteIs). length pen.seen < 2 ^ 64 - 1) (sym c.catch_up-pass.ensures.pen) (has_room (insides_of c.self.inside) c.self.invariant)

pub invariant_of-self : goal.invariant_of-self
invariant_of-self c = keeps_made _ _ _ _ _ _ _ _ _ _ (made (goal.at.invariant_of-self c).After-append)

pub returns-clause-moves : goal.returns-clause-moves
returns-clause-moves c = moves_made _ _ _ _ _ _ _ _ _ _ (made (goal.at.returns-clause-moves c).After-append) c.args.self.now c.self.view_is

pub returns-clause-pending : goal.returns-clause-pending
returns-clause-pending c =
    pending_now (insides_of c.self.inside) c.args.self.now c.args.prog.now c.args.rec.now c.args.pass c.call-pending.result
    (begun_live (insides_of c.self.inside) c.args.self.now c.args.prog.now c.args.rec.now c.args.pass c.self.invariant c.self.view_is c.requires.same
    c.requires.live c.requires.enabled (λ e. subst (IsAtCall (def c.args.rec.now)) e c.requires.before)
    c.catch_up-pass.ensures.before c.catch_up-pass.ensures.steps) c.self.view_is c.call-pending.ensures.pending
