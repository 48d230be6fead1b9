-- The book after an offer, and what is known where it has nothing to offer.
use Rattle.std.proofs.Common.{ℕ, refl, ap, sym, ◌∙◌, subst}
use Rattle.rt_base.specs.declared.data.Program.{Program}
use Rattle.book_parts.specs.Ledger.{Ledger, IsReady}
use Rattle.pass_table.specs.Passes.{NoteIs}
use Rattle.shared_lists.specs.Sound.{IsPoller}
use Rattle.shared_lists.specs.Said.{NoneLeft}
use Rattle.listed_book.specs.Listed.{BookIs}
use Rattle.listed_book.specs.Replies.{OffersTask}
use Rattle.listed_book.specs.Kept.{Keeps, seen_as}
use Rattle.listed_book.proofs.Insides.{insides_of}
use Rattle.listed_book.proofs.Keeping.{has_room}
use Rattle.listed_book.proofs.Looking.{none_left}
use Rattle.listed_book.proofs.Offering.{Offers, lies_there, lying_fits, keeps_offered, offers_task}
use Rattle.listed_book.proofs.listed.ListedBook.fresh.Goals as goal
use Rattle.listed_book.proofs.listed.ListedBook.fresh.Goals.{After-catch_up-own}

offers : (c : After-catch_up-own) → Offers
    (insides_of c.self.inside) c.in-Some.task.0 c.ready.new.self c.append-pass.new.self c.take_pass-lying.new.passes.items
    c.args.pass c.append-pass.result c.take_pass-lying.result c.catch_up-own.result
offers c = record {
  keeps = c.self.invariant;
  ready = c.in-Some.ensures.startable;
  poller = subst (λ (b : BookIs). IsPoller b.program b.workers c.args.pass.caller) (sym c.self.view_is) c.requires.poller;
  carried = record { front = c.append-pass.ensures.before; steps = c.append-pass.ensures.steps };
  book_is = c.in-Some.ensures.handed;
  pen_is = c.append-pass.ensures.pen;
  after_is = c.append-pass.ensures.pass;
  lying_is = c.take_pass-lying.ensures.pass;
  passes_is = c.take_pass-lying.ensures.passes;
  own_is = c.catch_up-own.ensures.pass;
  own_steps = c.catch_up-own.ensures.steps.1;
}

pub append-pass-requires-clause-room : goal.append-pass-requires-clause-room
append-pass-requires-clause-room c = has_room (insides_of c.self.inside) c.self.invariant

pub take_pass-lying-requires : goal.take_pass-lying-requires
take_pass-lying-requires c = record { there = lies_there (insides_of c.self.inside) c.in-Some.task.0 c.self.invariant c.in-Some.ensures.startable }

pub catch_up-own-requires-clause-pass : goal.catch_up-own-requires-clause-pass
catch_up-own-requires-clause-pass c =
    let fits = lying_fits
    (insides_of c.self.inside) c.in-Some.task.0 c.take_pass-lying.result c.self.invariant c.in-Some.ensures.startable c.take_pass-lying.ensures.pass in
    fits.0 ∙ ap (λ (b : BookIs). b.table) c.self.view_is ∙ sym c.requires.table

pub invariant_of-self : goal.invariant_of-self
invariant_of-self c =
    subst (λ (n : NoteIs). Keeps (record (insides_of c.self.inside) { book = c.ready.new.self; pen = n; passes = c.take_pass-lying.new.passes.items }))
    (sym c.catch_up-own.ensures.pen) (keeps_offered _ _ _ _ _ _ _ _ _ (offers (goal.at.invariant_of-self c).After-catch_up-own))

pub returns-in-Some-clause-offers : goal.returns-in-Some-clause-offers
returns-in-Some-clause-offers c =
    subst (λ (n : NoteIs). OffersTask c.args.self.now (seen_as (record (insides_of c.self.inside) { book = c.ready.new.self; pen = n })) c.args.pass
    c.append-pass.result (record { task = c.in-Some.task; pass = c.catch_up-own.result }))
    (sym c.catch_up-own.ensures.pen)
    (offers_task _ _ _ _ _ _ _ _ _ (offers (goal.at.returns-in-Some-clause-offers c).After-catch_up-own) c.args.self.now c.self.view_is)

pub returns-in-None-clause-none : goal.returns-in-None-clause-none
returns-in-None-clause-none c =
    subst (λ (p : Program). NoneLeft p c.look.result.seen)
    (ap (λ (b : Ledger). b.program) c.in-None.ensures.unchanged ∙ ap (λ (b : BookIs). b.program) c.self.view_is)
    (none_left (record (insides_of c.self.inside) { book = c.ready.new.self }) _ c.look.new.self c.args.pass c.look.result
    (subst (λ (b : Ledger). Keeps (record (insides_of c.self.inside) { book = b })) (sym c.in-None.ensures.unchanged) c.self.invariant) refl
    (subst (λ (b : Ledger). (t : ℕ) → ¬ IsReady b t) (sym c.in-None.ensures.unchanged) c.in-None.ensures.none) c.look.ensures)
