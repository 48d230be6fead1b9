-- What the dependency graph hands out is ready, and where it hands out nothing, nothing is.
use Rattle.std.proofs.Common.{ℕ, Some, None, IfNone, sym, subst}
use Rattle.book_parts.specs.Ledger.{IsReady}
use Rattle.core_book.proofs.Insides.{parts_of}
use Rattle.book_parts.proofs.BookLemmas.{may_be_handed, ready_book, ready_none}
use Rattle.book_parts.proofs.Figured.{kept_figures}
use Rattle.book_counts.proofs.Quiet.{ready_counted}
use Rattle.core_book.proofs.book.Book.ready.Goals as goal

pub returns-in_err-task-clause-none : goal.returns-in_err-task-clause-none
returns-in_err-task-clause-none c =
    subst (λ found. IfNone found ((t : ℕ) → ¬ IsReady c.args.self.now t)) (sym c.from_residual.ensures)
    (ready_none (parts_of c.self.inside) c.args.self.now None c.self.invariant.kept c.self.view_is c.in_err-task.ensures.none)

pub invariant_of-self-2 : goal.invariant_of-self-2
invariant_of-self-2 c =
    let s = parts_of c.self.inside in
    let e = c.in_ok-task.ensures in
    record {
      kept = ready_book s c.next_startable.new.self c.set.new.self (Some c.in_ok-task.task) c.self.invariant.kept e.program e.gone e.places e.handed
          e.unchanged;
      counted = ready_counted (kept_figures {parts = s} c.self.invariant) c.in_ok-task.task.0 c.next_startable.new.self.handed c.set.new.self
          (may_be_handed s c.in_ok-task.task.0 c.self.invariant.kept e.startable) e.handed c.set.ensures;
      numbered = c.self.invariant.numbered;
      binding = c.self.invariant.binding;
    }
