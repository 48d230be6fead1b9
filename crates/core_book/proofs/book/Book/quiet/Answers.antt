-- No task may move exactly where none waits for nothing and none is startable.
use Rattle.rt_base.specs.declared.data.Program.{Program}
use Rattle.rt_base.specs.declared.data.Entry.{Entry}
use Rattle.std.specs.Prelude.{List}
use Rattle.task_machine.specs.Legal.{final, IsQuiet}
use Rattle.core_book.proofs.Insides.{parts_of}
use Rattle.book_parts.proofs.Held.{own, theirs}
use Rattle.book_parts.proofs.BookLemmas.{may_be_handed, startable_here}
use Rattle.book_parts.proofs.Figured.{kept_figures}
use Rattle.book_counts.proofs.Quiet.{quiet_if, none_counted, none_left}
use Rattle.core_book.proofs.book.Book.quiet.Goals as goal

-- a state of the program is quiet
abbrev Quiet : Program → List Entry → Type 0
Quiet p es = IsQuiet p (final p es)

pub returns-then-none_zero : goal.returns-then-none_zero
returns-then-none_zero c =
    let s = parts_of c.self.inside in (
      λ yes. theirs Quiet s c.args.self.now c.args.prog.now c.self.view_is c.requires.same
          (quiet_if (kept_figures {parts = s} c.self.invariant) (c.none_zero.ensures.0 c.if-none_zero.true)
          (λ t may. c.none_startable.ensures.0 yes t (startable_here s t c.self.invariant.kept may))),
      λ quiet. c.none_startable.ensures.1 (λ t startable.
          none_left (kept_figures {parts = s} c.self.invariant) (own Quiet s c.args.self.now c.args.prog.now c.self.view_is c.requires.same quiet) t
          (may_be_handed s t c.self.invariant.kept startable)),
    )

pub returns-else-none_zero : goal.returns-else-none_zero
returns-else-none_zero c =
    let s = parts_of c.self.inside in (
      λ yes. absurd (cc yes),
      λ quiet. absurd (cc (
        c.if-none_zero.false,
        c.none_zero.ensures.1 (none_counted (kept_figures {parts = s} c.self.invariant)
            (own Quiet s c.args.self.now c.args.prog.now c.self.view_is c.requires.same quiet)),
      )),
    )
