-- What a worker without work is told holds of the list that its pass has seen.
use Rattle.std.proofs.Common.{◌≡◌, true, sym, ◌∙◌, subst}
use Rattle.rt_base.specs.declared.data.Program.{Program}
use Rattle.task_machine.specs.Legal.{IsQuiet, final}
use Rattle.pass_table.specs.Passes.{PassIs}
use Rattle.listed_book.specs.Replies.{IsIdle}
use Rattle.listed_book.specs.declared.replies.Idle.TheVariants as idle
use Rattle.listed_book.proofs.Insides.{insides_of}
use Rattle.listed_book.proofs.Looking.{state_looked, stopped_looked}
use Rattle.listed_book.proofs.listed.ListedBook.idle.Goals as goal

pub returns-then-quiet-clause-idle : goal.returns-then-quiet-clause-idle
returns-then-quiet-clause-idle c =
    let now = state_looked (insides_of c.self.inside) c.args.self.now c.look-pass.new.self c.args.pass c.look-pass.result c.self.invariant c.self.view_is
    c.look-pass.ensures c.args.prog.now c.requires.same in
    let stops = stopped_looked (insides_of c.self.inside) c.args.self.now c.look-pass.new.self c.args.pass c.look-pass.result c.self.invariant c.self.view_is
    c.look-pass.ensures in
    subst (λ (pass : PassIs). IsIdle c.args.self.now.program pass (idle.Quiet c.note-pass-then-quiet.result.1)) (sym c.note-pass-then-quiet.ensures.pass) (
      sym stops ∙ c.if-self.false,
      subst (IsQuiet c.args.self.now.program) now
          (subst (λ (p : Program). IsQuiet p (final c.args.prog.now c.self.inside.book.history)) c.requires.same (c.quiet.ensures.0 c.if-quiet.true)),
      c.note-pass-then-quiet.ensures.note,
    )

pub returns-clause-idle : goal.returns-clause-idle
returns-clause-idle c =
    let now = state_looked (insides_of c.self.inside) c.args.self.now c.look-pass.new.self c.args.pass c.look-pass.result c.self.invariant c.self.view_is
    c.look-pass.ensures c.args.prog.now c.requires.same in
    let stops = stopped_looked (insides_of c.self.inside) c.args.self.now c.look-pass.new.self c.args.pass c.look-pass.result c.self.invariant c.self.view_is
    c.look-pass.ensures in (
      sym stops ∙ c.if-self.false,
      λ quiet.
          let is : c.quiet.result ≡ true =
          c.quiet.ensures.1 (subst (λ (p : Program). IsQuiet p (final c.args.prog.now c.self.inside.book.history)) (sym c.requires.same)
          (subst (IsQuiet c.args.self.now.program) (sym now) quiet)) in
          absurd (cc (is, c.if-quiet.false)),
    )
