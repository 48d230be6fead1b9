use Rattle.std.proofs.Common.{ℕ, sym, ap, ◌∙◌, subst}
use mathlib.Core.List.{IsPrefix}
use Rattle.rt_base.specs.declared.data.Program.{Program}
use Rattle.task_machine.specs.Legal.{callers, final, phases_of, IsLegal, IsQuiet}
use Rattle.shared_lists.specs.Deeds.{moves, state_seen}
use Rattle.shared_book.proofs.section.Section.finish.Goals as goal

pub returns-clause-legal : goal.returns-clause-legal
returns-clause-legal g c =
    let end = c.finish.result.history in
    subst (λ (q : Program). IsLegal q g.K.Run.workers end.entries.items end.statuses.items) c.self.invariant.program_is
    (subst (λ (w : ℕ). IsLegal c.self.inside.book.program w end.entries.items end.statuses.items) c.self.invariant.workers_is c.finish.ensures.legal)

pub returns-clause-begins : goal.returns-clause-begins
returns-clause-begins g c =
    let end = c.finish.result.history.entries.items in
    subst (IsPrefix (moves c.args.note.seen))
    (sym c.finish.ensures.callers ∙ ap (λ (q : Program). callers q end) c.self.invariant.program_is) c.finish.ensures.begins

pub returns-clause-quiet : goal.returns-clause-quiet
returns-clause-quiet g c =
    let end = c.finish.result.history.entries.items in
    subst (λ (q : Program). IsQuiet q (state_seen q c.args.note.seen) → IsQuiet q (final q end)) c.self.invariant.program_is c.finish.ensures.quiet

pub returns-clause-cells : goal.returns-clause-cells
returns-clause-cells g c =
    let end = c.finish.result.history.entries.items in
    c.finish.ensures.cells ∙ ap (λ (q : Program). (final q end).memory) c.self.invariant.program_is

pub returns-clause-phases : goal.returns-clause-phases
returns-clause-phases g c =
    let end = c.finish.result.history.entries.items in
    c.finish.ensures.phases ∙ ap (λ (q : Program). phases_of (final q end).tasks) c.self.invariant.program_is
