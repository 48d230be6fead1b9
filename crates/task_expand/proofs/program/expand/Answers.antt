use Rattle.std.proofs.Common.{◌-◌, ◌∙◌, Ok, sym, ap}
use Rattle.task_unroll.specs.Ranks.{program}
use Rattle.rt_base.specs.declared.data.Program.{Program}
use Rattle.task_expand.proofs.RankChain.{wants_memory, within_is, program_done, program_limited, program_refused}
use Rattle.task_expand.proofs.WholePrograms.{well_formed_of}
use Rattle.task_expand.proofs.program.expand.Goals as goal

pub returns-in-Err-clause-program : goal.returns-in-Err-clause-program
returns-in-Err-clause-program c = λ whole is.
    program_refused whole c.args.ranks c.args.eager c.in-Err.refusal c.requires.some_rank (c.in-Err.ensures.all whole (is ∙ sym c.as_slice-stmts.ensures))

pub returns-then-not-branch-clause-program : goal.returns-then-not-branch-clause-program
returns-then-not-branch-clause-program c = λ whole is.
    program_limited whole c.args.ranks c.args.eager c.in-Ok.all c.requires.some_rank (c.in-Ok.ensures.all whole (is ∙ sym c.as_slice-stmts.ensures))
    (within_is c.in_ok-pieces_within.field-0 _ c.tasks.result.now c.in-Ok.all.last.tasks c.in_ok-pieces_within.ensures c.number.ensures c.tasks.ensures
    ∙ (let no = c.if-not-branch.true in cc))

pub returns-clause-program : goal.returns-clause-program
returns-clause-program c = λ whole is.
    program_done whole c.args.ranks c.args.eager c.in-Ok.all c.requires.some_rank (c.in-Ok.ensures.all whole (is ∙ sym c.as_slice-stmts.ensures))
    (within_is c.in_ok-pieces_within.field-0 _ c.tasks.result.now c.in-Ok.all.last.tasks c.in_ok-pieces_within.ensures c.number.ensures c.tasks.ensures
    ∙ (let yes = c.if-not-branch.false in cc))
    ∙ ap (λ (p : Program). Ok p) (sym c.in_ok-into_program.ensures)

pub returns-clause-well_formed : goal.returns-clause-well_formed
returns-clause-well_formed c = λ whole is nested.
    well_formed_of whole c.args.ranks c.args.eager c.in_ok-into_program.field-0 c.requires.some_rank c.requires.ranks c.requires.eager nested
    (program_done whole c.args.ranks c.args.eager c.in-Ok.all c.requires.some_rank (c.in-Ok.ensures.all whole (is ∙ sym c.as_slice-stmts.ensures))
    (within_is c.in_ok-pieces_within.field-0 _ c.tasks.result.now c.in-Ok.all.last.tasks c.in_ok-pieces_within.ensures c.number.ensures c.tasks.ensures
    ∙ (let yes = c.if-not-branch.false in cc))
    ∙ ap (λ (p : Program). Ok p) (sym c.in_ok-into_program.ensures))

pub returns-in_err-pieces_within-clause-program : goal.returns-in_err-pieces_within-clause-program
returns-in_err-pieces_within-clause-program c = λ whole is.
    wants_memory (λ p. p) c.from_residual-in_err-pieces_within.result (program whole (c.args.ranks - 1) c.args.eager)
    c.from_residual-in_err-pieces_within.ensures

pub returns-in_err-into_program-clause-program : goal.returns-in_err-into_program-clause-program
returns-in_err-into_program-clause-program c = λ whole is.
    wants_memory (λ p. p) c.from_residual-in_err-into_program.result (program whole (c.args.ranks - 1) c.args.eager) c.from_residual-in_err-into_program.ensures
