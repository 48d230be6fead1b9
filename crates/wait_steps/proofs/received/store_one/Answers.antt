use Rattle.std.proofs.Common.{subst, sym, ◌∙◌}
use Rattle.rt_base.specs.WellFormed.{WellFormed}
use Rattle.wait_steps.proofs.Handles.{span_declared, cells_fit}
use Rattle.wait_steps.proofs.received.store_one.Goals as goal

pub store-requires-clause-declared : goal.store-requires-clause-declared
store-requires-clause-declared c =
    let of_program = c.requires.of_program in
    span_declared c.args.engine.now.program c.args.rec.now (record { task = c.task.result; nth = c.in-Nth.nth }) c.span.result
    (subst WellFormed of_program c.requires.well_formed) (sym of_program ∙ c.requires.same) c.task.ensures c.span.ensures

pub store-requires-clause-fits : goal.store-requires-clause-fits
store-requires-clause-fits c =
    rw c.cells.ensures
    (cells_fit c.args.engine.now.program c.args.engine.now.exchange (record { task = c.task.result; nth = c.in-Nth.nth }) c.span.result c.span.ensures)
