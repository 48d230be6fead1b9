use Rattle.call_words.proofs.options.OptionName.row.Goals as goal

pub returns-in-Ranks : goal.returns-in-Ranks
returns-in-Ranks c = rw c.in-Ranks.is c.number.ensures

pub returns-in-Eager : goal.returns-in-Eager
returns-in-Eager c = rw c.in-Eager.is c.number-in-Eager.ensures

pub returns-in-Trace : goal.returns-in-Trace
returns-in-Trace c = rw c.in-Trace.is c.flag.ensures

pub returns-in-Seed : goal.returns-in-Seed
returns-in-Seed c = rw c.in-Seed.is c.number-in-Seed.ensures

pub returns-in-Blocks : goal.returns-in-Blocks
returns-in-Blocks c = rw c.in-Blocks.is c.number-in-Blocks.ensures

pub returns-in-Cells : goal.returns-in-Cells
returns-in-Cells c = rw c.in-Cells.is c.number-in-Cells.ensures

pub returns-in-Steps : goal.returns-in-Steps
returns-in-Steps c = rw c.in-Steps.is c.number-in-Steps.ensures
