-- What contracts see of the counts.
use Rattle.task_unroll.specs.declared.state.Counts.{Counts as Kept}
use Rattle.task_unroll.specs.States.{Counts}

-- each count, as it is kept
abbrev pub counts_of : Kept → Counts
counts_of c = record {
  steps = c.steps;
  operations = c.operations;
  requests = c.requests;
  handles = c.handles;
  cells = c.cells;
  accesses = c.accesses;
  access_cells = c.access_cells;
  message_cells = c.message_cells;
}
