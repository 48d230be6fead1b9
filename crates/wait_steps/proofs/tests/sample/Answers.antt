use Rattle.wait_steps.proofs.Samples.{sample_is_well_formed, inner_is_declared}
use Rattle.wait_steps.proofs.tests.sample.Goals as goal

pub returns-clause-well_formed : goal.returns-clause-well_formed
returns-clause-well_formed c =
    sample_is_well_formed c.in_ok-program.program c.in_ok-task.task (record {
      ranks = c.in_ok-program.ensures.ranks;
      eager = c.in_ok-program.ensures.eager;
      comms = c.in_ok-program.ensures.comms;
      names = c.in_ok-program.ensures.names;
      lens = c.in_ok-program.ensures.lens;
      starts = c.in_ok-program.ensures.starts;
      shows = c.in_ok-program.ensures.shows;
      tasks = c.in_ok-program.ensures.tasks;
      rank = c.in_ok-task.ensures.rank;
      accesses = c.in_ok-task.ensures.accesses;
      body = c.in_ok-task.ensures.body;
    })

pub returns-clause-declared : goal.returns-clause-declared
returns-clause-declared c =
    inner_is_declared c.in_ok-program.program c.in_ok-task.task c.in_ok-program.ensures.tasks c.in_ok-task.ensures.accesses
