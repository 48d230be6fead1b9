use Rattle.std.proofs.Common.{[], ◌∷◌, ap, ap₂, ◌∙◌}
use Rattle.rt_base.specs.declared.data.Op.{Op}
use Rattle.task_local.proofs.Samples.{sample_is_well_formed, third_declares}
use Rattle.task_local.proofs.tests.sample.Goals as goal

pub returns-clause-well_formed : goal.returns-clause-well_formed
returns-clause-well_formed c =
    sample_is_well_formed c.in_ok-program.program c.in_ok-first.first c.in_ok-second.second c.in_ok-third.third (record {
      ranks = c.in_ok-program.ensures.ranks;
      eager = c.in_ok-program.ensures.eager;
      comms = c.in_ok-program.ensures.comms;
      names = c.in_ok-program.ensures.names;
      lens = c.in_ok-program.ensures.lens;
      starts = c.in_ok-program.ensures.starts;
      shows = c.in_ok-program.ensures.shows;
      tasks = c.in_ok-program.ensures.tasks ∙ c.in_ok-vec-4.ensures.items;
      is_first = record {
        rank = c.in_ok-first.ensures.rank;
        epoch = c.in_ok-first.ensures.epoch;
        accesses = c.in_ok-first.ensures.accesses;
        operations = c.in_ok-first.ensures.body ∙ c.in_ok-vec.ensures.items ∙ ap (λ (o : Op). o ∷ []) c.ramp.ensures;
      };
      is_second = record {
        rank = c.in_ok-second.ensures.rank;
        epoch = c.in_ok-second.ensures.epoch;
        accesses = c.in_ok-second.ensures.accesses;
        operations = c.in_ok-second.ensures.body ∙ c.in_ok-vec-2.ensures.items
            ∙ ap₂ (λ (o other : Op). o ∷ other ∷ []) c.shared_copy.ensures c.fill_of_no_cell.ensures;
      };
      is_third = record {
        rank = c.in_ok-third.ensures.rank;
        epoch = c.in_ok-third.ensures.epoch;
        accesses = c.in_ok-third.ensures.accesses;
        operations = c.in_ok-third.ensures.body ∙ c.in_ok-vec-3.ensures.items ∙ ap (λ (o : Op). o ∷ []) c.send.ensures;
      };
    })

pub returns-clause-declared : goal.returns-clause-declared
returns-clause-declared c =
    third_declares c.in_ok-program.program.tasks.items c.in_ok-first.first c.in_ok-second.second c.in_ok-third.third
    (c.in_ok-program.ensures.tasks ∙ c.in_ok-vec-4.ensures.items) c.in_ok-third.ensures.accesses
