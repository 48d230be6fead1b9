use Rattle.task_local.proofs.memory.save_regions.Goals as goal

pub put_back_region-requires-clause-lies : goal.put_back_region-requires-clause-lies
put_back_region-requires-clause-lies c = c.requires.inside _ _ c.loop-region-test.true
