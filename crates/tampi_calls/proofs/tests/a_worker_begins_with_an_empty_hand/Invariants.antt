use Rattle.std.specs.Prelude.{◌+◌}
use Rattle.shared_tasks.specs.Names.{no_program, no_table}
use Rattle.tampi_calls.proofs.tests.a_worker_begins_with_an_empty_hand.Given as goal

abbrev pub ghosts-begun-K-Run : goal.ghosts-begun-K-Run
ghosts-begun-K-Run g a = record { program = no_program; workers = a.pass.caller + 1; passes = a.pass.table }

abbrev pub ghosts-begun-H-Site : goal.ghosts-begun-H-Site
ghosts-begun-H-Site g a = record { hall = no_table }
