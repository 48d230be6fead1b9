-- The table that was just built is the one that is named.
use Rattle.pass_table.proofs.tests.the_list_grows_by_one_for_each_step_of_each_thread.Given as goal

abbrev pub ghosts-work_side_by_side : goal.ghosts-work_side_by_side
ghosts-work_side_by_side g a = record { table = a.table.now }
