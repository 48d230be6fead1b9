-- The number that goes into the list is named anew for each call.
use Rattle.pass_table.proofs.table.PassTable.append.Given as goal

abbrev pub ghosts-append_as : goal.ghosts-append_as
ghosts-append_as a = record { what = a.what }
