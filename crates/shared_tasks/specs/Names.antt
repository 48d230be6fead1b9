-- What stands for a name that no call has picked.
use Rattle.std.specs.Prelude.{[]}
use Rattle.rt_base.specs.declared.data.Program.{Program}
use Rattle.rt_base.specs.Listing.{Listing}
use Rattle.pass_table.specs.Passes.{TableId}

-- the name that no table has
abbrev pub no_table : TableId
no_table = record { words = 0; slots = 0; views_name = 0; atom = 0; block = 0; offset = 0; slot_names = [] }

-- the program without ranks, arrays and tasks
abbrev pub no_program : Program
no_program = record {
  ranks = 0;
  eager = 0;
  comms = 0;
  names = record { items = []; room = 0 };
  lens = record { items = []; room = 0 };
  starts = record { items = []; room = 0 };
  shows = record { items = []; room = 0 };
  tasks = record { items = []; room = 0 };
}
