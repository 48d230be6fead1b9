-- Where the unrolling of a text stands (this project's).
use Rattle.std.specs.Prelude.{ℕ, Bool, false, List, []}
use Rattle.rt_base.specs.declared.data.Access.{Access}
use Rattle.rt_base.specs.declared.data.Op.{Op}
use Rattle.rt_base.specs.declared.data.TaskDef.{TaskDef}
use Rattle.task_names.specs.Scopes.{Names}
use Rattle.task_names.specs.Values.{Scene}

-- the quantities that have a limit and are counted over all ranks
pub record Counts : Type 0 where
  pub steps : ℕ
  pub operations : ℕ
  pub requests : ℕ
  pub handles : ℕ
  pub cells : ℕ
  pub accesses : ℕ
  pub access_cells : ℕ
  pub message_cells : ℕ

-- the counts before the first rank
abbrev pub nothing_counted : Counts
nothing_counted = record { steps = 0; operations = 0; requests = 0; handles = 0; cells = 0; accesses = 0; access_cells = 0; message_cells = 0 }

-- of all ranks: what was counted, and the tasks so far. Of the rank that is unrolled: its number among how many, its names,
-- the names and lengths of its arrays by number, the shown arrays, its communicators with world, and its taskwaits so far.
-- Whether a task is open, and of that task: its accesses, its operations, and the line of each of its postings
pub record State : Type 0 where
  pub counts : Counts
  pub tasks : List TaskDef
  pub rank : ℕ
  pub size : ℕ
  pub names : Names
  pub before : Names
  pub arrays : List (List ℕ)
  pub lens : List ℕ
  pub shows : List ℕ
  pub comms : ℕ
  pub epoch : ℕ
  pub in_task : Bool
  pub accesses : List Access
  pub body : List Op
  pub lines : List ℕ

-- where the expressions of a statement are evaluated
abbrev pub scene : State → Scene
scene s = record { names = s.names; rank = s.rank; size = s.size }

-- before the first statement of a rank: nothing is known of it, and nothing of the ranks before is lost
abbrev pub begun : Counts → List TaskDef → ℕ → ℕ → State
begun counts tasks rank size = record {
  counts = counts;
  tasks = tasks;
  rank = rank;
  size = size;
  names = [];
  before = [];
  arrays = [];
  lens = [];
  shows = [];
  comms = 1;
  epoch = 0;
  in_task = false;
  accesses = [];
  body = [];
  lines = [];
}
