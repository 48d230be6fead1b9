-- What the pairs of a list of steps stand for, where the steps are those of the machine and of its pollers.
use Rattle.std.specs.Prelude.{ℕ, zero, suc, ◌+◌, nat_lt, nat_eq, Bool, List, [], ◌∷◌, length, if◌then◌else◌}
use Rattle.rt_base.specs.declared.data.ReqNo.{ReqNo}
use Rattle.rt_base.specs.declared.data.Program.{Program}
use Rattle.rt_base.specs.State.{State, opening}
use Rattle.task_machine.specs.Legal.{state_of}
use Rattle.task_machine.specs.Owed.{opened_after}

-- what a caller has done: its step of the machine, the offer of a task to a worker, a look that changes nothing, or the one request to stop;
-- `Nothing` stands for numbers that no pair has (this project's)
pub data Deed : Type 0 where
  Move : Deed
  Offer : ℕ → Deed
  Look : Deed
  Stop : Deed
  Nothing : Deed

-- what the number of a pair stands for among so many tasks: 0 a step, t + 1 the offer of task t, and behind the tasks a look and a stop
abbrev pub deed : ℕ → ℕ → Deed
deed tasks zero = Move
deed tasks (suc t) =
    if nat_lt t tasks then Offer t
    else if nat_eq t tasks then Look
    else if nat_eq t (tasks + 1) then Stop
    else Nothing

-- the number of a look, and that of a stop
abbrev pub look_number : Program → ℕ
look_number program = length program.tasks.items + 1

-- the number that stands for a stop: behind the offers of the tasks and a look
abbrev pub stop_number : Program → ℕ
stop_number program = length program.tasks.items + 2

-- the callers of the list's steps, in order
abbrev pub moves : List (ℕ × ℕ) → List ℕ
moves [] = []
moves ((caller, zero) ∷ pairs) = caller ∷ moves pairs
moves ((caller, suc number) ∷ pairs) = moves pairs

-- how many pairs of the list have this number
abbrev pub how_many : ℕ → List (ℕ × ℕ) → ℕ
how_many number [] = 0
how_many number (pair ∷ pairs) = (if nat_eq pair.1 number then 1 else 0) + how_many number pairs

-- the machine's state after the steps of the list, from the opening on (transition systems)
abbrev pub state_seen : Program → List (ℕ × ℕ) → State
state_seen program pairs = state_of program (moves pairs)

-- the requests that the last move of the list opened, none before the first one
abbrev pub opened_seen : Program → List (ℕ × ℕ) → List ReqNo
opened_seen program pairs = opened_after program (opening program) [] (moves pairs)

-- the list has an offer of the task
abbrev pub is_offered : ℕ → List (ℕ × ℕ) → Bool
is_offered t pairs = nat_lt 0 (how_many (t + 1) pairs)

-- how many looks the list has
abbrev pub looks : Program → List (ℕ × ℕ) → ℕ
looks program pairs = how_many (look_number program) pairs

-- the list has a stop
abbrev pub is_stopped : Program → List (ℕ × ℕ) → Bool
is_stopped program pairs = nat_lt 0 (how_many (stop_number program) pairs)
