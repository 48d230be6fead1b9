-- The program of a text: its ranks one after the other, and then the limit on pieces (this project's).
use Rattle.std.specs.Prelude.{ℕ, zero, suc, ◌+◌, List, [], ◌++◌, Result, Ok, Err}
use Rattle.rt_base.specs.declared.data.Program.{Program}
use Rattle.rt_base.specs.declared.data.LimitName.TheVariants as limit
use Rattle.rt_base.specs.Pieces.{pieces}
use Rattle.rt_base.specs.Layout.{starts_from}
use Rattle.task_tree.specs.Blocks.{Block}
use Rattle.task_unroll.specs.declared.refusal.ExpandRefusal.{ExpandRefusal}
use Rattle.task_unroll.specs.Unrolling.{◌>>=◌}
use Rattle.task_unroll.specs.States.{State, begun, nothing_counted}
use Rattle.task_unroll.specs.Counting.{kept}
use Rattle.task_unroll.specs.Acts.{listed}
use Rattle.task_unroll.specs.Blocks.{unrolled}

-- the lengths of the arrays of all ranks so far, and what the last rank left
pub record Ranks : Type 0 where
  pub lens : List ℕ
  pub last : State

-- one more rank
abbrev pub next_rank : Block → Ranks → Result Ranks ExpandRefusal
next_rank whole r =
    unrolled whole (begun r.last.counts r.last.tasks (r.last.rank + 1) r.last.size) >>= λ s. Ok (record { lens = r.lens ++ s.lens; last = s })

-- so many ranks more
abbrev pub more_ranks : Block → ℕ → Ranks → Result Ranks ExpandRefusal
more_ranks whole zero r = Ok r
more_ranks whole (suc n) r = next_rank whole r >>= more_ranks whole n

-- rank 0
abbrev pub first_rank : Block → ℕ → Result Ranks ExpandRefusal
first_rank whole size = unrolled whole (begun nothing_counted [] 0 size) >>= λ s. Ok (record { lens = s.lens; last = s })

-- the program that the ranks leave. Arrays, communicators and shows are made outside every block, so that they are the same on each rank but for lengths
abbrev pub program_of : ℕ → Ranks → Program
program_of eager r = record {
  ranks = r.last.size;
  eager = eager;
  comms = r.last.comms;
  names = listed r.last.arrays;
  lens = listed r.lens;
  starts = listed (starts_from 0 r.lens);
  shows = listed r.last.shows;
  tasks = listed r.last.tasks;
}

-- the program of a text for this many ranks more than one, or the first fault or limit
unfoldable pub program : Block → ℕ → ℕ → Result Program ExpandRefusal
program whole more eager = do
  first ← first_rank whole (suc more)
  all ← more_ranks whole more first
  count ← kept limit.Pieces (pieces all.last.tasks)
  Ok (program_of eager all)
