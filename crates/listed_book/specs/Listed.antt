-- What contracts see of a book with its list, and what each call makes of it.
use Rattle.std.specs.Prelude.{◌≡◌, ◌⊎◌, ℕ, ◌^◌, true, List, [], ◌∷◌, ◌++◌}
use Rattle.rt_base.specs.declared.data.Program.{Program}
use Rattle.rt_base.specs.State.{State}
use Rattle.rt_base.specs.MayMove.{MayMove}
use Rattle.task_local.specs.StandsFor.{Record}
use Rattle.task_machine.specs.Machine.{move}
use Rattle.task_machine.specs.Owed.{opened}
use Rattle.book_parts.specs.Ledger.{record_after}
use Rattle.pass_table.specs.Passes.{TableId, PassIs}
use Rattle.shared_lists.specs.Deeds.{state_seen, opened_seen, looks, is_stopped, look_number, stop_number}
use Rattle.shared_lists.specs.Said.{IsStill, Does, CatchesUp, IsLiveTask}

-- a book with its list: the program and the number of workers for which it was built, the table of its passes, and the list of all that was done to it,
-- from which everything else follows
pub record BookIs : Type 0 where
  pub program : Program
  pub workers : ℕ
  pub table : TableId
  pub seen : List (ℕ × ℕ)

-- the same with one pair more at the end of its list
abbrev pub with_pair : BookIs → ℕ → ℕ → BookIs
with_pair book caller number = record book { seen = book.seen ++ (caller, number) ∷ [] }

-- the machine's state after the steps of the book's list
abbrev pub state_in : BookIs → State
state_in book = state_seen book.program book.seen

-- the call has put one pair of its caller at the end of the book's list, with this number, and has changed nothing else; its pass has seen the whole list,
-- and before the call what others had done since it was seen last is what the call says
pub record Adds (old new : BookIs) (before after : PassIs) (number : ℕ) : Type 0 where
  pub does : Does old.program old.workers before after number
  pub book : new ≡ with_pair old before.caller number
  pub whole : after.seen ≡ new.seen
  pub since : old.seen ≡ before.seen ++ does.since

-- the call has changed nothing, and its pass has seen the whole list
pub record Stays (old new : BookIs) (before after : PassIs) : Type 0 where
  pub catches : CatchesUp old.program old.workers before after
  pub book : new ≡ old
  pub whole : after.seen ≡ new.seen

-- the call is a look: it stands last in the list, or is left out where the list has as many looks as it may have
abbrev pub LooksAt : BookIs → BookIs → PassIs → PassIs → Type 0
LooksAt old new before after =
    Adds old new before after (look_number old.program) ⊎ (Stays old new before after × (looks old.program new.seen ≡ 2 ^ 63))

-- after the call a stop stands in the list: its own, which stands last, or an earlier one
abbrev pub StopsAt : BookIs → BookIs → PassIs → PassIs → Type 0
StopsAt old new before after =
    Adds old new before after (stop_number old.program) ⊎ (Stays old new before after × (is_stopped old.program new.seen ≡ true))

-- the task of the pass has made its move, which it might make: nothing was taken from it since the pass had seen the list; what the move opened is what
-- the list opened last; and its record stands for it, with what the move stored and before the local operations that come next
pub record MovesTask (old new : BookIs) (before after : PassIs) (held left : Record) : Type 0 where
  pub adds : Adds old new before after 0
  pub still : IsStill old.program before.caller (state_seen old.program before.seen) (state_in old)
  pub may : MayMove old.program (state_in old) before.caller
  pub state : state_in new ≡ (move old.program (state_in old) before.caller).state
  pub opens : opened_seen old.program new.seen ≡ opened old.program (state_in old) before.caller
  pub live : IsLiveTask old.program old.workers old.table left after
  pub record_is : left ≡ record_after old.program (state_in old) held
