-- What contracts see of a bag over a queue and of its passes.
use Rattle.std.specs.Prelude.{◌≡◌, ℕ, zero, suc, List, [], ◌∷◌, ◌++◌}
use Rattle.atomic_table.specs.Seated.{TableId}
use Rattle.crossbeam_queue.specs.Fifo.{Held}
use Rattle.ready_bag.specs.declared.account.Account.{Account}
use Rattle.ready_bag.specs.declared.counts.Counts.{Counts}
use Rattle.ready_bag.specs.Counts.{no_counts}
use Rattle.ready_bag.specs.declared.account.Knows.{Knows}
use Rattle.ready_bag.specs.Past.{new_account}
use Rattle.ready_bag.specs.Rule.{Lay}

-- which queue it is, how many items it can hold, and how many passes were made with it (this project's)
pub record BagIs : Type 0 where
  pub table : TableId
  pub capacity : ℕ
  pub workers : ℕ

-- whose pass it is of which queue, what that worker put and took, and a count for each answer to its calls
pub record PassIs (T : Type 0) : Type 0 where
  pub table : TableId
  pub account : Account T
  pub counts : Counts

module _ {T : Type 0} where
  -- what a pass put and took
  abbrev pub account : PassIs T → Account T
  account pass = pass.account

  -- the pass was made with this bag
  pub record IsPassOfBag (pass : PassIs T) (bag : BagIs) : Type 0 where
    pub table : pass.table ≡ bag.table
    pub workers : pass.account.owners ≡ bag.workers

  -- the queue held its capacity at a step of this pass with this account: the queue's rule says so, and these items fit the account
  abbrev pub HeldAll : (List T → List (Knows T) → Type 0) → BagIs → PassIs T → Type 0
  HeldAll rule bag pass = Held bag.capacity (Lay rule pass.account)

  -- the queue held nothing at a step of this pass with this account, which its rule says
  abbrev pub HeldNone : (List T → List (Knows T) → Type 0) → PassIs T → Type 0
  HeldNone rule pass = Held 0 (Lay rule pass.account)

  -- the pass of this worker, which has put and taken nothing
  abbrev pub new_pass : BagIs → ℕ → PassIs T
  new_pass bag worker = record { table = bag.table; account = new_account bag.workers worker; counts = no_counts }

  -- the passes of the first workers, in order
  abbrev pub new_passes : BagIs → ℕ → List (PassIs T)
  new_passes bag zero = []
  new_passes bag (suc n) = new_passes bag n ++ new_pass bag n ∷ []
