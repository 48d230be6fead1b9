-- What all accounts of a bag say together.
use Rattle.std.specs.Prelude.{◌≡◌, ℕ, ◌+◌, ◌≤◌, ◌==◌, ◌&&◌, Bool, cond, nat_lt, List, length, count_by, sum_by, slice_get, Some}
use Rattle.std.specs.List.{All, Contains, flat_map}
use Rattle.ready_bag.specs.declared.account.Numbered.{Numbered}
use Rattle.ready_bag.specs.declared.account.Account.{Account}
use Rattle.ready_bag.specs.declared.close.Tally.{Tally}

module _ {T : Type 0} where
  -- what the owner of an account took
  abbrev pub took : Account T → List (Numbered T)
  took account = account.took

  -- how many items were put and taken, by all accounts together
  abbrev pub count_put : List (Account T) → ℕ
  count_put accounts = sum_by (λ a. length a.put) accounts

  -- how many items all accounts took
  abbrev pub count_taken : List (Account T) → ℕ
  count_taken accounts = sum_by (λ a. length a.took) accounts

  -- this put of the owner
  abbrev pub is_put : ℕ → ℕ → Numbered T → Bool
  is_put owner number put = (put.owner == owner) && (put.number == number)

  -- how often the owner's put of this number was taken
  abbrev pub times_taken : List (Account T) → ℕ → ℕ → ℕ
  times_taken accounts owner number = count_by (is_put owner number) (flat_map took accounts)

  -- one of the accounts is the owner's, and has this item as its put of this number
  pub record WasPut (accounts : List (Account T)) (taken : Numbered T) : Type 0 where
    pub account : Account T
    pub here : Contains accounts account
    pub owner : account.owner ≡ taken.owner
    pub item : slice_get account.put taken.number ≡ Some taken.item

  -- of the owner's puts so many were taken, each once, and these are the first ones
  pub record IsFrontTaken (accounts : List (Account T)) (account : Account T) : Type 0 where
    pub count : ℕ
    pub within : count ≤ length account.put
    pub each : (number : ℕ) → times_taken accounts account.owner number ≡ cond (nat_lt number count) 1 0

  -- these accounts are all that there are, and so many items are left in the bag (this project's)
  pub record AreAll (accounts : List (Account T)) (left : ℕ) : Type 0 where
    -- each item taken is the one that its owner put under its number
    pub items : All (WasPut accounts) (flat_map took accounts)
    -- no put is taken twice
    pub once : (owner number : ℕ) → times_taken accounts owner number ≤ 1
    -- what was taken of each owner's puts is a front of them
    pub fronts : All (IsFrontTaken accounts) accounts
    pub sum : count_put accounts ≡ count_taken accounts + left

  -- the tally of these accounts, which are all that there are
  pub record Closes (accounts : List (Account T)) (tally : Tally) : Type 0 where
    pub all : AreAll accounts tally.left
    pub put : tally.put ≡ count_put accounts
    pub taken : tally.taken ≡ count_taken accounts
    pub left : tally.put ≡ tally.taken + tally.left
