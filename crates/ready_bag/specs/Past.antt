-- What has happened to a bag, or to one part of it, that gives its items first in first out.
use Rattle.std.specs.Prelude.{◌≡◌, ℕ, ◌<◌, ◌≤◌, ◌==◌, Bool, cond, List, [], ◌∷◌, ◌++◌, length, map, filter, drop, count_by}
use Rattle.std.specs.List.{All, AllPairs}
use Rattle.ready_bag.specs.declared.account.Numbered.{Numbered}
use Rattle.ready_bag.specs.declared.account.Account.{Account}

-- all puts in the order in which they came, and who took the first of these, in that order (this project's)
pub record Past (T : Type 0) : Type 0 where
  pub puts : List (Numbered T)
  pub takers : List ℕ

module _ {T : Type 0} where
  -- the item of a numbered put
  abbrev pub item : Numbered T → T
  item put = put.item

  -- it was put by this owner
  abbrev pub is_of : ℕ → Numbered T → Bool
  is_of owner put = put.owner == owner

  -- the items that this owner put, in order
  abbrev pub put_by : ℕ → List (Numbered T) → List T
  put_by owner puts = map item (filter (is_of owner) puts)

  -- of these puts, and these takers of the first of them, the ones that this owner took
  abbrev pub taken_by : ℕ → List ℕ → List (Numbered T) → List (Numbered T)
  taken_by owner [] puts = []
  taken_by owner (taker ∷ takers) [] = []
  taken_by owner (taker ∷ takers) (put ∷ puts) = cond (taker == owner) (put ∷ taken_by owner takers puts) (taken_by owner takers puts)

  -- behind these puts, each one's number is how many its owner had put before it
  abbrev pub AreNumbered : List (Numbered T) → List (Numbered T) → Type 0
  AreNumbered before [] = Unit {0}
  AreNumbered before (put ∷ puts) = (put.number ≡ count_by (is_of put.owner) before) × AreNumbered (before ++ put ∷ []) puts

  -- what was put and not taken lies in the bag, oldest first
  pub record Leaves (past : Past T) (items : List T) : Type 0 where
    pub short : length past.takers ≤ length past.puts
    pub numbered : AreNumbered [] past.puts
    pub left : map item (drop (length past.takers) past.puts) ≡ items

  -- the account has what its owner put and took
  pub record Fits (past : Past T) (account : Account T) : Type 0 where
    pub put : account.put ≡ put_by account.owner past.puts
    pub took : account.took ≡ taken_by account.owner past.takers past.puts

  -- these items may have lain in the bag, for all that the account tells
  pub record MayHold (account : Account T) (items : List T) : Type 0 where
    pub past : Past T
    pub leaves : Leaves past items
    pub fits : Fits past account
    -- no one but the owners has put or taken
    pub putters : All (λ put. put.owner < account.owners) past.puts
    pub takers : All (λ taker. taker < account.owners) past.takers

  -- of two items of one owner the later has the greater number
  abbrev pub NumbersRise : List (Numbered T) → Type 0
  NumbersRise took = AllPairs (λ earlier later. earlier.owner ≡ later.owner → earlier.number < later.number) took

  -- an owner that has put and taken nothing
  abbrev pub new_account : ℕ → ℕ → Account T
  new_account owners owner = record { owner = owner; owners = owners; put = []; took = [] }

  -- the account after a put
  abbrev pub with_put : T → Account T → Account T
  with_put item account = record { owner = account.owner; owners = account.owners; put = account.put ++ item ∷ []; took = account.took }

  -- the account after a take
  abbrev pub with_taken : Numbered T → Account T → Account T
  with_taken taken account = record { owner = account.owner; owners = account.owners; put = account.put; took = account.took ++ taken ∷ [] }

  -- the owner took this item, under the number that it was put under; of two that it took of one owner the later has the greater number
  pub record HasTaken (before now : Account T) (item : T) : Type 0 where
    pub taken : Numbered T
    pub is_item : taken.item ≡ item
    pub account : now ≡ with_taken taken before
    pub rise : NumbersRise now.took
