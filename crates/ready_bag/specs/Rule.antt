-- The rule of the queue: of what it holds, and of what each pass knows. Clauses cite `Lay`, and the bag's invariant `IsKept`.
use Rattle.std.specs.Prelude.{◌≡◌, ℕ, zero, suc, ◌-◌, ◌^◌, ◌<◌, ◌==◌, min, ◌⊎◌, Bool, true, false, cond, nat_lt, List, [], ◌∷◌, length, map, count_by, sum_by}
use Rattle.std.specs.List.{All}
use Rattle.crossbeam_queue.specs.Fifo.{Pushes, Pops, Learns}
use mathlib.Core.Option.{some}
use lib.ListN.{get_elem?}
use Rattle.ready_bag.specs.declared.counts.Counts.{Counts}
use Rattle.ready_bag.specs.declared.account.Numbered.{Numbered}
use Rattle.ready_bag.specs.declared.account.Account.{Account}
use Rattle.ready_bag.specs.declared.account.Knows.{Knows}
use Rattle.ready_bag.specs.Past.{Past, Leaves, Fits, MayHold, NumbersRise, new_account, with_put, with_taken}

module _ {T : Type 0} where
  -- the first pass, before the accounts are dealt out
  abbrev pub undealt : Knows T
  undealt = record { dealt = false; accounts = [] }

  -- a pass with these accounts in its charge
  abbrev pub in_charge : List (Account T) → Knows T
  in_charge accounts = record { dealt = true; accounts = accounts }

  -- the first account, or one of no owner
  abbrev pub first_of : List (Account T) → Account T
  first_of [] = new_account 0 0
  first_of (account ∷ accounts) = account

  -- the account in the charge of a pass that has one
  abbrev pub account_of : Knows T → Account T
  account_of v = first_of v.accounts

  -- so many new accounts, of this owner and those that follow
  abbrev pub new_accounts : ℕ → ℕ → ℕ → List (Account T)
  new_accounts owners owner zero = []
  new_accounts owners owner (suc n) = new_account owners owner ∷ new_accounts owners (suc owner) n

  -- the pass has one account in its charge
  abbrev pub HasOneAccount : Knows T → Type 0
  HasOneAccount v = v ≡ in_charge (account_of v ∷ [])

  -- puts and takes are counted, up to the last value of 64 bits
  abbrev pub IsCounted : Counts → Account T → Type 0
  IsCounted counts account = (counts.puts ≡ min (length account.put) (2 ^ 64 - 1)) × (counts.takes ≡ min (length account.took) (2 ^ 64 - 1))

  -- the account is this owner's
  abbrev pub is_owner : ℕ → Account T → Bool
  is_owner owner account = owner == account.owner

  -- how many accounts of this owner the pass has
  abbrev pub charge : ℕ → Knows T → ℕ
  charge owner v = count_by (is_owner owner) v.accounts

  -- how many accounts a pass has
  abbrev pub charges : Knows T → ℕ
  charges v = length v.accounts

  -- each account is in the charge of one pass, fits what has happened, and no one else has put or taken
  pub record IsDealt (past : Past T) (owners : ℕ) (items : List T) (views : List (Knows T)) : Type 0 where
    pub leaves : Leaves past items
    pub dealt : (i : ℕ) (v : Knows T) → get_elem? views i ≡ some v → v.dealt ≡ true
    pub fits : (i : ℕ) (v : Knows T) → get_elem? views i ≡ some v → All (λ a. Fits past a × (a.owners ≡ owners)) v.accounts
    pub once : (owner : ℕ) → sum_by (charge owner) views ≡ cond (nat_lt owner owners) 1 0
    pub whole : sum_by charges views ≡ owners
    pub putters : All (λ put. put.owner < owners) past.puts
    pub takers : All (λ taker. taker < owners) past.takers

  -- the rule of the queue: nothing was dealt yet, or each account is in the charge of one pass
  abbrev pub IsRuled : List T → List (Knows T) → Type 0
  IsRuled items views = ((items ≡ []) × (views ≡ undealt ∷ [])) ⊎ ((past : Past T) × (owners : ℕ) × IsDealt past owners items views)

  -- after a put
  abbrev pub Puts : Knows T → T → Knows T → Type 0
  Puts v item w = w ≡ in_charge (map (with_put item) v.accounts)

  -- after a take: some owner had put the item under some number
  abbrev pub Takes : Knows T → T → Knows T → Type 0
  Takes v item w = (taken : Numbered T) × (taken.item ≡ item) × (w ≡ in_charge (map (with_taken taken) v.accounts)) × All (λ a. NumbersRise a.took) w.accounts

module _ {T : Type 0} (holds : List T → List (Knows T) → Type 0) where
  -- puts and takes keep this rule of a queue, and what it tells a pass with one account may have lain there for all that the account tells. Nothing
  -- here or in the bag's invariant tells of another pass: by that a body could show a full or an empty queue without a step on it
  pub record IsKept : Type 0 where
    pub puts : (capacity port : ℕ) (account : Account T) (item : T) →
        Pushes holds capacity port (in_charge (account ∷ [])) item (Puts (in_charge (account ∷ [])) item)
    pub takes : (port : ℕ) (account : Account T) → Pops holds port (in_charge (account ∷ [])) (Takes (in_charge (account ∷ [])))
    pub tells : (port : ℕ) (account : Account T) → Learns holds port (in_charge (account ∷ [])) (MayHold account)

  -- these items lay in the queue at a step of a pass with this account: the queue's rule says so; and they may have, for all that the account tells
  pub record Lay (account : Account T) (items : List T) : Type 0 where
    pub views : List (Knows T)
    pub port : ℕ
    pub told : holds items views
    pub own : get_elem? views port ≡ some (in_charge (account ∷ []))
    pub may : MayHold account items
