-- Where a party of a meeting stands, with the seat that it belongs to. No public clause cites this module.
use Rattle.std.specs.Prelude.{ℕ, ◌+◌, zero, suc, Option, None, Some}

-- where a party of a meeting stands (this project's)
pub data Party : Type 0 where
  -- not of this round; its slot is empty
  idle : Party
  -- not of this round; its slot has a note of an earlier one
  kept : Party
  -- has not come, and belongs to this seat; its slot is empty
  waits : ℕ → Party
  -- has not come, and belongs to this seat, with which its slot is out
  puts : ℕ → Party
  -- has come; its slot has what it brought
  came : Party
  -- the holder of a round that is over: it has come, and this seat is the last, which has not taken the record
  shut : ℕ → Party
  -- the slot is out with this seat: the record's with the last, or a note's with the holder
  out : ℕ → Party

-- 1 for a party that has not come
abbrev pub due : Party → ℕ
due idle = 0
due kept = 0
due (waits i) = 1
due (puts i) = 1
due came = 0
due (shut i) = 0
due (out i) = 0

-- 1 for a ticket of this round
abbrev pub live : Party → ℕ
live idle = 0
live kept = 0
live (waits i) = 1
live (puts i) = 1
live came = 1
live (shut i) = 0
live (out i) = 0

-- 1 for a note that is left of an earlier round
abbrev pub stale : Party → ℕ
stale idle = 0
stale kept = 1
stale (waits i) = 0
stale (puts i) = 0
stale came = 0
stale (shut i) = 0
stale (out i) = 0

-- 1 for a note that is out with its holder
abbrev pub gone : Party → ℕ
gone idle = 0
gone kept = 0
gone (waits i) = 0
gone (puts i) = 0
gone came = 0
gone (shut i) = 1
gone (out i) = 1

-- 1 for a ticket that has come in this round
abbrev pub ticket_come : Party → ℕ
ticket_come idle = 0
ticket_come kept = 0
ticket_come (waits i) = 0
ticket_come (puts i) = 0
ticket_come came = 1
ticket_come (shut i) = 0
ticket_come (out i) = 0

-- the seat that a party belongs to, or that has its slot out
abbrev pub owner : Party → Option ℕ
owner idle = None
owner kept = None
owner (waits i) = Some i
owner (puts i) = Some i
owner came = None
owner (shut i) = Some i
owner (out i) = Some i

-- how many of the first tickets have not come
abbrev pub dues : (ℕ → Party) → ℕ → ℕ
dues ticket zero = 0
dues ticket (suc n) = due (ticket n) + dues ticket n
