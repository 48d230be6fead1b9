-- What the engine keeps true of its parts. No public clause cites this module.
use Rattle.std.specs.Prelude.{◌≡◌, ℕ, ◌+◌, ◌≤◌, ◌<◌, true, List, length, cond, count_by, sum_by, option_map, IsSome}
use Rattle.rt_base.specs.declared.data.ReqNo.{ReqNo}
use Rattle.rt_base.specs.declared.data.Program.{Program}
use Rattle.rt_base.specs.Matching.{Message, Receive, same_request}
use Rattle.rt_base.specs.Exchange.{Exchange, Mailbox}
use Rattle.rt_base.specs.Completion.{is_party, is_posted}
use Rattle.rt_base.specs.WellFormed.{WellFormed}
use Rattle.match_engine.specs.declared.slots.Slot.{Slot}
use Rattle.match_engine.specs.declared.slots.Side.{Side}
use Rattle.match_engine.specs.Queues.{Traffic, exchange_of, room_at}
use Rattle.match_engine.specs.Slots.{slot_at, slot_of, call_of, slots_that, is_open, is_due}

-- how often a request waits in a mailbox
abbrev pub in_mailbox : ReqNo → Mailbox → ℕ
in_mailbox req mailbox =
    count_by (λ (message : Message). same_request message.request req) mailbox.messages
    + count_by (λ (wish : Receive). same_request wish.request req) mailbox.receives

-- how often a request waits or takes part in a match
abbrev pub occurrences : Exchange → ReqNo → ℕ
occurrences exchange req = sum_by (in_mailbox req) exchange.mailboxes + count_by (is_party req) exchange.matches

-- a request that isn't posted is nowhere, and no request is in two places
abbrev pub IsAccounted : Exchange → Type 0
IsAccounted exchange = (req : ReqNo) → occurrences exchange req ≤ cond (is_posted exchange req) 1 0

-- the parts of an engine belong together
pub record KeepsExchange (program : Program) (eager : ℕ) (traffic : Traffic) (slots : List (List Slot)) : Type 0 where
  pub well : WellFormed program
  pub limit : eager ≡ program.eager
  pub ranks : length traffic.shelves ≡ program.ranks
  pub slots_are : (req : ReqNo) → slot_at slots req ≡ option_map (slot_of (exchange_of traffic) req) (call_of program req)
  pub accounted : IsAccounted (exchange_of traffic)
  pub known : (req : ReqNo) → is_posted (exchange_of traffic) req ≡ true → IsSome (call_of program req)
  pub room_to_post : slots_that is_open slots ≤ traffic.posted.room
  pub room_to_match : slots_that is_open slots ≤ traffic.matches.room
  pub room_to_wait : (side : Side) (rank : ℕ) → rank < program.ranks → slots_that (is_due side rank) slots ≤ room_at traffic side rank
