-- What a hand holds after the ready queue answered, as private functions compute it. No public clause cites this module.
use Rattle.std.specs.Prelude.{Option, Some, None, Result, Ok, Err}
use Rattle.turn_table.specs.declared.hands.Look.TheVariants as look
use Rattle.turn_table.specs.declared.turns.Answer.{Answer}
use Rattle.turn_table.specs.declared.turns.Answer.TheVariants as answer
use Rattle.tampi_calls.specs.declared.held.Held.{Held}
use Rattle.tampi_calls.specs.declared.held.Held.TheVariants as held
use Rattle.tampi_calls.specs.declared.item.Item.{Item}
use Rattle.tampi_calls.specs.declared.item.Item.TheVariants as item

-- what the hand holds after the queue gave this
abbrev pub taken_out : {K H : Type 0} → Option (Item K H) → Held K H
taken_out None = held.Nothing look.Offer
taken_out (Some (item.Fresh fresh)) = held.Fresh fresh
taken_out (Some (item.Live live)) = held.Ready live

-- the answer of the queue that gave this
abbrev pub gave : {K H : Type 0} → Option (Item K H) → Answer
gave None = answer.None
gave (Some (item.Fresh fresh)) = answer.TookFresh
gave (Some (item.Live live)) = answer.TookLive

-- the task of a hand as it lies in the queue, none where the hand holds no task for it
abbrev pub item_in : {K H : Type 0} → Held K H → Option (Item K H)
item_in (held.Offered fresh) = Some (item.Fresh fresh)
item_in (held.Resumed live) = Some (item.Live live)
item_in _ = None

-- what the hand holds after the queue took its task or gave it back
abbrev pub left_in : {K H : Type 0} → Result Unit (Item K H) → Held K H
left_in (Ok done) = held.Nothing look.Poll
left_in (Err (item.Fresh fresh)) = held.Fresh fresh
left_in (Err (item.Live live)) = held.Ready live

-- the answer of the queue that took the task or gave it back
abbrev pub took_it : {K H : Type 0} → Result Unit (Item K H) → Answer
took_it (Ok done) = answer.Put
took_it (Err found) = answer.Full
