use Rattle.std.proofs.Common.{take, All}
use Rattle.match_engine.specs.declared.slots.Slot.{Slot}
use Rattle.match_engine.specs.Routes.{IsHeard, Keeps}
use Rattle.match_engine.proofs.heard.hear_all.Given as goal

-- the slots so far are heard, and what was known is known
abbrev pub invariant-loop-slot : goal.invariant-loop-slot
invariant-loop-slot l = All (λ (slot : Slot). IsHeard l.rank l.keys slot.call) (take l.slot-index l.row) × Keeps l.initial.keys l.keys
