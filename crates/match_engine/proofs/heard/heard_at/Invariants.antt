use Rattle.std.proofs.Common.{take, All, vec_items}
use Rattle.match_engine.specs.declared.slots.Slot.{Slot}
use Rattle.match_engine.specs.Routes.{IsHeard}
use Rattle.match_engine.proofs.heard.heard_at.Given as goal

-- the rows so far are heard
abbrev pub invariant-loop-row : goal.invariant-loop-row
invariant-loop-row l = All (λ row. All (λ (slot : Slot). IsHeard l.rank l.keys slot.call) (vec_items row)) (take l.row-index l.rows)
