use Rattle.std.proofs.Common.{◌≡◌, []}
use Rattle.pass_table.specs.Passes.{new_passes}
use Rattle.pass_table.specs.Views.{pen_of}
use Rattle.pass_table.proofs.table.PassTable.build.Given as goal

-- the pen stands before the next caller, and the callers so far have their passes
abbrev pub invariant-loop-caller : goal.invariant-loop-caller
invariant-loop-caller l =
    (l.seat.me ≡ (pen_of l.caller [], [])) × (l.seat.table_id ≡ l.table.shared.table_id) × (l.table.shared.table_id.words ≡ 1) ×
    (l.passes.items ≡ new_passes l.table.shared.table_id l.caller)
