-- The control state of a hand, and what the hand keeps of what it holds.
use Rattle.std.specs.Prelude.{ℕ, None, ⊤}
use Rattle.rt_base.specs.declared.data.Program.{Program}
use Rattle.pass_table.specs.Passes.{PassIs}
use Rattle.turn_table.specs.declared.hands.Look.TheVariants as look
use Rattle.turn_table.specs.declared.hands.Shape.{Shape}
use Rattle.turn_table.specs.declared.hands.Shape.TheVariants as shape
use Rattle.shared_tasks.specs.Keeping.{IsAble, MayPark}
use Rattle.tampi_calls.specs.declared.held.Held.{Held}
use Rattle.tampi_calls.specs.declared.held.Held.TheVariants as held
use Rattle.tampi_calls.specs.Values.{HandIs}

-- a control state is what a hand holds, without the contents (this project's)
abbrev pub shape_of : {K H : Type 0} → Held K H → Shape
shape_of (held.Nothing look) = shape.Nothing look
shape_of (held.Offered fresh) = shape.Offered
shape_of (held.Fresh fresh) = shape.Fresh
shape_of (held.Ready live) = shape.Ready
shape_of (held.Pending live door) = shape.Pending door
shape_of (held.Told notice) = shape.Told
shape_of (held.Resumed live) = shape.Resumed

-- a task that is ready or woken may make its next move, and one that is pending may park at its meeting; a task that is to be started and a notice keep by
-- their types what their next act asks
abbrev pub HeldKeeps : {K H : Type 0} → Program → Held K H → Type 0
HeldKeeps program (held.Nothing look) = ⊤
HeldKeeps program (held.Offered fresh) = ⊤
HeldKeeps program (held.Fresh fresh) = ⊤
HeldKeeps program (held.Ready live) = IsAble program live
HeldKeeps program (held.Pending live door) = MayPark program door live
HeldKeeps program (held.Told notice) = ⊤
HeldKeeps program (held.Resumed live) = IsAble program live

-- the hand with which a worker begins: it holds nothing and looks for a notice
abbrev pub new_hand : {K H P : Type 0} → ℕ → PassIs → P → HandIs (Held K H) P
new_hand worker pass bag = record { worker = worker; pass = pass; bag = bag; held = held.Nothing look.Poll; last = None; gone = None }
