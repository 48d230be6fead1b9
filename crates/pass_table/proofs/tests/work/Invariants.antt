-- The pass stays of the table and of its caller.
use Rattle.std.proofs.Common.{◌≡◌}
use Rattle.pass_table.proofs.tests.work.Given as goal

abbrev pub invariant-loop : goal.invariant-loop
invariant-loop g l = (l.pass.table ≡ g.J.Naming.table) × (l.pass.caller ≡ l.fn.pass.caller)
