-- What contracts see of a worker's hand.
use Rattle.std.specs.Prelude.{ℕ, Option}
use Rattle.pass_table.specs.Passes.{PassIs}
use Rattle.meet_hall.specs.Holders.{StubIs}

-- the worker, its poller pass, its bag pass, what it holds, the stub of its last arrival after which others were still to come, and the pass of the task
-- that it released last
pub record HandIs (X P : Type 0) : Type 0 where
  pub worker : ℕ
  pub pass : PassIs
  pub bag : P
  pub held : X
  pub last : Option StubIs
  pub gone : Option PassIs
