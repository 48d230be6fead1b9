-- What contracts see of the engine.
use Rattle.rt_base.specs.declared.data.Program.{Program}
use Rattle.rt_base.specs.Exchange.{Exchange}

-- the program of the engine, and what is under way between its ranks
pub record Switch : Type 0 where
  pub program : Program
  pub exchange : Exchange
