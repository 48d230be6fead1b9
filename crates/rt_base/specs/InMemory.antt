-- What the sources and sinks in memory are seen as, and which calls of a fake fail.
use Rattle.std.specs.Prelude.{ℕ, ◌-◌, ◌==◌, List, ◌++◌, length, take, Contains, if◌then◌else◌}
use Rattle.rt_base.specs.declared.outside.Got.{Got}
use Rattle.rt_base.specs.declared.outside.Got.TheVariants as got
use Rattle.rt_base.specs.Outside.{counted}

-- the answer to a read that gives so many bytes: none means the end (this project's)
abbrev pub got_of : ℕ → Got
got_of n = if n == 0 then got.End else got.Bytes n

-- a sink in memory: what was written, the room that is left, in bytes, and the count of faults
pub record Filled : Type 0 where
  pub written : List ℕ
  pub room : ℕ
  pub faults : ℕ

-- the sink after it took the bytes that fit its room (this project's)
abbrev pub filled_by : List ℕ → Filled → Filled
filled_by bytes sink =
    record { written = sink.written ++ take sink.room bytes; room = sink.room - length bytes; faults = sink.faults }

-- the sink after one more fault
abbrev pub faulted : Filled → Filled
faulted sink = record sink { faults = counted sink.faults }

-- which calls are to fail, by their numbers from 0, and the number of the next call
pub record Scripted : Type 0 where
  pub fail : List ℕ
  pub call : ℕ

-- the next call is to fail: its number is listed (this project's)
abbrev pub IsFailing : Scripted → Type 0
IsFailing script = Contains script.fail script.call

-- the script after one more call
abbrev pub after_call : Scripted → Scripted
after_call script = record script { call = counted script.call }

-- a fake source: the bytes that are left, the most that a read gives, which calls fail, and the count of faults
pub record Feed : Type 0 where
  pub rest : List ℕ
  pub piece : ℕ
  pub script : Scripted
  pub faults : ℕ

-- a fake sink: the sink in memory, the most that a failing write takes, and which calls fail
pub record Drain : Type 0 where
  pub sink : Filled
  pub piece : ℕ
  pub script : Scripted
