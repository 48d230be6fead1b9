-- What a writer over a fixed buffer does. No public clause cites this module.
use Rattle.std.specs.Prelude.{◌≡◌, ℕ, ◌≤◌, Bool, true, false, List, ◌++◌, Option}
use Rattle.std.specs.Io.KnownBytes.{Appends}
use Rattle.rt_base.specs.declared.outside.Put.{Put}
use Rattle.rt_base.specs.Outside.{Rose, AppendsFront, Writes, HasWriteCause}

-- a buffer: the bytes that wait in it, and whether a write has failed
pub record Waiting : Type 0 where
  pub pending : List ℕ
  pub failed : Bool

-- a sink and its buffer: what was written, where it is told, the count of faults, and what waits
pub record Output : Type 0 where
  pub written : Option (List ℕ)
  pub faults : ℕ
  pub waiting : Waiting

-- what was written, how often writing failed, and what waits
abbrev pub output : Option (List ℕ) → ℕ → Waiting → Output
output written faults waiting = record { written = written; faults = faults; waiting = waiting }

-- of the text so far all went out but for what waits; or a write failed: a front of the text went out, and the count rose
pub record Holds (start : Option (List ℕ)) (before : ℕ) (text : List ℕ) (now : Output) : Type 0 where
  pub later : before ≤ now.faults
  pub whole : now.waiting.failed ≡ false → (out : List ℕ) × Appends start now.written out × (text ≡ out ++ now.waiting.pending)
  pub front : now.waiting.failed ≡ true → AppendsFront start now.written text × Rose before now.faults

-- the bytes were put behind the text so far, whatever it was
pub record Puts (old new : Output) (bytes : List ℕ) : Type 0 where
  pub goes_on : (start : Option (List ℕ)) (before : ℕ) (text : List ℕ) → Holds start before text old → Holds start before (text ++ bytes) new

-- the text was written to its end, whatever it was; or a write failed
pub record Ends (old : Output) (written : Option (List ℕ)) (faults : ℕ) (answer : Put) : Type 0 where
  pub told : (start : Option (List ℕ)) (before : ℕ) (text : List ℕ) → Holds start before text old
      → Writes start written answer text × HasWriteCause before faults answer
