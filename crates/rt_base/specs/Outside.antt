-- What a source gives and what a sink takes: their bytes, where they are told, and their counts of faults.
use Rattle.std.specs.Prelude.{◌≡◌, ℕ, ◌+◌, ◌-◌, ◌^◌, ◌<◌, ◌≤◌, min, List, length, take}
use Rattle.std.specs.Prelude.{Option}
use Rattle.std.specs.Io.KnownBytes.{Appends, Consumes, IsAtEnd}
use Rattle.rt_base.specs.declared.outside.Got.{Got}
use Rattle.rt_base.specs.declared.outside.Got.TheVariants as got
use Rattle.rt_base.specs.declared.outside.Put.{Put}
use Rattle.rt_base.specs.declared.outside.Put.TheVariants as put

-- a count after one more: it stops at its last value, the greatest of 64 bits (this project's)
abbrev pub counted : ℕ → ℕ
counted count = min (count + 1) (2 ^ 64 - 1)

-- the count rose, and one that stands at its last value counts as risen (this project's)
abbrev pub Rose : ℕ → ℕ → Type 0
Rose before now = counted before ≤ now

-- what a read gave stands at the front of the buffer and is no longer left; at the end nothing was left (this project's)
abbrev pub Reads : Option (List ℕ) → Option (List ℕ) → Got → List ℕ → Type 0
Reads old new (got.Bytes n) buf = (0 < n) × (n ≤ length buf) × Consumes old new (take n buf)
Reads old new got.End buf = IsAtEnd old × (new ≡ old)
Reads old new got.Failed buf = new ≡ old

-- the count of faults never falls, and a read that failed raised it (this project's)
pub record HasReadCause (before now : ℕ) (answer : Got) : Type 0 where
  pub later : before ≤ now
  pub failed : answer ≡ got.Failed → Rose before now

-- the first so many bytes were appended
abbrev pub AppendsFront : Option (List ℕ) → Option (List ℕ) → List ℕ → Type 0
AppendsFront old new bytes = (n : ℕ) × (n ≤ length bytes) × Appends old new (take n bytes)

-- a write appends the whole buffer, or fails and appends its front (this project's)
abbrev pub Writes : Option (List ℕ) → Option (List ℕ) → Put → List ℕ → Type 0
Writes old new put.All buf = Appends old new buf
Writes old new put.Failed buf = AppendsFront old new buf

-- the count of faults never falls, and a write that failed raised it (this project's)
pub record HasWriteCause (before now : ℕ) (answer : Put) : Type 0 where
  pub later : before ≤ now
  pub failed : answer ≡ put.Failed → Rose before now
