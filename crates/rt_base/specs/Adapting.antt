-- What an adapter over a reader or a writer is seen as, and what it passes on.
use Rattle.std.specs.Prelude.{ℕ, List, take, Option, refl}
use Rattle.std.specs.Coded.{Coded, code_by, coded×, coded_ℕ}
use Rattle.std.specs.Io.KnownBytes.{Consumes, IsAtEnd, Keeps}
use Rattle.rt_base.specs.declared.outside.Got.{Got}
use Rattle.rt_base.specs.declared.outside.Got.TheVariants as got

-- what is read from or written to, and the count of faults (this project's)
pub record Adapter (Stream : Type 0) : Type 0 where
  pub stream : Stream
  pub faults : ℕ

-- an adapter is stored as the pair of its parts
abbrev pub adapter_code : {Stream : Type 0} → Coded Stream → Coded (Adapter Stream)
adapter_code {Stream} stream =
    code_by (Stream × ℕ) (coded× stream coded_ℕ) (λ a. (a.stream, a.faults)) (λ p. record { stream = p.0; faults = p.1 }) (λ _. refl)

-- the reader lost what was given, had nothing left at the end, and kept all at a fault, where its bytes are known (this project's)
abbrev pub PassesOn : Option (List ℕ) → Option (List ℕ) → Got → List ℕ → Type 0
PassesOn old new (got.Bytes n) buf = Consumes old new (take n buf)
PassesOn old new got.End buf = IsAtEnd old
PassesOn old new got.Failed buf = Keeps old new
