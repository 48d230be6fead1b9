-- Reading the input to its end.
use Rattle.std.specs.Prelude.{◌≡◌, ℕ, ◌≤◌, List, [], length, Option, Some, None, ⊤}
use Rattle.std.specs.Io.KnownBytes.{Consumes}
use Rattle.rt_base.specs.Outside.{Rose}
use Rattle.tampi_top.specs.declared.reading.Taken.{Taken}
use Rattle.tampi_top.specs.declared.reading.Taken.TheVariants as taken

-- where the bytes that were left are told, they are this text, and all of it was read (this project's)
abbrev pub IsReadWhole : Option (List ℕ) → Option (List ℕ) → List ℕ → Type 0
IsReadWhole None new text = ⊤
IsReadWhole (Some bytes) new text = (bytes ≡ text) × (new ≡ Some [])

-- 1,048,577 bytes were taken: one more than a text may have (this project's)
abbrev pub IsTooLong : Option (List ℕ) → Option (List ℕ) → Type 0
IsTooLong old new = (front : List ℕ) × (length front ≡ 1048577) × Consumes old new front

-- no more bytes were taken than a text may have (this project's)
abbrev pub IsFrontTaken : Option (List ℕ) → Option (List ℕ) → Type 0
IsFrontTaken old new = (front : List ℕ) × (length front ≤ 1048576) × Consumes old new front

-- what reading came to: the whole text, one byte too many, or a fault that the count shows; want of memory is free (this project's)
abbrev pub IsTaken : Option (List ℕ) → Option (List ℕ) → ℕ → ℕ → Taken → Type 0
IsTaken old new before now (taken.Whole text) = IsReadWhole old new text.items × (length text.items ≤ 1048576)
IsTaken old new before now taken.TooLong = IsTooLong old new
IsTaken old new before now taken.Fault = Rose before now × IsFrontTaken old new
IsTaken old new before now taken.Memory = ⊤
