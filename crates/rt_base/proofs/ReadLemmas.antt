-- Reads from a list in memory, and reads into the front of a buffer.
use Rattle.std.proofs.Common.{◌≡◌, ℕ, zero, suc, ◌+◌, ◌<◌, min, List, ◌++◌, length, take, drop, Option, Some, sym, ap, ◌∙◌, arith}
use Rattle.std.proofs.lemmas.Grind.{common_steps}
use Rattle.std.proofs.lemmas.List.{nil_from_length}
use Rattle.std.proofs.lemmas.List.{drop-drop, take-append-drop, take-append-le}
use Rattle.rt_base.specs.declared.outside.Got.{Got}
use Rattle.rt_base.specs.declared.outside.Got.TheVariants.{Bytes, End, Failed}
use Rattle.rt_base.specs.Outside.{Reads}
use Rattle.rt_base.specs.InMemory.{got_of}

-- a read that gives a byte says how many
got_of-some : (n : ℕ) → 0 < n → got_of n ≡ Bytes n
got_of-some n some = grind (arith, common_steps)

-- the copy of all that the buffer takes and is left is a read that gives some
reads_some : (old buf : List ℕ) (n : ℕ) → 0 < n → n ≡ min (length buf) (length old) → take n buf ≡ take n old
    → Reads (Some old) (Some (drop n old)) (Bytes n) buf
reads_some old buf n some least copied =
    (some, omega arith, sym (take-append-drop n old) ∙ ap (λ front. front ++ drop n old) (sym copied))

-- the copy of all that the buffer takes and is left is a read
reads_least : (old buf : List ℕ) (n : ℕ) → 0 < length buf → n ≡ min (length buf) (length old) → take n buf ≡ take n old
    → Reads (Some old) (Some (drop n old)) (got_of n) buf
reads_least old buf zero room least copied =
    let none : length old ≡ 0 = omega arith in
    (nil_from_length old none, grind (arith, common_steps))
reads_least old buf (suc n) room least copied =
    let some : 0 < suc n = omega arith in rw (got_of-some (suc n) some) (reads_some old buf (suc n) some least copied)

-- the same for a rest that begins at a place in a list
pub reads_on : (bytes rest buf : List ℕ) (at n : ℕ) (answer : Got) → drop at bytes ≡ rest → answer ≡ got_of n → 0 < length buf
    → n ≡ min (length buf) (length rest) → take n buf ≡ take n rest
    → Reads (Some rest) (Some (drop (at + n) bytes)) answer buf
reads_on bytes rest buf at n answer begins answered room least copied =
    rw (answered, ← drop-drop n at bytes, begins) (reads_least rest buf n room least copied)

-- a read into the front of a buffer is one into the buffer
pub reads_front : (old new : Option (List ℕ)) (answer : Got) (front back : List ℕ) → Reads old new answer front
    → Reads old new answer (front ++ back)
reads_front old new End front back reads = reads
reads_front old new Failed front back reads = reads
reads_front old new (Bytes n) front back reads =
    (reads.0, grind (arith, common_steps), rw (take-append-le n front back reads.1) reads.2)
