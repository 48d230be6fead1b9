-- How many turns a `for` has.
use Rattle.std.proofs.Common.{◌≡◌, ℤ, pos, negsuc, ◌+ℤ◌, ◌-ℤ◌, int_lt, true, false, suc, zero, refl, arith}
use Rattle.std.proofs.lemmas.Int.{ints}
use Rattle.task_unroll.specs.Blocks.{turns_of}

no_turn_by : (x y d : ℤ) → y -ℤ x ≡ d → int_lt x y ≡ false → turns_of d ≡ 0
no_turn_by x y (pos zero) e h = refl
no_turn_by x y (pos (suc n)) e h = absurd (grind (arith, ints))
no_turn_by x y (negsuc n) e h = refl

pub no_turn : (x y : ℤ) → int_lt x y ≡ false → turns_of (y -ℤ x) ≡ 0
no_turn x y h = no_turn_by x y (y -ℤ x) refl h

one_turn_by : (x y d : ℤ) → y -ℤ x ≡ d → int_lt x y ≡ true → turns_of d ≡ suc (turns_of (y -ℤ (x +ℤ pos 1)))
one_turn_by x y (pos zero) e h = absurd (grind (arith, ints))
one_turn_by x y (pos (suc n)) e h =
    let f : y -ℤ (x +ℤ pos 1) ≡ pos n = omega (arith, ints) in
    rw f refl
one_turn_by x y (negsuc n) e h = absurd (grind (arith, ints))

pub one_turn : (x y : ℤ) → int_lt x y ≡ true → turns_of (y -ℤ x) ≡ suc (turns_of (y -ℤ (x +ℤ pos 1)))
one_turn x y h = one_turn_by x y (y -ℤ x) refl h
