-- The number that digits write.
use Rattle.std.proofs.Common.{◌≡◌, ℕ, ◌+◌, ◌-◌, ◌*◌, ◌^◌, ◌<◌, ◌≤◌, List, [], ◌∷◌, length, get_or, drop, Err, arith}
use Rattle.std.proofs.lemmas.Bool.Decides.{nat_tests}
use Rattle.std.proofs.lemmas.List.{at_drop_more}
use Rattle.rt_base.specs.declared.data.FaultKind.TheVariants as fault
use Rattle.task_parse.specs.Tokens.{number_from, number_token}

-- more digits never make it less
pub number_grows : (value : ℕ) (digits : List ℕ) → value ≤ number_from value digits
number_grows value [] = omega arith
number_grows value (digit ∷ digits) = omega (arith, number_grows (value * 10 + (digit - 48)) digits)

-- one digit more
pub one_more : (value i : ℕ) (digits : List ℕ) → i < length digits
    → number_from value (drop i digits) ≡ number_from (value * 10 + (get_or digits i 0 - 48)) (drop (i + 1) digits)
one_more value i digits h = at_drop_more (number_from value) digits i 0 h

-- a number whose front is past the range is past it
pub past_range : (digits rest : List ℕ) (value : ℕ) → number_from value rest ≡ number_from 0 digits → 2 ^ 63 ≤ value → number_token digits ≡ Err fault.Number
past_range digits rest value e h =
    let big : 2 ^ 63 ≤ number_from 0 digits = omega (arith, e, number_grows value rest) in
    grind (arith, nat_tests)
