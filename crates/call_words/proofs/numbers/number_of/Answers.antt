use Rattle.std.proofs.Common.{arith}
use Rattle.call_words.proofs.NumberLemmas.{few_zeros}
use Rattle.call_words.proofs.numbers.number_of.Goals as goal

pub overflow_mul-number : goal.overflow_mul-number
overflow_mul-number c = omega (arith, few_zeros c.loop-digit.digit-index (omega arith))
