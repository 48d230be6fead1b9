use Rattle.std.proofs.Common.{◌≡◌, ◌<◌, ◌^◌, drop}
use Rattle.task_parse.specs.Tokens.{number_from}
use Rattle.task_parse.proofs.token.number_token.Given as goal

-- the value so far goes on to the number of all digits
abbrev pub invariant-loop-digit : goal.invariant-loop-digit
invariant-loop-digit l = record {
  number : number_from l.value (drop l.digit-index l.digits) ≡ number_from 0 l.digits;
  in_range : l.value < 2 ^ 63;
}
