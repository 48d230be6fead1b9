use Rattle.std.proofs.Common.{◌≡◌, ◌<◌, ◌^◌, true, drop}
use Rattle.std.specs.List.{list_all}
use Rattle.std.specs.Char.{is_ascii_digit}
use Rattle.call_words.specs.Words.{number_behind, number_of}
use Rattle.call_words.proofs.numbers.number_of.Given as goal

-- the digits that are left lead from the number so far to the whole number, which has no more digits than were read
abbrev pub invariant-loop-digit : goal.invariant-loop-digit
invariant-loop-digit l = record {
  leads : number_behind l.number (drop l.digit-index l.digits) ≡ number_of l.digits;
  bound : l.number < 10 ^ l.digit-index;
  digits : list_all is_ascii_digit (drop l.digit-index l.digits) ≡ true;
}
