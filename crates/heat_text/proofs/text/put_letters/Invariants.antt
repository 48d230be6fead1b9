use Rattle.std.proofs.Common.{◌≡◌, ◌≤◌, ◌+◌, ◌*◌, ◌++◌, length, drop}
use Rattle.std.specs.List.{flat_map}
use Rattle.heat_text.specs.Heat.{written}
use Rattle.heat_text.proofs.text.put_letters.Given as goal

-- the text so far, and the letters that are left
abbrev pub invariant-loop-letter : goal.invariant-loop-letter
invariant-loop-letter l = record {
  text : l.text.items ++ flat_map (written l.sizes) (drop l.letter-index l.letters) ≡ l.fn.text.items ++ flat_map (written l.sizes) l.letters;
  short : length l.text.items ≤ length l.fn.text.items + 40 * l.letter-index;
}
