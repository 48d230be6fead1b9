use Rattle.std.proofs.Common.{◌≡◌, map, drop, IfSome}
use Rattle.call_words.specs.Words.{given, setting}
use Rattle.call_words.specs.Reading.{choice_of, item_of, given_behind, Lies}
use Rattle.call_words.proofs.command.setting.Given as goal

-- what the items that are left give, behind the value so far, is what all items give
abbrev pub invariant-loop-item : goal.invariant-loop-item
invariant-loop-item l = record {
  leads : given_behind l.choice.takes ((choice_of l.choice).default l.verb) l.value (given (choice_of l.choice) (map item_of (drop l.item-index l.items)))
      ≡ setting l.verb (choice_of l.choice) (map item_of l.items);
  range : IfSome l.value (Lies l.choice.takes);
}
