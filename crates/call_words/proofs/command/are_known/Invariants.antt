use Rattle.std.proofs.Common.{◌≡◌, map, drop}
use Rattle.std.specs.List.{list_all}
use Rattle.call_words.specs.Words.{is_known}
use Rattle.call_words.specs.Reading.{item_of}
use Rattle.call_words.proofs.command.are_known.Given as goal

-- all items are known where those are that are left
abbrev pub invariant-loop-item : goal.invariant-loop-item
invariant-loop-item l = list_all (is_known l.verb) (map item_of (drop l.item-index l.items)) ≡ list_all (is_known l.verb) (map item_of l.items)
