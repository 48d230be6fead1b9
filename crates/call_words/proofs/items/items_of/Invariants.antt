use Rattle.std.proofs.Common.{◌≡◌, None, map, drop, string_bytes}
use Rattle.std.specs.Option.{option_copied}
use Rattle.call_words.specs.Words.{items_behind}
use Rattle.call_words.specs.Reading.{item_of, joined}
use Rattle.call_words.proofs.items.items_of.Given as goal

-- the items that were read and those of the words that are left are those of all words
abbrev pub invariant-loop-word : goal.invariant-loop-word
invariant-loop-word l =
    joined (map item_of l.items.items) (items_behind l.verb (option_copied l.waiting) (map string_bytes (drop l.word-index l.words)))
    ≡ items_behind l.verb None (map string_bytes l.words)
