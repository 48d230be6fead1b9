-- How the words are read. No public clause cites this module.
use Rattle.std.specs.Prelude.{◌≤◌, ℕ, List, [], ◌∷◌, ◌++◌, Option, Some, None}
use Rattle.std.specs.Option.{option_map, option_copied}
use Rattle.call_words.specs.declared.options.Takes.{Takes}
use Rattle.call_words.specs.declared.options.Takes.TheVariants as takes
use Rattle.call_words.specs.declared.options.Choice as read_choice
use Rattle.call_words.specs.declared.items.Part.{Part}
use Rattle.call_words.specs.Options.{Choice, defaults}
use Rattle.call_words.specs.Words.{Item, given_or}

-- a row of the table as the code has it
abbrev pub choice_of : read_choice.Choice → Choice
choice_of row = record { name = row.name.now; takes = row.takes; default = defaults row.in_run row.in_heat }

-- an option may have this value
abbrev pub Lies : Takes → ℕ → Type 0
Lies (takes.Number least most) value = (least ≤ value) × (value ≤ most)
Lies takes.Flag value = value ≤ 1

-- an item as the reader has it: borrowed texts
abbrev pub item_of : Part → Item
item_of part = record { name = part.name.now; value = option_copied part.value }

-- these items, and those behind them, if there are any
abbrev pub joined : List Item → Option (List Item) → Option (List Item)
joined items behind = option_map (λ rest. items ++ rest) behind

-- the value of an option of which these values are left to read, behind a value that was given before
abbrev pub given_behind : Takes → Option ℕ → Option ℕ → List (Option (List ℕ)) → Option ℕ
given_behind takes default None values = given_or takes default values
given_behind takes default (Some value) [] = Some value
given_behind takes default (Some value) (second ∷ values) = None

-- an item, if there is one, as a list
abbrev pub listed : Option Item → List Item
listed None = []
listed (Some item) = item ∷ []
