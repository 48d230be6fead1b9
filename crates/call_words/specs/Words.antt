-- The words of a call, and the command that they give (this project's).
use Rattle.std.specs.Prelude.{ℕ, ◌+◌, ◌-◌, ◌*◌, ◌==◌, ◌&&◌, ◌||◌, ◌≤◌, nat_le, Bool, true, false, List, [], ◌∷◌, map, length, take, drop, position}
use Rattle.std.specs.Prelude.{Option, Some, None, is_some, codes, String, string_bytes, if◌then◌else◌}
use Rattle.std.specs.List.{fold, filter, list_all, list_any}
use Rattle.std.specs.Option.{option_and_then, option_map}
use Rattle.std.specs.Char.{is_ascii_digit}
use Rattle.std.specs.Str.{bytes_eq}
use Rattle.std.specs.declared.alloc.Global.{Global}
use Rattle.call_words.specs.declared.command.RunOptions.{RunOptions}
use Rattle.call_words.specs.declared.command.HeatOptions.{HeatOptions}
use Rattle.call_words.specs.declared.command.Command.{Command}
use Rattle.call_words.specs.declared.command.Command.TheVariants as asked
use Rattle.call_words.specs.declared.options.OptionName.TheVariants as option
use Rattle.call_words.specs.declared.options.Verb.{Verb}
use Rattle.call_words.specs.declared.options.Verb.TheVariants as verb
use Rattle.call_words.specs.declared.options.Takes.{Takes}
use Rattle.call_words.specs.declared.options.Takes.TheVariants as takes
use Rattle.call_words.specs.Options.{Choice, row, options}

-- an item: the name of an option, and the text of its value, which a flag lacks
pub record Item : Type 0 where
  pub name : List ℕ
  pub value : Option (List ℕ)

-- the number that decimal digits write behind a number
abbrev pub number_behind : ℕ → List ℕ → ℕ
number_behind number digits = fold (λ number digit. number * 10 + (digit - 48)) number digits

-- the number that decimal digits write
abbrev pub number_of : List ℕ → ℕ
number_of digits = number_behind 0 digits

-- one to ten decimal digits, without a sign
abbrev pub is_number : List ℕ → Bool
is_number text = nat_le 1 (length text) && nat_le (length text) 10 && list_all is_ascii_digit text

-- the number that a text writes, where it lies in this range
abbrev pub value_in : ℕ → ℕ → List ℕ → Option ℕ
value_in least most text =
    if is_number text && nat_le least (number_of text) && nat_le (number_of text) most then Some (number_of text) else None

-- the word names an option of this command
abbrev pub has_name : Verb → List ℕ → Choice → Bool
has_name verb name choice = is_some (choice.default verb) && bytes_eq name choice.name

-- the option is its name alone
abbrev pub is_flag : Takes → Bool
is_flag (takes.Number least most) = false
is_flag takes.Flag = true

-- the item that one word with `=` is: its name before the first `=`, and its value behind it
abbrev pub cut_at : List ℕ → Option ℕ → Option Item
cut_at word None = None
cut_at word (Some i) = Some (record { name = take i word; value = Some (drop (i + 1) word) })

-- the item that one word with `=` is, cut at its first `=`
abbrev pub cut : List ℕ → Option Item
cut word = cut_at word (position (λ byte. byte == 61) word)

-- the item that one word is: a flag of the command, or a word with `=`
abbrev pub item_of_word : Verb → List ℕ → Option Item
item_of_word verb word =
    if list_any (λ option. has_name verb word (row option) && is_flag (row option).takes) options then Some (record { name = word; value = None }) else cut word

-- one more item before the others
abbrev pub with_item : Item → Option (List Item) → Option (List Item)
with_item item items = option_map (λ items. item ∷ items) items

-- a word that is no item is a name that waits for its value
abbrev pub item_or_name : Option Item → Option (List Item) → Option (List Item) → Option (List Item)
item_or_name (Some item) behind waiting = with_item item behind
item_or_name None behind waiting = waiting

-- the items that these words are, `--NAME`, `--NAME=V` as one word or `--NAME V` as two, behind a name that may wait for its value
abbrev pub items_behind : Verb → Option (List ℕ) → List (List ℕ) → Option (List Item)
items_behind verb None [] = Some []
items_behind verb (Some name) [] = None
items_behind verb None (word ∷ words) =
    item_or_name (item_of_word verb word) (items_behind verb None words) (items_behind verb (Some word) words)
items_behind verb (Some name) (word ∷ words) = with_item (record { name = name; value = Some word }) (items_behind verb None words)

-- the value that an item gives to an option: a number of its range, or 1 to a flag
abbrev pub value_by : Takes → Option (List ℕ) → Option ℕ
value_by (takes.Number least most) (Some text) = value_in least most text
value_by takes.Flag None = Some 1
value_by (takes.Number least most) None = None
value_by takes.Flag (Some text) = None

-- what the items give to an option
abbrev pub given : Choice → List Item → List (Option (List ℕ))
given choice items = map (λ (item : Item). item.value) (filter (λ (item : Item). bytes_eq item.name choice.name) items)

-- the value of an option: it is given at most once
abbrev pub given_or : Takes → Option ℕ → List (Option (List ℕ)) → Option ℕ
given_or takes default [] = default
given_or takes default (value ∷ []) = value_by takes value
given_or takes default (value ∷ second ∷ values) = None

-- the value of an option of a command: what the items give to it, or its default
abbrev pub setting : Verb → Choice → List Item → Option ℕ
setting verb choice items = given_or choice.takes (choice.default verb) (given choice items)

-- the item names an option of the command
abbrev pub is_known : Verb → Item → Bool
is_known verb item = list_any (λ option. has_name verb item.name (row option)) options

-- the options of a run with these values, if they all have one; a flag is on where its value is 1
abbrev pub run_options_with : Option ℕ → Option ℕ → Option ℕ → Option RunOptions
run_options_with (Some count) (Some limit) (Some told) = Some (record { ranks = count; eager = limit; trace = told == 1 })
run_options_with None limit told = None
run_options_with (Some count) None told = None
run_options_with (Some count) (Some limit) None = None

-- the options of a run that items give
abbrev pub run_options : Verb → List Item → Option RunOptions
run_options verb items =
    run_options_with (setting verb (row option.Ranks) items) (setting verb (row option.Eager) items) (setting verb (row option.Trace) items)

-- the sizes of the heat text with these values, if they all have one
abbrev pub heat_options_with : Option ℕ → Option ℕ → Option ℕ → Option ℕ → Option HeatOptions
heat_options_with (Some blocks) (Some cells) (Some steps) (Some seed) = Some (record { blocks = blocks; cells = cells; steps = steps; seed = seed })
heat_options_with None cells steps seed = None
heat_options_with (Some blocks) None steps seed = None
heat_options_with (Some blocks) (Some cells) None seed = None
heat_options_with (Some blocks) (Some cells) (Some steps) None = None

-- the sizes of the heat text that items give
abbrev pub heat_options : Verb → List Item → Option HeatOptions
heat_options verb items =
    heat_options_with (setting verb (row option.Blocks) items) (setting verb (row option.Cells) items) (setting verb (row option.Steps) items)
    (setting verb (row option.Seed) items)

-- the command with these options, if it has those that it needs
abbrev pub command_with : Verb → Option RunOptions → Option HeatOptions → Option Command
command_with verb.Run runs sizes = option_map (λ one. asked.Run one) runs
command_with verb.Heat runs sizes = option_and_then (λ one. option_map (λ other. asked.Heat one other) sizes) runs

-- the command that items give: each names an option, and each option that it has has a value
abbrev pub command_of_items : Verb → List Item → Option Command
command_of_items verb items =
    if list_all (is_known verb) items then command_with verb (run_options verb items) (heat_options verb items) else None

-- the command that a word names
abbrev pub verb_of : List ℕ → Option Verb
verb_of word = if bytes_eq word (codes "run") then Some verb.Run else if bytes_eq word (codes "heat") then Some verb.Heat else None

-- the command that texts give: its name, and items in any order
abbrev pub command_of_texts : List (List ℕ) → Option Command
command_of_texts [] = None
command_of_texts (first ∷ words) =
    option_and_then (λ verb. option_and_then (command_of_items verb) (items_behind verb None words)) (verb_of first)

-- the command that words give, or nothing
unfoldable pub command : List (String Global) → Option Command
command words = command_of_texts (map string_bytes words)

-- the first word names a command that runs a program, whatever stands behind it
unfoldable pub needs_run : List (String Global) → Bool
needs_run [] = false
needs_run (first ∷ words) = bytes_eq (string_bytes first) (codes "run") || bytes_eq (string_bytes first) (codes "heat")

-- the options lie in their ranges
abbrev pub IsRunInRange : RunOptions → Type 0
IsRunInRange one = (1 ≤ one.ranks) × (one.ranks ≤ 64) × (one.eager ≤ 16777216)

-- the sizes of the heat solver lie in their ranges
abbrev pub IsHeatInRange : HeatOptions → Type 0
IsHeatInRange one = (1 ≤ one.blocks) × (one.blocks ≤ 1024) × (1 ≤ one.cells) × (one.cells ≤ 65536) × (one.steps ≤ 10000)

-- the command lies in the ranges of its options
abbrev pub IsInRange : Command → Type 0
IsInRange (asked.Run one) = IsRunInRange one
IsInRange (asked.Heat one sizes) = IsRunInRange one × IsHeatInRange sizes
