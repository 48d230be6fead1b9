-- What one item more does to those that were read.
use Rattle.std.proofs.Common.{◌≡◌, ◌+◌, ◌<◌, Bool, true, ℕ, List, ◌∷◌, ◌++◌, map, length, drop, get_or, Option, Some, None, refl, ap, sym, ◌∙◌, lit≤}
use Rattle.std.specs.List.{list_all}
use Rattle.std.specs.Prelude.{String, string_bytes, IfSome}
use Rattle.std.specs.declared.alloc.Global.{Global}
use Rattle.std.proofs.lemmas.List.{append_assoc, at_drop_more}
use Rattle.call_words.specs.declared.command.Command.{Command}
use Rattle.call_words.specs.declared.command.RunOptions.{RunOptions}
use Rattle.call_words.specs.declared.command.HeatOptions.{HeatOptions}
use Rattle.call_words.specs.declared.options.OptionName.{OptionName}
use Rattle.call_words.specs.declared.options.OptionName.TheVariants as option
use Rattle.call_words.specs.declared.options.Verb.{Verb}
use Rattle.call_words.specs.declared.options.Verb.TheVariants as verb
use Rattle.call_words.specs.Options.{row}
use Rattle.call_words.specs.Words.{Item, items_behind, is_known, run_options, heat_options, command_with, command_of_items}
use Rattle.call_words.specs.Reading.{joined, Lies}

-- items that were read, and one that is read behind them
pub joined-append : (items more : List Item) (rest : Option (List Item)) → joined (items ++ more) rest ≡ joined items (joined more rest)
joined-append items more None = refl
joined-append items more (Some rest) = ap (λ (all : List Item). Some all) (append_assoc items more rest)

-- a word that is read makes these items more, and leaves this name to wait
pub word_read : (verb : Verb) (items more : List Item) (waiting name : Option (List ℕ))
    (words : List (String Global)) (at : ℕ) (word : String Global) (bytes : List ℕ)
    → at < length words → word ≡ get_or words at word → bytes ≡ string_bytes word
    → ((left : List (List ℕ)) → items_behind verb waiting (bytes ∷ left) ≡ joined more (items_behind verb name left))
    → joined (items ++ more) (items_behind verb name (map string_bytes (drop (at + 1) words)))
    ≡ joined items (items_behind verb waiting (map string_bytes (drop at words)))
word_read verb items more waiting name words at word bytes lt is same reads =
    let left = map string_bytes (drop (at + 1) words) in
    let word_first : items_behind verb waiting (map string_bytes (drop at words)) ≡ items_behind verb waiting (bytes ∷ left) =
    at_drop_more (λ rest. items_behind verb waiting (map string_bytes rest)) words at word lt ∙ rw (← is, ← same) refl in
    joined-append items more (items_behind verb name left) ∙ ap (joined items) (sym (reads left) ∙ sym word_first)

-- the defaults of the table lie in the ranges of their options
pub default_lies : (verb : Verb) (name : OptionName) → IfSome ((row name).default verb) (Lies (row name).takes)
default_lies verb.Run option.Ranks = (lit≤ tt, lit≤ tt)
default_lies verb.Run option.Eager = (lit≤ tt, lit≤ tt)
default_lies verb.Run option.Trace = lit≤ tt
default_lies verb.Run option.Seed = tt
default_lies verb.Run option.Blocks = tt
default_lies verb.Run option.Cells = tt
default_lies verb.Run option.Steps = tt
default_lies verb.Heat option.Ranks = (lit≤ tt, lit≤ tt)
default_lies verb.Heat option.Eager = (lit≤ tt, lit≤ tt)
default_lies verb.Heat option.Trace = lit≤ tt
default_lies verb.Heat option.Seed = (lit≤ tt, lit≤ tt)
default_lies verb.Heat option.Blocks = (lit≤ tt, lit≤ tt)
default_lies verb.Heat option.Cells = (lit≤ tt, lit≤ tt)
default_lies verb.Heat option.Steps = (lit≤ tt, lit≤ tt)

-- known items give the command that the values of its options give
pub commanded : (verb : Verb) (items : List Item) (known : Bool) (runs : Option RunOptions) (sizes : Option HeatOptions) (asked : Option Command)
    → known ≡ list_all (is_known verb) items → known ≡ true
    → runs ≡ run_options verb items → sizes ≡ heat_options verb items → asked ≡ command_with verb runs sizes
    → asked ≡ command_of_items verb items
commanded verb items known runs sizes asked all are of_runs of_sizes is = rw (← all, are, ← of_runs, ← of_sizes) is
