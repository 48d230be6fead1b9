-- The table of options (this project's).
use Rattle.std.specs.Prelude.{ℕ, List, [], ◌∷◌, Option, Some, None, codes}
use Rattle.call_words.specs.declared.options.Verb.{Verb}
use Rattle.call_words.specs.declared.options.Verb.TheVariants as verb
use Rattle.call_words.specs.declared.options.OptionName.{OptionName}
use Rattle.call_words.specs.declared.options.OptionName.TheVariants as option
use Rattle.call_words.specs.declared.options.Takes.{Takes}
use Rattle.call_words.specs.declared.options.Takes.TheVariants as takes

-- a row: the name of an option, what it takes, and in which commands it stands, each with its value where the option is not given
pub record Choice : Type 0 where
  pub name : List ℕ
  pub takes : Takes
  pub default : Verb → Option ℕ

-- the columns of the defaults: `run`, `heat`
abbrev pub defaults : Option ℕ → Option ℕ → Verb → Option ℕ
defaults in_run in_heat verb.Run = in_run
defaults in_run in_heat verb.Heat = in_heat

-- the row of a number of this range, with its defaults in `run` and in `heat`
abbrev pub number : List ℕ → ℕ → ℕ → Option ℕ → Option ℕ → Choice
number name least most in_run in_heat = record { name = name; takes = takes.Number least most; default = defaults in_run in_heat }

-- the row of a flag that is off where it is not given
abbrev pub flag : List ℕ → Choice
flag name = record { name = name; takes = takes.Flag; default = defaults (Some 0) (Some 0) }

-- the rows of the table
abbrev pub row : OptionName → Choice
row option.Ranks = number (codes "--ranks") 1 64 (Some 1) (Some 2)
row option.Eager = number (codes "--eager") 0 16777216 (Some 64) (Some 64)
row option.Trace = flag (codes "--trace")
row option.Seed = number (codes "--seed") 0 4294967295 None (Some 1)
row option.Blocks = number (codes "--blocks") 1 1024 None (Some 4)
row option.Cells = number (codes "--cells") 1 65536 None (Some 1024)
row option.Steps = number (codes "--steps") 0 10000 None (Some 10)

-- the options, in the order of the table
abbrev pub options : List OptionName
options = option.Ranks ∷ option.Eager ∷ option.Trace ∷ option.Seed ∷ option.Blocks ∷ option.Cells ∷ option.Steps ∷ []
