-- What a call owes: the history of the run, and the text that is written.
use Rattle.std.specs.Prelude.{◌≡◌, ℕ, ◌≤◌, List, [], length, Option, Some, None, ◌⊎◌, String}
use Rattle.std.specs.declared.alloc.Global.{Global}
use Rattle.rt_base.specs.declared.data.Status.{Status}
use Rattle.rt_base.specs.declared.data.Entry.{Entry}
use Rattle.rt_base.specs.declared.data.Program.{Program}
use Rattle.rt_base.specs.Outside.{Rose}
use Rattle.call_words.specs.declared.command.RunOptions.{RunOptions}
use Rattle.call_words.specs.declared.command.Command.{Command}
use Rattle.call_words.specs.declared.command.Command.TheVariants as asked
use Rattle.heat_text.specs.Heat.{heat_text}
use Rattle.call_ends.specs.Runs.{IsRunOf}
use Rattle.call_ends.specs.declared.ending.Refusal.{Refusal}
use Rattle.call_ends.specs.declared.ending.Refusal.TheVariants as refusal
use Rattle.call_ends.specs.declared.ending.Verdict.{Verdict}
use Rattle.call_ends.specs.declared.ending.Ending.{Ending}
use Rattle.call_ends.specs.declared.ending.Ending.TheVariants as ending
use Rattle.call_words.specs.Words.{command}
use Rattle.tampi_top.specs.Input.{IsReadWhole, IsTooLong, IsFrontTaken}
use Rattle.call_ends.specs.Ending.{refusal_text}
use Rattle.tampi_top.specs.Accepted.{IsProgramText, IsFaultText, IsLimitText}

-- what a call was given: its words, what its source tells of the bytes before and after the call, and the source's counts of faults
pub record Call : Type 0 where
  pub words : List (String Global)
  pub given : Option (List ℕ)
  pub left : Option (List ℕ)
  pub before : ℕ
  pub now : ℕ

-- the options of the run that a command asks for
abbrev pub options_of : Command → RunOptions
options_of (asked.Run options) = options
options_of (asked.Heat options sizes) = options

-- what a command runs: `run` the text that is read to the end of the input; `heat` the text of the heat solver, and it reads nothing
abbrev pub HasText : Call → Command → List ℕ → Type 0
HasText call (asked.Run options) text = IsReadWhole call.given call.left text × (length text ≤ 1048576)
HasText call (asked.Heat options sizes) text =
    (text ≡ heat_text sizes.blocks sizes.cells sizes.steps sizes.seed) × (call.left ≡ call.given) × (call.now ≡ call.before)

-- the words gave a command, and what it runs is the text of a program of which this is a run
pub record IsRun (call : Call) (outcome : Verdict) (entries : List Entry) (statuses : List Status) (text : List ℕ) : Type 0 where
  pub asked : Command
  pub is_asked : command call.words ≡ Some asked
  pub input : List ℕ
  pub has_text : HasText call asked input
  pub program : Program
  pub accepted : IsProgramText (options_of asked) input program
  pub run : IsRunOf program (options_of asked).trace outcome entries statuses text

-- the words gave a command, and this holds of the text that it runs
pub record IsText (call : Call) (Holds : RunOptions → List ℕ → Type 0) : Type 0 where
  pub asked : Command
  pub is_asked : command call.words ≡ Some asked
  pub input : List ℕ
  pub has_text : HasText call asked input
  pub holds : Holds (options_of asked) input

-- the text is refused so: it has this first fault, or it meets this limit first
abbrev pub IsRefusedText : RunOptions → List ℕ → Refusal → Type 0
IsRefusedText asked text refusal.Words = ⊥
IsRefusedText asked text refusal.ReadFault = ⊥
IsRefusedText asked text refusal.TooLong = ⊥
IsRefusedText asked text (refusal.Fault number kind) = IsFaultText asked text number kind
IsRefusedText asked text (refusal.Limit which) = IsLimitText asked text which

-- the cause of a refusal: the words give no command, and nothing was read; or they give `run`, and the source's count of faults rose, and no more
-- bytes were taken than a text may have, or one byte more was taken; or the text that the command runs is refused so
abbrev pub HasCause : Call → Refusal → Type 0
HasCause call refusal.Words = (command call.words ≡ None) × (call.left ≡ call.given) × (call.now ≡ call.before)
HasCause call refusal.ReadFault =
    (options : RunOptions) × (command call.words ≡ Some (asked.Run options)) × Rose call.before call.now × IsFrontTaken call.given call.left
HasCause call refusal.TooLong = (options : RunOptions) × (command call.words ≡ Some (asked.Run options)) × IsTooLong call.given call.left
HasCause call (refusal.Fault number kind) = IsText call (λ options input. IsRefusedText options input (refusal.Fault number kind))
HasCause call (refusal.Limit which) = IsText call (λ options input. IsRefusedText options input (refusal.Limit which))

-- what a call owes that ends so: a run with its report, or one line and no history
abbrev pub IsDue : Call → Ending → List Entry → List Status → List ℕ → Type 0
IsDue call (ending.Ran outcome) entries statuses text = IsRun call outcome entries statuses text
IsDue call (ending.Refused why) entries statuses text =
    HasCause call why × (text ≡ refusal_text why) × (entries ≡ []) × (statuses ≡ [])
