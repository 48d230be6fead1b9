-- Laws on what a call owes.
use Rattle.std.specs.Prelude.{◌≡◌, ℕ, ◌≤◌, List, [], length, Some}
use Rattle.rt_base.specs.declared.data.Status.{Status}
use Rattle.rt_base.specs.declared.data.Entry.{Entry}
use Rattle.rt_base.specs.declared.data.Program.{Program}
use Rattle.rt_base.specs.Outside.{Rose}
use Rattle.call_words.specs.declared.command.Command.{Command}
use Rattle.call_words.specs.declared.command.Command.TheVariants as asked
use Rattle.heat_text.specs.Heat.{heat_text}
use Rattle.call_ends.specs.declared.ending.Verdict.{Verdict}
use Rattle.call_ends.specs.declared.ending.Ending.{Ending}
use Rattle.call_ends.specs.declared.ending.Ending.TheVariants as ending
use Rattle.call_ends.specs.declared.ending.Refusal.{Refusal}
use Rattle.call_words.specs.Words.{command}
use Rattle.tampi_top.specs.Accepted.{IsProgramText}
use Rattle.tampi_top.specs.Due.{Call, options_of, IsRefusedText, IsDue}

-- what a call is given to run: for `run` the text that its source tells, at most 1,048,576 bytes at which no read failed; for `heat` the heat text
abbrev pub IsGivenText : Call → Command → List ℕ → Type 0
IsGivenText call (asked.Run options) text = (call.given ≡ Some text) × (length text ≤ 1048576) × ¬ Rose call.before call.now
IsGivenText call (asked.Heat options sizes) text = text ≡ heat_text sizes.blocks sizes.cells sizes.steps sizes.seed

-- the words of a call give this command, and this is the text that it is given to run
pub record IsGiven (call : Call) (one : Command) (text : List ℕ) : Type 0 where
  pub is_asked : command call.words ≡ Some one
  pub is_text : IsGivenText call one text

-- what is left of the input: nothing where it is run, and else all of it
abbrev pub IsLeft : Call → Command → Type 0
IsLeft call (asked.Run options) = call.left ≡ Some []
IsLeft call (asked.Heat options sizes) = call.left ≡ call.given

-- a text of a command that says a program is run, and an input that is read was read to its end
abbrev pub ProgramsAreRun : Type 0
ProgramsAreRun =
    (call : Call) (ends : Ending) (entries : List Entry) (statuses : List Status) (written : List ℕ) → IsDue call ends entries statuses written
    → (one : Command) (text : List ℕ) (program : Program) → IsGiven call one text → IsProgramText (options_of one) text program
    → (outcome : Verdict) × (ends ≡ ending.Ran outcome) × IsLeft call one

-- a text with a fault, or a limit that it meets first, is refused so
abbrev pub TextsAreRefused : Type 0
TextsAreRefused =
    (call : Call) (ends : Ending) (entries : List Entry) (statuses : List Status) (written : List ℕ) → IsDue call ends entries statuses written
    → (one : Command) (text : List ℕ) (why : Refusal) → IsGiven call one text → IsRefusedText (options_of one) text why → ends ≡ ending.Refused why
