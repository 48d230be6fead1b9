-- What a call owes, from what its text asks for.
use Rattle.std.proofs.Common.{◌≡◌, ℕ, List, Some}
use Rattle.call_words.specs.declared.command.Command.{Command}
use Rattle.call_ends.specs.declared.ending.Refusal.TheVariants as refusal
use Rattle.tampi_top.specs.declared.decided.Due.{Due}
use Rattle.tampi_top.specs.declared.decided.Due.TheVariants as due
use Rattle.call_words.specs.Words.{command}
use Rattle.tampi_top.specs.Due.{Call, options_of, HasText}
use Rattle.tampi_top.specs.Decided.{IsOfText, IsDecided}

-- the text that the command runs decides
pub decided_by : (call : Call) (asked : Command) (text : List ℕ) (owed : Due) → command call.words ≡ Some asked
    → HasText call asked text → IsOfText (options_of asked) text owed → IsDecided call owed
decided_by call asked text (due.Refused refusal.Words) is_asked has_text of_text = absurd of_text
decided_by call asked text (due.Refused refusal.ReadFault) is_asked has_text of_text = absurd of_text
decided_by call asked text (due.Refused refusal.TooLong) is_asked has_text of_text = absurd of_text
decided_by call asked text (due.Refused (refusal.Fault number kind)) is_asked has_text of_text =
    record { asked = asked; is_asked = is_asked; input = text; has_text = has_text; holds = of_text }
decided_by call asked text (due.Refused (refusal.Limit which)) is_asked has_text of_text =
    record { asked = asked; is_asked = is_asked; input = text; has_text = has_text; holds = of_text }
decided_by call asked text (due.Ran run) is_asked has_text of_text = (
  of_text.0,
  record {
    asked = asked;
    is_asked = is_asked;
    input = text;
    has_text = has_text;
    program = run.program;
    accepted = of_text.1;
    run = of_text.2;
  },
)
decided_by call asked text due.Memory is_asked has_text of_text = tt
