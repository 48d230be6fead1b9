use Rattle.std.proofs.Common.{sym, Some, ◌≡◌, rules}
use Rattle.call_words.specs.declared.command.Command.TheVariants as asked
use Rattle.call_words.specs.Words.{command}
use Rattle.tampi_top.specs.Due.{Call}
use Rattle.tampi_top.proofs.DueLemmas.{decided_by}
use Rattle.tampi_top.proofs.decided.due_of.Goals as goal

pub returns-in-Whole : goal.returns-in-Whole
returns-in-Whole g c =
    let call : Call = record {
      words = c.args.words.now;
      given = g.S.ByteSource.rest c.args.input.now;
      left = g.S.ByteSource.rest c.read_text.new.input;
      before = g.S.ByteSource.faults c.args.input.now;
      now = g.S.ByteSource.faults c.read_text.new.input;
    } in
    let read = c.in-Whole.ensures.taken in
    let is_asked : command c.args.words.now ≡ Some (asked.Run c.in-Ok-Some-Run.asked) = search (c.in-Ok-Some-Run.ensures.value, rules) in
    decided_by call _ _ _ is_asked read (rw c.as_slice.ensures.value at c.due_of_text.ensures)
