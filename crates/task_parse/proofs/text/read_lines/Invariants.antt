use Rattle.std.proofs.Common.{◌≡◌, [], ◌+◌, ◌≤◌, length}
use Rattle.task_parse.specs.Trees.{lines_of}
use Rattle.task_parse.specs.Verdicts.{verdict, onto}
use Rattle.task_parse.proofs.text.read_lines.Given as goal

-- the statements so far, and the verdict on the rest, are the verdict on the text, and a line has a byte at least
abbrev pub invariant-loop-rest : goal.invariant-loop-rest
invariant-loop-rest l = record {
  read : verdict 1 [] (lines_of l.text) ≡ onto l.stmts.items (verdict l.number l.blocks (lines_of l.rest));
  counted : l.number + length l.rest ≤ 1 + length l.text;
}

abbrev pub decreases-loop-rest : goal.decreases-loop-rest
decreases-loop-rest l = length l.rest
