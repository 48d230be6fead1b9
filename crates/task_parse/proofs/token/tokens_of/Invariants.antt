use Rattle.std.proofs.Common.{◌≡◌, length}
use Rattle.task_parse.specs.Tokens.{tokens_of, with_front}
use Rattle.task_parse.proofs.token.tokens_of.Given as goal

-- the tokens so far, and those of the rest, are those of the line
abbrev pub invariant-loop-rest : goal.invariant-loop-rest
invariant-loop-rest l = tokens_of l.line ≡ with_front l.tokens.items (tokens_of l.rest)

abbrev pub decreases-loop-rest : goal.decreases-loop-rest
decreases-loop-rest l = length l.rest
