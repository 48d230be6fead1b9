-- What follows for expressions from the grammar and from how they are read.
use Rattle.std.specs.Prelude.{◌≡◌, ℕ, min, true, List, ◌++◌, Result, Ok, Err}
use Rattle.rt_base.specs.declared.data.FaultKind.{FaultKind}
use Rattle.rt_base.specs.declared.data.FaultKind.TheVariants as fault
use Rattle.task_tree.specs.declared.token.Token.{Token}
use Rattle.task_tree.specs.Term.{Term}
use Rattle.task_tree.specs.Grammar.{Is, ends}
use Rattle.task_tree.specs.Expressions.{expr_at}
use Rattle.task_tree.specs.Blocks.{Block, written}

-- an expression as it is spelled, before tokens that do not go on with it, is read whole
abbrev pub SpelledIsRead : Type 0
SpelledIsRead = (depth : ℕ) (front rest : List Token) (e : Term) → Is 0 depth front e → ends rest ≡ true
    → expr_at (front ++ rest) ≡ Ok ((e, min depth 65), rest)

-- what was read of all the tokens stands at their front as the grammar spells it, and what is left does not go on with it
pub record IsSpelled (e : Term) (capped : ℕ) (rest all : List Token) : Type 0 where
  pub front : List Token
  pub depth : ℕ
  pub whole : all ≡ front ++ rest
  pub spelled : Is 0 depth front e
  pub cap : capped ≡ min depth 65
  pub end : ends rest ≡ true

-- the one fault is `Shape`
abbrev pub Finds : Result ((Term × ℕ) × List Token) FaultKind → List Token → Type 0
Finds (Ok x) all = IsSpelled x.0.0 x.0.1 x.1 all
Finds (Err kind) all = kind ≡ fault.Shape

-- what is read is spelled so
abbrev pub ReadIsSpelled : Type 0
ReadIsSpelled = (tokens : List Token) → Finds (expr_at tokens) tokens

-- tokens are an expression in at most one way, and of one depth
abbrev pub OneExpression : Type 0
OneExpression = (c d : ℕ) (tokens : List Token) (a b : Term) → Is 0 c tokens a → Is 0 d tokens b → (a ≡ b) × (c ≡ d)

-- statements are written by one text in blocks at most
abbrev pub OneTextInBlocks : Type 0
OneTextInBlocks = (one other : Block) → written one ≡ written other → one ≡ other
