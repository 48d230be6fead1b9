-- What follows for statements from their forms and from how they are read, and for texts from their definitions.
use Rattle.std.specs.Prelude.{◌≡◌, ◌↔◌, ℕ, min, List, Result, Ok, Err}
use Rattle.rt_base.specs.declared.data.FaultKind.{FaultKind}
use Rattle.rt_base.specs.declared.data.FaultKind.TheVariants as fault
use Rattle.task_tree.specs.declared.token.Token.{Token}
use Rattle.task_tree.specs.declared.tree.What.{What}
use Rattle.task_tree.specs.declared.tree.Stmt.{Stmt}
use Rattle.task_parse.specs.Statements.{IsStatement}
use Rattle.task_parse.specs.Readings.{statement}
use Rattle.task_parse.specs.Trees.{IsOutcome}

-- a statement is read exactly where the tokens have one of its forms, and 65 stands for every depth above 64
abbrev pub StatementIsSpelled : Type 0
StatementIsSpelled = (tokens : List Token) (said : What) (capped : ℕ) →
    (statement tokens ≡ Ok (said, capped)) ↔ ((depth : ℕ) × IsStatement depth tokens said × (capped ≡ min depth 65))

-- tokens say one thing at most, at one depth up to 64
abbrev pub OneStatement : Type 0
OneStatement = (c d : ℕ) (tokens : List Token) (one other : What) →
    IsStatement c tokens one → IsStatement d tokens other → (one ≡ other) × (min c 65 ≡ min d 65)

-- the one fault of a line's tokens is `Shape`, and it comes only where they have none of the forms
abbrev pub ShapeIsTheFault : Type 0
ShapeIsTheFault = (tokens : List Token) (kind : FaultKind) → statement tokens ≡ Err kind →
    (kind ≡ fault.Shape) × ((depth : ℕ) (said : What) → IsStatement depth tokens said → ⊥)

-- each text has a tree or a first fault, one and no other
abbrev pub OneOutcome : Type 0
OneOutcome = (text : List ℕ) → (one : Result (List Stmt) (ℕ × FaultKind)) × IsOutcome text one
    × ((other : Result (List Stmt) (ℕ × FaultKind)) → IsOutcome text other → other ≡ one)
