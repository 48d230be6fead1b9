-- A text's tree and a text's first fault (this project's).
use Rattle.std.specs.Prelude.{◌≡◌, ℕ, ◌+◌, ◌<◌, ◌≤◌, ◌==◌, Bool, true, false, List, [], ◌∷◌, ◌++◌, length, count_by, ◌⊎◌, Result, Ok, Err, if◌then◌else◌}
use Rattle.rt_base.specs.declared.data.FaultKind.{FaultKind}
use Rattle.rt_base.specs.declared.data.FaultKind.TheVariants as fault
use Rattle.task_tree.specs.declared.token.Token.{Token}
use Rattle.task_tree.specs.declared.tree.What.{What}
use Rattle.task_tree.specs.declared.tree.What.TheVariants as what
use Rattle.task_tree.specs.declared.tree.Stmt.{Stmt}
use Rattle.task_tree.specs.Blocks.{Block, stmt, written, Top, Nested}
use Rattle.task_parse.specs.declared.refusal.ParseRefusal.{ParseRefusal}
use Rattle.task_parse.specs.declared.refusal.ParseRefusal.TheVariants as refusal
use Rattle.task_parse.specs.Tokens.{tokens_of}
use Rattle.task_parse.specs.Statements.{IsStatement}

-- a byte before the lines is one of the first line
abbrev pub onto_line : ℕ → List (List ℕ) → List (List ℕ)
onto_line byte [] = (byte ∷ []) ∷ []
onto_line byte (line ∷ lines) = (byte ∷ line) ∷ lines

-- a text is cut into lines at LF, and a last piece that is empty is no line
abbrev pub lines_of : List ℕ → List (List ℕ)
lines_of [] = []
lines_of (byte ∷ bytes) = if byte == 10 then [] ∷ lines_of bytes else onto_line byte (lines_of bytes)

-- the tokens of the line are this statement, in which so many brackets and unary minus signs are open at the deepest place
abbrev pub Spells : List ℕ → ℕ → What → Type 0
Spells line depth said = (tokens : List Token) × (tokens_of line ≡ Ok tokens) × IsStatement depth tokens said

-- lines, the first of which has this number, say these statements, each with the number of its line.
-- A line without tokens says nothing, and no line is deeper than 64.
pub data Say : ℕ → List (List ℕ) → List Stmt → Type 0 where
  none : {n : ℕ} → Say n [] []
  blank : {n : ℕ} {line : List ℕ} {lines : List (List ℕ)} {stmts : List Stmt} → tokens_of line ≡ Ok [] → Say (n + 1) lines stmts
      → Say n (line ∷ lines) stmts
  statement : {n depth : ℕ} {line : List ℕ} {lines : List (List ℕ)} {said : What} {stmts : List Stmt} → Spells line depth said → depth ≤ 64
      → Say (n + 1) lines stmts → Say n (line ∷ lines) (stmt n said ∷ stmts)

-- the statements write blocks in which each statement stands where it may, at most 64 blocks within one another
abbrev pub AreNested : List Stmt → Type 0
AreNested stmts = (whole : Block) × (written whole ≡ stmts) × Nested 64 Top whole

-- the lines have this tree
abbrev pub HaveTree : List (List ℕ) → List Stmt → Type 0
HaveTree lines stmts = Say 1 lines stmts × AreNested stmts

-- some statements behind these make well nested blocks of them
abbrev pub CanGoOn : List Stmt → Type 0
CanGoOn stmts = (more : List Stmt) × AreNested (stmts ++ more)

-- the statement opens a block
abbrev pub opens : What → Bool
opens (what.For name from to) = true
opens (what.If test) = true
opens what.Task = true
opens other = false

-- how many of the statements open a block
abbrev pub opening : List Stmt → ℕ
opening stmts = count_by (λ s. opens s.what) stmts

-- the statement ends a block
abbrev pub ends : What → Bool
ends what.End = true
ends other = false

-- how many of the statements end a block
abbrev pub ending : List Stmt → ℕ
ending stmts = count_by (λ s. ends s.what) stmts

-- a line of this depth is too deep by itself, or it opens a block where 64 are open
abbrev pub IsTooDeep : List Stmt → ℕ → What → Type 0
IsTooDeep before depth said = (64 < depth) ⊎ ((opens said ≡ true) × (ending before + 64 ≤ opening before))

-- the line of this number is faulty behind these statements, and this is its kind: the first of the list that holds
pub data IsFaulty (before : List Stmt) (number : ℕ) (line : List ℕ) : FaultKind → Type 0 where
  token : {kind : FaultKind} → tokens_of line ≡ Err kind → IsFaulty before number line kind
  shape : {first : Token} {more : List Token} → tokens_of line ≡ Ok (first ∷ more) → ((depth : ℕ) (said : What) → ¬ IsStatement depth (first ∷ more) said)
      → IsFaulty before number line fault.Shape
  depth : {depth : ℕ} {said : What} → Spells line depth said → IsTooDeep before depth said → IsFaulty before number line fault.Depth
  place : {depth : ℕ} {said : What} → Spells line depth said → ¬ IsTooDeep before depth said → ¬ CanGoOn (before ++ stmt number said ∷ [])
      → IsFaulty before number line fault.Place

-- the first fault of the lines, with the number of its line: no line before it is faulty.
-- Where no line is, a block that is left open is a fault behind the last line.
pub data HaveFault : List (List ℕ) → ℕ → FaultKind → Type 0 where
  at_line : {before : List (List ℕ)} {line : List ℕ} {stmts : List Stmt} {kind : FaultKind} (rest : List (List ℕ)) → Say 1 before stmts → CanGoOn stmts
      → IsFaulty stmts (length before + 1) line kind → HaveFault (before ++ line ∷ rest) (length before + 1) kind
  at_end : {lines : List (List ℕ)} {stmts : List Stmt} → Say 1 lines stmts → CanGoOn stmts → ¬ AreNested stmts
      → HaveFault lines (length lines + 1) fault.Open

-- the text has this tree
abbrev pub IsTree : List ℕ → List Stmt → Type 0
IsTree text stmts = HaveTree (lines_of text) stmts

-- the text's first fault is of this kind, at the line of this number
abbrev pub IsFirstFault : List ℕ → ℕ → FaultKind → Type 0
IsFirstFault text number kind = HaveFault (lines_of text) number kind

-- why a text has no tree: this first fault; want of memory says nothing of the text
abbrev pub IsReason : List ℕ → ParseRefusal → Type 0
IsReason text (refusal.Fault number kind) = IsFirstFault text number kind
IsReason text refusal.Memory = Unit {0}

-- the text has this tree, or this first fault
abbrev pub IsOutcome : List ℕ → Result (List Stmt) (ℕ × FaultKind) → Type 0
IsOutcome text (Ok stmts) = IsTree text stmts
IsOutcome text (Err f) = IsFirstFault text f.0 f.1
