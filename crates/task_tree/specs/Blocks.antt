-- The blocks of a text, and how they are written as its statements (this project's).
use Rattle.std.specs.Prelude.{◌≡◌, ℕ, zero, suc, Bool, true, false, List, [], ◌∷◌, ◌++◌, map, ⊤}
use Rattle.rt_base.specs.declared.data.Mode.{Mode}
use Rattle.task_tree.specs.declared.tree.SpanText.{SpanText}
use Rattle.task_tree.specs.declared.tree.What.{What}
use Rattle.task_tree.specs.declared.tree.What.TheVariants as what
use Rattle.task_tree.specs.declared.tree.Stmt.{Stmt}
use Rattle.task_tree.specs.Term.{Term}

-- an access line of a task
pub record AccessLine : Type 0 where
  pub line : ℕ
  pub mode : Mode
  pub span : SpanText

-- the statement is a whole line by itself: it opens no block, closes none and parts none
abbrev pub is_plain : What → Bool
is_plain (what.Array name len) = true
is_plain (what.Show name) = true
is_plain (what.Comm name) = true
is_plain (what.Let name value) = true
is_plain (what.For name from to) = false
is_plain (what.If test) = false
is_plain what.Else = false
is_plain what.End = false
is_plain what.Taskwait = true
is_plain what.Task = false
is_plain (what.Touch mode span) = false
is_plain what.Do = false
is_plain (what.Kern kernel spans values) = true
is_plain (what.Posting how handle span peer tag comm status) = true
is_plain (what.Waiting later handles status) = true

-- a text in blocks: each holds what comes after it, up to the end of the block that it stands in
pub data Block : Type 0 where
  Done : Block
  Plain : (line : ℕ) (said : What) (plain : is_plain said ≡ true) (rest : Block) → Block
  Loop : (line : ℕ) (name : List ℕ) (from to : Term) (body : Block) (last : ℕ) (rest : Block) → Block
  When : (line : ℕ) (test : Term) (body : Block) (last : ℕ) (rest : Block) → Block
  Choice : (line : ℕ) (test : Term) (body : Block) (middle : ℕ) (other : Block) (last : ℕ) (rest : Block) → Block
  Work : (line : ℕ) (accesses : List AccessLine) (middle : ℕ) (body : Block) (last : ℕ) (rest : Block) → Block

-- a statement, with the number of its line
abbrev pub stmt : ℕ → What → Stmt
stmt line said = record { line = line; what = said }

-- the statement of an access line
abbrev pub access_stmt : AccessLine → Stmt
access_stmt access = stmt access.line (what.Touch access.mode access.span)

-- the statements that write the blocks
abbrev pub written : Block → List Stmt
written Done = []
written (Plain line said plain rest) = stmt line said ∷ written rest
written (Loop line name from to body last rest) = stmt line (what.For name from to) ∷ (written body ++ (stmt last what.End ∷ written rest))
written (When line test body last rest) = stmt line (what.If test) ∷ (written body ++ (stmt last what.End ∷ written rest))
written (Choice line test body middle other last rest) =
    stmt line (what.If test) ∷ (written body ++ (stmt middle what.Else ∷ (written other ++ (stmt last what.End ∷ written rest))))
written (Work line accesses middle body last rest) =
    stmt line what.Task ∷ (map access_stmt accesses ++ (stmt middle what.Do ∷ (written body ++ (stmt last what.End ∷ written rest))))

-- where a statement may stand: outside every block, elsewhere outside every task, or in a task's body
pub data Place : Type 0 where
  Top : Place
  Main : Place
  Body : Place

-- the place inside a `for` or an `if` that stands here
abbrev pub within : Place → Place
within Top = Main
within Main = Main
within Body = Body

-- outside every block
abbrev pub is_top : Place → Bool
is_top Top = true
is_top Main = false
is_top Body = false

-- in a task's body
abbrev pub is_body : Place → Bool
is_body Top = false
is_body Main = false
is_body Body = true

-- outside every task
abbrev pub is_main : Place → Bool
is_main Top = true
is_main Main = true
is_main Body = false

-- a statement that is a line by itself may stand here
abbrev pub stands : Place → What → Bool
stands place (what.Array name len) = is_top place
stands place (what.Show name) = is_top place
stands place (what.Comm name) = is_top place
stands place (what.Let name value) = true
stands place (what.For name from to) = false
stands place (what.If test) = false
stands place what.Else = false
stands place what.End = false
stands place what.Taskwait = is_main place
stands place what.Task = false
stands place (what.Touch mode span) = false
stands place what.Do = false
stands place (what.Kern kernel spans values) = is_body place
stands place (what.Posting how handle span peer tag comm status) = is_body place
stands place (what.Waiting later handles status) = is_body place

-- each statement stands where it may, and at most so many blocks are open within one another
abbrev pub Nested : ℕ → Place → Block → Type 0
Nested k place Done = ⊤
Nested k place (Plain line said plain rest) = (stands place said ≡ true) × Nested k place rest
Nested zero place (Loop line name from to body last rest) = ⊥
Nested (suc k) place (Loop line name from to body last rest) = Nested k (within place) body × Nested (suc k) place rest
Nested zero place (When line test body last rest) = ⊥
Nested (suc k) place (When line test body last rest) = Nested k (within place) body × Nested (suc k) place rest
Nested zero place (Choice line test body middle other last rest) = ⊥
Nested (suc k) place (Choice line test body middle other last rest) =
    Nested k (within place) body × Nested k (within place) other × Nested (suc k) place rest
Nested zero place (Work line accesses middle body last rest) = ⊥
Nested (suc k) place (Work line accesses middle body last rest) = (is_main place ≡ true) × Nested k Body body × Nested (suc k) place rest
