-- Where the blocks of a flat list of statements end: how the unroller finds its way (this project's).
use Rattle.std.specs.Prelude.{◌≡◌, ℕ, zero, suc, ◌+◌, ◌<◌, Bool, true, false, List, [], ◌∷◌, length, drop, slice_get, slice_index, Option, Some, None}
use Rattle.task_tree.specs.declared.tree.Stmt.{Stmt}
use Rattle.task_tree.specs.declared.tree.What.{What}
use Rattle.task_tree.specs.declared.tree.What.TheVariants as what

-- what a statement is to the blocks round it
pub data Mark : Type 0 where
  Opens : Mark
  Parts : Mark
  Closes : Mark
  Stays : Mark

-- what each statement is to the blocks round it
abbrev pub mark : What → Mark
mark (what.Array name len) = Stays
mark (what.Show name) = Stays
mark (what.Comm name) = Stays
mark (what.Let name value) = Stays
mark (what.For name from to) = Opens
mark (what.If test) = Opens
mark what.Else = Parts
mark what.End = Closes
mark what.Taskwait = Stays
mark what.Task = Opens
mark (what.Touch mode span) = Stays
mark what.Do = Stays
mark (what.Kern kernel spans values) = Stays
mark (what.Posting how handle span peer tag comm status) = Stays
mark (what.Waiting later handles status) = Stays

-- how many more blocks are open behind a statement than at first. None: it closes or parts the block that was open at first
abbrev pub deeper : Mark → ℕ → Option ℕ
deeper Opens depth = Some (suc depth)
deeper Parts zero = None
deeper Parts (suc depth) = Some (suc depth)
deeper Closes zero = None
deeper Closes (suc depth) = Some depth
deeper Stays depth = Some depth

-- nothing more where the block is closed or parted, and else this statement and what comes behind it
abbrev pub or_more : Option ℕ → (ℕ → ℕ) → ℕ
or_more None more = 0
or_more (Some depth) more = suc (more depth)

-- how many statements stand before the one that closes or parts the block, where so many more blocks are open
abbrev pub skipped : ℕ → List Stmt → ℕ
skipped depth [] = 0
skipped depth (s ∷ rest) = or_more (deeper (mark s.what) depth) (λ next. skipped next rest)

-- the place of the statement that closes or parts the block that is open at this place
unfoldable pub close_of : List Stmt → ℕ → ℕ
close_of stmts place = place + skipped 0 (drop place stmts)

-- a statement behind which the block that it begins may be left at once
abbrev pub may_jump : What → Bool
may_jump (what.Array name len) = false
may_jump (what.Show name) = false
may_jump (what.Comm name) = false
may_jump (what.Let name value) = false
may_jump (what.For name from to) = true
may_jump (what.If test) = true
may_jump what.Else = true
may_jump what.End = false
may_jump what.Taskwait = false
may_jump what.Task = false
may_jump (what.Touch mode span) = false
may_jump what.Do = false
may_jump (what.Kern kernel spans values) = false
may_jump (what.Posting how handle span peer tag comm status) = false
may_jump (what.Waiting later handles status) = false

-- the first n places of a table: for each such statement the place where the block behind it is closed or parted
pub record AreEndsUpTo (stmts : List Stmt) (ends : List ℕ) (n : ℕ) : Type 0 where
  pub long : length ends ≡ n
  pub each : (place : ℕ) (s : Stmt) → place < n → slice_get stmts place ≡ Some s → may_jump s.what ≡ true → slice_index ends place ≡ close_of stmts (place + 1)

-- the whole table of the statements
abbrev pub AreEnds : List Stmt → List ℕ → Type 0
AreEnds stmts ends = AreEndsUpTo stmts ends (length stmts)
