-- The lines of a text, read one by one. No public clause cites this module.
use Rattle.std.specs.Prelude.{◌≡◌, ℕ, ◌+◌, List, [], ◌∷◌, ◌++◌, Option, Some, None, Result, Ok, Err}
use Rattle.rt_base.specs.declared.data.FaultKind.{FaultKind}
use Rattle.rt_base.specs.declared.data.FaultKind.TheVariants as fault
use Rattle.task_tree.specs.declared.token.Token.{Token}
use Rattle.task_tree.specs.declared.tree.What.{What}
use Rattle.task_tree.specs.declared.tree.Stmt.{Stmt}
use Rattle.task_tree.specs.declared.refusal.LineRefusal.{LineRefusal}
use Rattle.task_tree.specs.declared.refusal.LineRefusal.TheVariants as line_refusal
use Rattle.task_tree.specs.Reading.{◌>>=◌}
use Rattle.task_tree.specs.Blocks.{stmt}
use Rattle.task_parse.specs.declared.block.OpenBlock.{OpenBlock}
use Rattle.task_parse.specs.declared.refusal.ParseRefusal.{ParseRefusal}
use Rattle.task_parse.specs.declared.refusal.ParseRefusal.TheVariants as refusal
use Rattle.task_parse.specs.Tokens.{tokens_of}
use Rattle.task_parse.specs.Readings.{statement}
use Rattle.task_parse.specs.Openings.{next}

-- a line without tokens says nothing
abbrev pub said : List Token → Result (Option (What × ℕ)) FaultKind
said [] = Ok None
said (first ∷ more) = statement (first ∷ more) >>= λ what. Ok (Some what)

-- what a line says and its depth, or its first fault
unfoldable pub what_of : List ℕ → Result (Option (What × ℕ)) FaultKind
what_of line = tokens_of line >>= said

-- what a line says, and the blocks that are open behind it
abbrev pub stood : Option (What × ℕ) → List OpenBlock → Result (Option What × List OpenBlock) FaultKind
stood None blocks = Ok (None, blocks)
stood (Some w) blocks = next w.1 w.0 blocks >>= λ behind. Ok (Some w.0, behind)

-- what the bytes of a line say, and the blocks that are open behind it
abbrev pub line_at : List ℕ → List OpenBlock → Result (Option What × List OpenBlock) FaultKind
line_at line blocks = what_of line >>= λ what. stood what blocks

-- the statement of the line of this number, where it says one
abbrev pub stmts_of : ℕ → Option What → List Stmt
stmts_of number None = []
stmts_of number (Some said) = stmt number said ∷ []

-- the statements so far, with that of one line more, and the blocks that are open behind it
abbrev pub with_line : List Stmt → List OpenBlock → ℕ → List ℕ → Result (List Stmt × List OpenBlock) FaultKind
with_line stmts blocks number line = line_at line blocks >>= λ x. Ok (stmts ++ stmts_of number x.0, x.1)

-- the tree of a text, or its first fault with its line
abbrev pub Verdict : Type 0
Verdict = Result (List Stmt) (ℕ × FaultKind)

-- the verdict with these statements before it
abbrev pub onto : List Stmt → Verdict → Verdict
onto front (Ok stmts) = Ok (front ++ stmts)
onto front (Err f) = Err f

-- a fault of the line of this number is one of the text, and else the lines behind it decide
abbrev pub on_line : ℕ → Result (Option What × List OpenBlock) FaultKind → (List OpenBlock → Verdict) → Verdict
on_line number (Ok x) more = onto (stmts_of number x.0) (more x.1)
on_line number (Err kind) more = Err (number, kind)

-- behind the last line no block is open
abbrev pub at_end : ℕ → List OpenBlock → Verdict
at_end number [] = Ok []
at_end number (inner ∷ around) = Err (number, fault.Open)

-- the verdict on the lines, the first of which has this number, where these blocks are open
abbrev pub verdict : ℕ → List OpenBlock → List (List ℕ) → Verdict
verdict number blocks [] = at_end number blocks
verdict number blocks (line ∷ lines) = on_line number (line_at line blocks) (λ behind. verdict (number + 1) behind lines)

-- the refusal of the line of this number is one of the text
abbrev pub numbered : ℕ → LineRefusal → ParseRefusal
numbered number (line_refusal.Fault kind) = refusal.Fault number kind
numbered number line_refusal.Memory = refusal.Memory

-- a refusal for want of memory says nothing of the verdict, and a fault is its fault
abbrev pub FailsAt : ParseRefusal → Verdict → Type 0
FailsAt refusal.Memory read = Unit {0}
FailsAt (refusal.Fault line kind) read = read ≡ Err (line, kind)

-- what a function returned, seen by view, is the verdict, unless memory ran out
abbrev pub GivesAt : {X : Type 0} → (X → List Stmt) → Result X ParseRefusal → Verdict → Type 0
GivesAt view (Ok x) read = read ≡ Ok (view x)
GivesAt view (Err e) read = FailsAt e read
