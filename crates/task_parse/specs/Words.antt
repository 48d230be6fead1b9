-- The reserved words of the text language (this project's).
use Rattle.std.specs.Prelude.{ℕ, List, [], ◌∷◌, Option, Some, None, codes, if◌then◌else◌}
use Rattle.std.specs.Option.{option_or}
use Rattle.std.specs.Str.{bytes_eq}
use Rattle.task_tree.specs.declared.key.Key.{Key}
use Rattle.task_tree.specs.declared.key.Key.TheVariants as key

-- what the table has for these bytes
abbrev pub lookup : {T : Type 0} → List (List ℕ × T) → List ℕ → Option T
lookup [] bytes = None
lookup (row ∷ rows) bytes = if bytes_eq bytes row.0 then Some row.1 else lookup rows bytes

-- the words of the main text
abbrev pub outer_words : List (List ℕ × Key)
outer_words =
    (codes "array", key.Array) ∷ (codes "show", key.Show) ∷ (codes "comm", key.Comm) ∷
    (codes "let", key.Let) ∷ (codes "for", key.For) ∷ (codes "if", key.If) ∷ (codes "else", key.Else) ∷
    (codes "end", key.End) ∷ []

-- the word of the main text that these bytes are
unfoldable pub outer_word : List ℕ → Option Key
outer_word word = lookup outer_words word

-- the words of a task and of its accesses
abbrev pub task_words : List (List ℕ × Key)
task_words =
    (codes "task", key.Task) ∷ (codes "do", key.Do) ∷ (codes "in", key.In) ∷ (codes "out", key.Out) ∷
    (codes "inout", key.Inout) ∷ (codes "taskwait", key.Taskwait) ∷ (codes "release", key.Release) ∷
    (codes "barrier", key.Barrier) ∷ (codes "bcast", key.Bcast) ∷ (codes "allreduce", key.Allreduce) ∷ []

-- the word of a task or of its accesses that these bytes are
unfoldable pub task_word : List ℕ → Option Key
task_word word = lookup task_words word

-- the words of the kernels
abbrev pub kernel_words : List (List ℕ × Key)
kernel_words =
    (codes "fill", key.Fill) ∷ (codes "ramp", key.Ramp) ∷ (codes "copy", key.Copy) ∷ (codes "add", key.Add) ∷
    (codes "sub", key.Sub) ∷ (codes "scale", key.Scale) ∷ (codes "shift", key.Shift) ∷
    (codes "jacobi2", key.Jacobi2) ∷ (codes "sum", key.Sum) ∷ (codes "least", key.Least) ∷
    (codes "greatest", key.Greatest) ∷ []

-- the kernel that these bytes are
unfoldable pub kernel_word : List ℕ → Option Key
kernel_word word = lookup kernel_words word

-- the words of messages and waits
abbrev pub message_words : List (List ℕ × Key)
message_words =
    (codes "send", key.Send) ∷ (codes "ssend", key.Ssend) ∷ (codes "recv", key.Recv) ∷
    (codes "isend", key.Isend) ∷ (codes "issend", key.Issend) ∷ (codes "irecv", key.Irecv) ∷
    (codes "wait", key.Wait) ∷ (codes "waitall", key.Waitall) ∷ (codes "iwait", key.Iwait) ∷
    (codes "iwaitall", key.Iwaitall) ∷ []

-- the word of a message or a wait that these bytes are
unfoldable pub message_word : List ℕ → Option Key
message_word word = lookup message_words word

-- the words inside a statement
abbrev pub operand_words : List (List ℕ × Key)
operand_words =
    (codes "on", key.On) ∷ (codes "status", key.Status) ∷ (codes "any", key.Any) ∷ (codes "null", key.Null) ∷
    (codes "rank", key.Rank) ∷ (codes "size", key.Size) ∷ []

-- the word inside a statement that these bytes are
unfoldable pub operand_word : List ℕ → Option Key
operand_word word = lookup operand_words word

-- the reserved word with these bytes
abbrev pub key_of : List ℕ → Option Key
key_of word =
    option_or (outer_word word) (option_or (task_word word) (option_or (kernel_word word) (option_or (message_word word) (operand_word word))))
