-- Reading a statement from the tokens of its line.
use Rattle.std.specs.Prelude.{ℕ, true, false, List, ◌∷◌, Result, Err}
use Rattle.rt_base.specs.declared.data.FaultKind.{FaultKind}
use Rattle.rt_base.specs.declared.data.FaultKind.TheVariants as fault
use Rattle.rt_base.specs.declared.data.Mode.TheVariants as mode
use Rattle.rt_base.specs.declared.data.How.TheVariants as how
use Rattle.rt_base.specs.declared.data.Kernel.TheVariants as kernel
use Rattle.task_tree.specs.declared.key.Key.{Key}
use Rattle.task_tree.specs.declared.key.Key.TheVariants as key
use Rattle.task_tree.specs.declared.token.Token.{Token}
use Rattle.task_tree.specs.declared.token.Token.TheVariants as token
use Rattle.task_tree.specs.declared.tree.What.{What}
use Rattle.task_tree.specs.declared.tree.What.TheVariants as what
use Rattle.task_parse.specs.ReadingsOfParts.{Left}
use Rattle.task_parse.specs.ReadingsOfLines.{whole, array_line, show_line, comm_line, let_line, for_line, if_line, touch_line, kernel_line}
use Rattle.task_parse.specs.ReadingsOfLines.{posting_line, wait_line, waitall_line}

-- what the word of an operation begins
unfoldable pub operation : Key → Left → Result (What × ℕ) FaultKind
operation key.Fill x = kernel_line kernel.Fill x
operation key.Ramp x = kernel_line kernel.Ramp x
operation key.Copy x = kernel_line kernel.Copy x
operation key.Add x = kernel_line kernel.Add x
operation key.Sub x = kernel_line kernel.Sub x
operation key.Scale x = kernel_line kernel.Scale x
operation key.Shift x = kernel_line kernel.Shift x
operation key.Jacobi2 x = kernel_line kernel.Jacobi2 x
operation key.Sum x = kernel_line kernel.Sum x
operation key.Least x = kernel_line kernel.Least x
operation key.Greatest x = kernel_line kernel.Greatest x
operation key.Send x = posting_line how.Send x
operation key.Ssend x = posting_line how.Ssend x
operation key.Recv x = posting_line how.Recv x
operation key.Isend x = posting_line how.Isend x
operation key.Issend x = posting_line how.Issend x
operation key.Irecv x = posting_line how.Irecv x
operation key.Wait x = wait_line false x
operation key.Iwait x = wait_line true x
operation key.Waitall x = waitall_line false x
operation key.Iwaitall x = waitall_line true x
operation _ x = Err fault.Shape

-- what the word at the front of a line begins
unfoldable pub line : Key → Left → Result (What × ℕ) FaultKind
line key.Array x = array_line x
line key.Show x = show_line x
line key.Comm x = comm_line x
line key.Let x = let_line x
line key.For x = for_line x
line key.If x = if_line x
line key.Else x = whole what.Else x
line key.End x = whole what.End x
line key.Taskwait x = whole what.Taskwait x
line key.Task x = whole what.Task x
line key.Do x = whole what.Do x
line key.In x = touch_line mode.In x
line key.Out x = touch_line mode.Out x
line key.Inout x = touch_line mode.Inout x
line word x = operation word x

-- the statement that all the tokens of a line are, with its depth
unfoldable pub statement : List Token → Result (What × ℕ) FaultKind
statement (token.Key word ∷ tokens) = line word (tokens, 0)
statement _ = Err fault.Shape
