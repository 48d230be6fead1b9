-- The values of expressions: whole numbers without bound, whose results have to fit 64 bits (this project's).
use Rattle.std.specs.Prelude.{ℕ, ◌^◌, ℤ, pos, negsuc, ◌+ℤ◌, ◌-ℤ◌, ◌*ℤ◌, neg_ℤ, Bool, not, ◌&&◌, nat_lt, nat_le, int_lt, int_le, int_div, int_rem}
use Rattle.std.specs.Prelude.{Result, Ok, Err, if◌then◌else◌}
use Rattle.rt_base.specs.declared.data.FaultKind.{FaultKind}
use Rattle.rt_base.specs.declared.data.FaultKind.TheVariants as fault
use Rattle.task_tree.specs.declared.operator.BinOp.{BinOp}
use Rattle.task_tree.specs.declared.operator.BinOp.TheVariants as binary
use Rattle.task_tree.specs.Term.{Term, Term as term}
use Rattle.task_tree.specs.Reading.{◌>>=◌}
use Rattle.task_names.specs.Scopes.{Names, meaning_of, as_variable}

-- where an expression is evaluated
pub record Scene : Type 0 where
  pub names : Names
  pub rank : ℕ
  pub size : ℕ

-- from -2 ^ 63 up to 2 ^ 63 - 1
abbrev pub fits : ℤ → Bool
fits (pos n) = nat_lt n (2 ^ 63)
fits (negsuc n) = nat_lt n (2 ^ 63)

-- a number that fits, and else `Overflow`
unfoldable pub fitting : ℤ → Result ℤ FaultKind
fitting number = if fits number then Ok number else Err fault.Overflow

-- the number is 0
abbrev pub is_zero : ℤ → Bool
is_zero (pos n) = nat_le n 0
is_zero (negsuc n) = nat_lt n 0

-- 1 for what holds, and 0 for what does not
abbrev pub truth : Bool → ℤ
truth holds = if holds then pos 1 else pos 0

-- division truncates toward zero
abbrev pub quotient : ℤ → ℤ → Result ℤ FaultKind
quotient left right = if is_zero right then Err fault.DivisionByZero else fitting (int_div left right)

-- the rest of a division, which has the sign of the dividend
abbrev pub rest : ℤ → ℤ → Result ℤ FaultKind
rest left right = if is_zero right then Err fault.DivisionByZero else fitting (int_rem left right)

-- the value of an operator between two numbers, or its fault
unfoldable pub computed : BinOp → ℤ → ℤ → Result ℤ FaultKind
computed binary.Add left right = fitting (left +ℤ right)
computed binary.Sub left right = fitting (left -ℤ right)
computed binary.Mul left right = fitting (left *ℤ right)
computed binary.Div left right = quotient left right
computed binary.Rem left right = rest left right
computed binary.Eq left right = Ok (truth (int_le left right && int_le right left))
computed binary.Ne left right = Ok (truth (not (int_le left right && int_le right left)))
computed binary.Lt left right = Ok (truth (int_lt left right))
computed binary.Le left right = Ok (truth (int_le left right))
computed binary.Gt left right = Ok (truth (int_lt right left))
computed binary.Ge left right = Ok (truth (int_le right left))

-- the value of an expression, or the first fault: left side, right side, then the operation
abbrev pub value : Scene → Term → Result ℤ FaultKind
value scene (term.Number n) = Ok n
value scene (term.Var name) = as_variable (meaning_of scene.names name)
value scene term.Rank = Ok (pos scene.rank)
value scene term.Size = Ok (pos scene.size)
value scene (term.Neg e) = value scene e >>= λ x. fitting (neg_ℤ x)
value scene (term.Two op left right) = value scene left >>= λ x. value scene right >>= λ y. computed op x y
