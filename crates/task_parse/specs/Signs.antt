-- The signs of the text language (this project's).
use Rattle.std.specs.Prelude.{ℕ, List, [], ◌∷◌, Option, codes}
use Rattle.task_tree.specs.declared.sign.Sign.{Sign}
use Rattle.task_tree.specs.declared.sign.Sign.TheVariants as sign
use Rattle.task_parse.specs.Words.{lookup}

-- the signs of two bytes
abbrev pub signs_of_two : List (List ℕ × Sign)
signs_of_two =
    (codes "..", sign.Dots) ∷ (codes "==", sign.Same) ∷ (codes "!=", sign.Differs) ∷
    (codes "<=", sign.AtMost) ∷ (codes ">=", sign.AtLeast) ∷ []

-- the sign of two bytes that these are
unfoldable pub sign_of_two : List ℕ → Option Sign
sign_of_two bytes = lookup signs_of_two bytes

-- the signs of one byte
abbrev pub signs_of_one : List (List ℕ × Sign)
signs_of_one =
    (codes "+", sign.Plus) ∷ (codes "-", sign.Minus) ∷ (codes "*", sign.Times) ∷ (codes "/", sign.Over) ∷
    (codes "%", sign.Rest) ∷ (codes "(", sign.OpenRound) ∷ (codes ")", sign.CloseRound) ∷
    (codes "[", sign.OpenSquare) ∷ (codes "]", sign.CloseSquare) ∷ (codes ",", sign.Comma) ∷
    (codes "=", sign.Set) ∷ (codes "<", sign.Below) ∷ (codes ">", sign.Above) ∷ []

-- the sign of one byte that this is
unfoldable pub sign_of_one : List ℕ → Option Sign
sign_of_one bytes = lookup signs_of_one bytes
