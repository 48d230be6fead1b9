-- The tokens of a line of the text language (this project's).
use Rattle.std.specs.Prelude.{ℕ, zero, suc, ◌==◌, ◌+◌, ◌-◌, ◌*◌, ◌^◌, ◌||◌, Bool, true, List, [], ◌∷◌, ◌++◌, length, take, Option, Some, None, Result}
use Rattle.std.specs.Prelude.{Ok, Err, pos, nat_lt, if◌then◌else◌}
use Rattle.std.specs.List.{take_while}
use Rattle.std.specs.Char.{is_ascii_digit, is_ascii_alphabetic}
use Rattle.rt_base.specs.declared.data.FaultKind.{FaultKind}
use Rattle.rt_base.specs.declared.data.FaultKind.TheVariants as fault
use Rattle.task_tree.specs.declared.key.Key.{Key}
use Rattle.task_tree.specs.declared.sign.Sign.{Sign}
use Rattle.task_tree.specs.declared.token.Token.{Token}
use Rattle.task_tree.specs.declared.token.Token.TheVariants as token
use Rattle.task_tree.specs.Reading.{◌>>=◌}
use Rattle.task_parse.specs.Words.{key_of}
use Rattle.task_parse.specs.Signs.{sign_of_two, sign_of_one}

-- tab, CR and space
abbrev pub is_blank : ℕ → Bool
is_blank byte = (byte == 32) || ((byte == 9) || (byte == 13))

-- a letter or `_`
abbrev pub begins_name : ℕ → Bool
begins_name byte = is_ascii_alphabetic byte || (byte == 95)

-- a letter, `_` or a digit
abbrev pub is_in_name : ℕ → Bool
is_in_name byte = begins_name byte || is_ascii_digit byte

-- the number that the digits write behind a number
abbrev pub number_from : ℕ → List ℕ → ℕ
number_from value [] = value
number_from value (digit ∷ digits) = number_from (value * 10 + (digit - 48)) digits

-- the number that the digits write, at most 2 ^ 63 - 1
abbrev pub number_token : List ℕ → Result Token FaultKind
number_token digits = if nat_lt (number_from 0 digits) (2 ^ 63) then Ok (token.Number (pos (number_from 0 digits))) else Err fault.Number

-- a reserved word is no name
abbrev pub key_or_name : Option Key → List ℕ → Token
key_or_name (Some key) word = token.Key key
key_or_name None word = token.Name word

-- the word's key or name, of at most 32 bytes
abbrev pub word_token : List ℕ → Result Token FaultKind
word_token word = if nat_lt 32 (length word) then Err fault.Name else Ok (key_or_name (key_of word) word)

-- the token, and the number of its bytes
abbrev pub with_len : List ℕ → Result Token FaultKind → Result (Token × ℕ) FaultKind
with_len bytes read = read >>= λ t. Ok (t, length bytes)

-- the longest sign: one of two bytes before one of one byte
abbrev pub longest_sign : Option Sign → Option Sign → Result (Token × ℕ) FaultKind
longest_sign (Some sign) one = Ok (token.Sign sign, 2)
longest_sign None (Some sign) = Ok (token.Sign sign, 1)
longest_sign None None = Err fault.Byte

-- the number at the front of the text, and the number of its bytes
abbrev pub number_at : List ℕ → Result (Token × ℕ) FaultKind
number_at text = with_len (take_while is_ascii_digit text) (number_token (take_while is_ascii_digit text))

-- the key or name at the front of the text, and the number of its bytes
abbrev pub word_at : List ℕ → Result (Token × ℕ) FaultKind
word_at text = with_len (take_while is_in_name text) (word_token (take_while is_in_name text))

-- the sign at the front of the text, and the number of its bytes
abbrev pub sign_at : List ℕ → Result (Token × ℕ) FaultKind
sign_at text = longest_sign (sign_of_two (take 2 text)) (sign_of_one (take 1 text))

-- the first token of the text, and the number of its bytes
unfoldable pub first_token : List ℕ → Result (Token × ℕ) FaultKind
first_token [] = Err fault.Byte
first_token (byte ∷ bytes) =
    if is_ascii_digit byte then number_at (byte ∷ bytes)
    else (if begins_name byte then word_at (byte ∷ bytes) else sign_at (byte ∷ bytes))

-- what is read, behind these
abbrev pub with_front : {T : Type 0} → List T → Result (List T) FaultKind → Result (List T) FaultKind
with_front front read = read >>= λ more. Ok (front ++ more)

-- the tokens of a line behind its first `skip` bytes: a blank is none, and `#` begins a comment
abbrev pub tokens_behind : ℕ → List ℕ → Result (List Token) FaultKind
tokens_behind skip [] = Ok []
tokens_behind (suc skip) (byte ∷ bytes) = tokens_behind skip bytes
tokens_behind zero (byte ∷ bytes) =
    if is_blank byte then tokens_behind 0 bytes
    else (if byte == 35 then Ok []
    else (first_token (byte ∷ bytes) >>= λ t. with_front (t.0 ∷ []) (tokens_behind (t.1 - 1) bytes)))

-- what is left behind the blanks at the front
abbrev pub after_blanks : List ℕ → List ℕ
after_blanks [] = []
after_blanks (byte ∷ bytes) = if is_blank byte then after_blanks bytes else byte ∷ bytes

-- nothing is left, or a comment
abbrev pub is_over : List ℕ → Bool
is_over [] = true
is_over (byte ∷ bytes) = byte == 35

-- the tokens of a line, or the fault of its first faulty one
unfoldable pub tokens_of : List ℕ → Result (List Token) FaultKind
tokens_of line = tokens_behind 0 line
