-- Numbers in plain decimal, up to a blank.
use Rattle.std.proofs.Common.{◌≡◌, ℕ, suc, ◌+◌, ◌<◌, ◌≤◌, ◌^◌, true, cond, List, [], ◌∷◌, ◌++◌, length, take, drop, ℤ, pos, negsuc}
use Rattle.std.proofs.Common.{FitsSigned, to_z, of_z, w32, w64, Result, Ok, Option, Some, MatchOption, IsUtf8, refl, ap, ◌∙◌, subst, sym, arith}
use Rattle.std.proofs.Common.{IsTrue, take-append-drop}
use lib.Signed.{mag}
use Rattle.std.proofs.lemmas.Int.{to_z-of_z}
use Rattle.std.proofs.lemmas.Fmt.{decimal_is_IsNumeral, parse-signed_decimal, IsAscii-signed}
use Rattle.std.proofs.lemmas.Str.{IsUtf8-from_ascii}
use Rattle.std.specs.Fmt.{decimal, signed_decimal}
use Rattle.std.specs.List.{prefix_len}
use Rattle.std.specs.Char.{digit_value}
use Rattle.std.specs.Str.Parse.{AllDigits, ParsesSigned}
use Rattle.report_lines.specs.Lines.{number_text}
use Rattle.trace_lines.specs.Reading.{is_no_blank, ends_number}

digit_range : (d : ℕ) → digit_value d < 10 → (48 ≤ d) × (d ≤ 57)
digit_range d h = grind arith

no_blank : (d : ℕ) → digit_value d < 10 → is_no_blank d ≡ true
no_blank d h = let range = digit_range d h in grind arith

none_left : (rest : List ℕ) → IsTrue (ends_number rest) → prefix_len is_no_blank rest ≡ 0
none_left [] ends = refl
none_left (byte ∷ rest) ends = grind arith

run : (ds rest : List ℕ) → AllDigits 10 ds → IsTrue (ends_number rest) → prefix_len is_no_blank (ds ++ rest) ≡ length ds
run [] rest digits ends = none_left rest ends
run (d ∷ ds) rest digits ends =
    ap (λ b. cond b (1 + prefix_len is_no_blank (ds ++ rest)) 0) (no_blank d digits.0) ∙ omega (arith, run ds rest digits.1 ends)

number_run : (z : ℤ) (rest : List ℕ) → FitsSigned w64 z → IsTrue (ends_number rest)
    → prefix_len is_no_blank (signed_decimal z ++ rest) ≡ length (signed_decimal z)
number_run (pos n) rest fits ends = run (decimal n) rest (decimal_is_IsNumeral n (let small = fits.sfits in omega arith)).0.1 ends
number_run (negsuc n) rest fits ends = omega (arith, run (decimal (suc n)) rest (decimal_is_IsNumeral (suc n) (let small = fits.sfits in omega arith)).0.1 ends)

take_front : (one other : List ℕ) → take (length one) (one ++ other) ≡ one
take_front [] other = refl
take_front (x ∷ one) other = ap (λ xs. x ∷ xs) (take_front one other)

drop_front : (one other : List ℕ) → drop (length one) (one ++ other) ≡ other
drop_front [] other = refl
drop_front (x ∷ one) other = drop_front one other

-- the bytes up to the first blank are the number's text, and the rest follows
pub whole_number : (z : ℤ) (rest bytes : List ℕ) → FitsSigned w64 z → IsTrue (ends_number rest) → bytes ≡ signed_decimal z ++ rest
    → (take (prefix_len is_no_blank bytes) bytes ≡ signed_decimal z) × (drop (prefix_len is_no_blank bytes) bytes ≡ rest)
whole_number z rest bytes fits ends e =
    rw (e, number_run z rest fits ends) (take_front (signed_decimal z) rest, drop_front (signed_decimal z) rest)

ascii_text : (z : ℤ) → FitsSigned w64 z → IsUtf8 (signed_decimal z)
ascii_text (pos n) fits = IsUtf8-from_ascii (decimal n) (IsAscii-signed (pos n) fits.sfits)
ascii_text (negsuc n) fits = IsUtf8-from_ascii (45 ∷ decimal (suc n)) (IsAscii-signed (negsuc n) fits.sfits)

pub sized : (z : ℤ) → FitsSigned w64 z → mag z < 2 ^ 63
sized (pos n) fits = fits.sfits
sized (negsuc n) fits = fits.sfits

-- the number's text is text
pub is_text : (z : ℤ) (bytes : List ℕ) → FitsSigned w64 z → bytes ≡ signed_decimal z → IsUtf8 bytes
is_text z bytes fits e = subst IsUtf8 (sym e) (ascii_text z fits)

-- it is parsed
pub parsed : {E : Type 0} (z : ℤ) (bytes : List ℕ) (r : Result ℤ E) → FitsSigned w64 z → bytes ≡ signed_decimal z → ParsesSigned w64 10 bytes r → r ≡ Ok z
parsed z bytes r fits e h = parse-signed_decimal w64 z bytes r fits (sized z fits) e h

pub cut_there : (z : ℤ) (len : ℕ) (bytes : List ℕ) → take len bytes ≡ signed_decimal z → 32 ∷ bytes ≡ number_text z ++ drop len bytes
cut_there z len bytes e = ap (λ (front : List ℕ). 32 ∷ front) (sym (take-append-drop len bytes)) ∙ ap (λ (front : List ℕ). 32 ∷ front ++ drop len bytes) e

pub count_fits32 : (n : ℕ) → n < 2 ^ 32 → FitsSigned w64 (pos n)
count_fits32 n h = record { sfits = omega arith }

pub count_fits16 : (n : ℕ) → n < 2 ^ 16 → FitsSigned w64 (pos n)
count_fits16 n h = record { sfits = omega arith }

pub count_fits8 : (n : ℕ) → n < 2 ^ 8 → FitsSigned w64 (pos n)
count_fits8 n h = record { sfits = omega arith }

pub whole_fits : (z : ℤ) → FitsSigned w32 z → FitsSigned w64 z
whole_fits (pos n) h = let fits = h.sfits in record { sfits = omega arith }
whole_fits (negsuc n) h = let fits = h.sfits in record { sfits = omega arith }

pub found : {A : Type 0} (o : Option A) (x : A) → o ≡ Some x → MatchOption o ⊥ (λ y. y ≡ x)
found o x e = rw e refl

-- what follows the blank
pub behind_is : (bytes behind rest : List ℕ) → bytes ≡ 32 ∷ behind → bytes ≡ 32 ∷ rest → behind ≡ rest
behind_is bytes behind rest one other = ap (λ (text : List ℕ). drop 1 text) (sym one ∙ other)

-- a number that is passed on
pub passed_on : (x z : ℤ) → FitsSigned w64 z → x ≡ z → to_z w64 (of_z w64 x) ≡ z
passed_on x z fits e = ap (λ (t : ℤ). to_z w64 (of_z w64 t)) e ∙ to_z-of_z w64 z fits

pub passed_on32 : (x z : ℤ) → FitsSigned w32 z → x ≡ z → to_z w32 (of_z w32 x) ≡ z
passed_on32 x z fits e = ap (λ (t : ℤ). to_z w32 (of_z w32 t)) e ∙ to_z-of_z w32 z fits
