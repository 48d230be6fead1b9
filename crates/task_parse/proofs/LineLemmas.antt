-- Taking the lines of a text from the front.
use Rattle.std.proofs.Common.{◌≡◌, ℕ, ◌+◌, ◌<◌, ◌≤◌, ◌==◌, true, false, not, cond, List, [], ◌∷◌, length, take, drop, refl, ap, arith}
use Rattle.std.specs.List.{prefix_len}
use Rattle.task_parse.specs.Trees.{onto_line, lines_of}
use Rattle.task_parse.proofs.Fronts.{one_dropped, one_taken}

-- the length of the first line
abbrev pub first_len : List ℕ → ℕ
first_len text = prefix_len (λ b. not (b == 10)) text

-- a line that LF ends
line_cut : (text : List ℕ) → first_len text < length text → lines_of text ≡ take (first_len text) text ∷ lines_of (drop (first_len text + 1) text)
line_cut [] = λ h. absurd (omega arith)
line_cut (byte ∷ bytes) =
    let n = first_len bytes in
    elim (byte == 10) as (λ v. cond (not v) (1 + n) 0 < length (byte ∷ bytes)
    → cond v ([] ∷ lines_of bytes) (onto_line byte (lines_of bytes))
    ≡ take (cond (not v) (1 + n) 0) (byte ∷ bytes) ∷ lines_of (drop (cond (not v) (1 + n) 0 + 1) (byte ∷ bytes))) [
      | true ↦ (λ h. refl)
      | false ↦ (λ h.
          let below : n < length bytes = omega arith in
          let e : 1 + n + 1 ≡ 1 + (n + 1) = omega arith in
          rw (line_cut bytes below, one_taken n byte bytes, e, one_dropped (n + 1) byte bytes) refl)
    ]

-- a last line that no LF ends
line_all : (text : List ℕ) → length text ≤ first_len text → 0 < length text → lines_of text ≡ text ∷ []
line_all [] = λ h p. absurd (omega arith)
line_all (byte ∷ []) =
    elim (byte == 10) as (λ v. 1 ≤ cond (not v) (1 + 0) 0 → 0 < 1 → cond v ([] ∷ []) ((byte ∷ []) ∷ []) ≡ (byte ∷ []) ∷ [])
    [ true ↦ (λ h p. absurd (omega arith)) | false ↦ (λ h p. refl) ]
line_all (byte ∷ next ∷ bytes) =
    let n = first_len (next ∷ bytes) in
    elim (byte == 10) as (λ v. length (byte ∷ next ∷ bytes) ≤ cond (not v) (1 + n) 0 → 0 < length (byte ∷ next ∷ bytes)
    → cond v ([] ∷ lines_of (next ∷ bytes)) (onto_line byte (lines_of (next ∷ bytes))) ≡ (byte ∷ next ∷ bytes) ∷ []) [
      | true ↦ (λ h p. absurd (omega arith))
      | false ↦ (λ h p.
          let above : length (next ∷ bytes) ≤ n = omega arith in
          ap (onto_line byte) (line_all (next ∷ bytes) above (omega arith)))
    ]

-- the first line, where LF ends it
pub first_line_is : (text : List ℕ) (len : ℕ) → len ≡ first_len text → len < length text → lines_of text ≡ take len text ∷ lines_of (drop (len + 1) text)
first_line_is text len e h = rw e (line_cut text (rw e at h))

-- the first line, where no LF ends it
pub last_line_is : (text rest : List ℕ) (len : ℕ) → len ≡ first_len text → length text ≤ len → 0 < length text → length rest ≡ 0
    → lines_of text ≡ text ∷ lines_of rest
last_line_is text [] len e h p z = line_all text (rw e at h) p
last_line_is text (byte ∷ bytes) len e h p z = absurd (omega arith)
