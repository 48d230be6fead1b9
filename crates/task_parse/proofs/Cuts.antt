-- Cutting a line into tokens, one token at a time.
use Rattle.std.proofs.Common.{◌≡◌, ℕ, zero, suc, ◌+◌, ◌-◌, ◌<◌, ◌≤◌, ◌==◌, ◌||◌, Bool, true, false, cond, List, [], ◌∷◌, ◌++◌, length, drop, Option}
use Rattle.std.proofs.Common.{Some, None, Result, Ok, Err, refl, sym, ap, ◌∙◌, arith, append-nil, length-drop}
use Rattle.std.proofs.lemmas.Bool.Decides.{nat_tests}
use Rattle.std.proofs.lemmas.List.Folds.{length-prefix_len}
use Rattle.std.proofs.lemmas.List.Sums.{prefix_len-le-length}
use Rattle.std.specs.List.{prefix_len, take_while}
use Rattle.std.specs.Char.{is_ascii_digit}
use Rattle.rt_base.specs.declared.data.FaultKind.{FaultKind}
use Rattle.task_tree.specs.declared.sign.Sign.{Sign}
use Rattle.task_tree.specs.declared.token.Token.{Token}
use Rattle.task_tree.specs.declared.refusal.LineRefusal.{LineRefusal}
use Rattle.task_tree.specs.declared.refusal.LineRefusal.TheVariants as variant
use Rattle.task_tree.specs.Reading.{◌>>=◌, Fails}
use Rattle.task_parse.specs.Signs.{sign_of_two}
use Rattle.task_parse.proofs.Fronts.{chosen, one_dropped, front_none, front_more}
use Rattle.task_parse.specs.Tokens.{is_blank, begins_name, is_in_name, after_blanks, is_over, with_len, longest_sign, number_at, word_at, sign_at}
use Rattle.task_parse.specs.Tokens.{first_token, with_front, tokens_behind, tokens_of}

-- skipping is dropping
skipped : (skip : ℕ) (line : List ℕ) → tokens_behind skip line ≡ tokens_behind 0 (drop skip line)
skipped zero line = refl
skipped (suc skip) [] = refl
skipped (suc skip) (byte ∷ bytes) = skipped skip bytes

-- what is read has a byte, and no more than there are
abbrev pub HasLen : ℕ → Result (Token × ℕ) FaultKind → Type 0
HasLen most (Ok t) = (0 < t.1) × (t.1 ≤ most)
HasLen most (Err f) = Unit {0}

-- what is cut off a text by a test that its first byte passes has a byte, and no more than the text
front_len : (p : ℕ → Bool) (byte : ℕ) (bytes : List ℕ) → p byte ≡ true
    → (0 < length (take_while p (byte ∷ bytes))) × (length (take_while p (byte ∷ bytes)) ≤ length (byte ∷ bytes))
front_len p byte bytes h =
    let e : length (take_while p (byte ∷ bytes)) ≡ prefix_len p (byte ∷ bytes) = length-prefix_len p (byte ∷ bytes) in
    let f : prefix_len p (byte ∷ bytes) ≡ 1 + prefix_len p bytes = rw h refl in
    let g = prefix_len-le-length p (byte ∷ bytes) in
    (omega arith, omega arith)

len_kept : (most : ℕ) (bytes : List ℕ) (read : Result Token FaultKind) → (0 < length bytes) × (length bytes ≤ most) → HasLen most (with_len bytes read)
len_kept most bytes (Ok t) h = h
len_kept most bytes (Err f) h = tt

-- one byte is no sign of two
alone : (byte : ℕ) → sign_of_two (byte ∷ []) ≡ None
unfolding sign_of_two
alone byte = grind (arith, nat_tests)

sign_len : (most : ℕ) (two one : Option Sign) → 0 < most → (most ≡ 1 → two ≡ None) → HasLen most (longest_sign two one)
sign_len zero two one h alone = absurd (omega arith)
sign_len (suc zero) (Some s) one h alone = let e = alone refl in absurd cc
sign_len (suc (suc n)) (Some s) one h alone = (omega arith, omega arith)
sign_len (suc n) None (Some s) h alone = (omega arith, omega arith)
sign_len (suc n) None None h alone = tt

sign_at_len : (text : List ℕ) → 0 < length text → HasLen (length text) (sign_at text)
sign_at_len [] h = absurd (omega arith)
sign_at_len (a ∷ []) h = sign_len 1 _ _ (omega arith) (λ _. alone a)
sign_at_len (a ∷ b ∷ bytes) h = sign_len (length (a ∷ b ∷ bytes)) _ _ (omega arith) (λ e. absurd (omega arith))

or_left : (a b : Bool) → a ≡ true → (a || b) ≡ true
or_left true b h = refl
or_left false b h = cc

-- a token has a byte, and no more than the text
pub token_len : (text : List ℕ) → HasLen (length text) (first_token text)
unfolding first_token
token_len [] = tt
token_len (byte ∷ bytes) =
    chosen (HasLen (length (byte ∷ bytes))) (is_ascii_digit byte) (number_at (byte ∷ bytes)) _
    (λ digit. len_kept _ _ _ (front_len is_ascii_digit byte bytes digit))
    (λ _. chosen (HasLen (length (byte ∷ bytes))) (begins_name byte) (word_at (byte ∷ bytes)) (sign_at (byte ∷ bytes))
    (λ letter. len_kept _ _ _ (front_len is_in_name byte bytes (or_left _ _ letter)))
    (λ _. sign_at_len (byte ∷ bytes) (omega arith)))

found_len : (most len : ℕ) (token : Token) (read : Result (Token × ℕ) FaultKind) → HasLen most read → read ≡ Ok (token, len) → (0 < len) × (len ≤ most)
found_len most len token (Ok t) h e =
    let same : t.1 ≡ len = ap (λ r. elim r [ Ok x ↦ x.1 | Err f ↦ len ]) e in
    (omega (arith, h.0), omega (arith, h.1))
found_len most len token (Err f) h e = absurd cc

pub len_above : (text : List ℕ) (token : Token) (len : ℕ) → first_token text ≡ Ok (token, len) → 0 < len
len_above text token len e = (found_len (length text) len token (first_token text) (token_len text) e).0

pub len_within : (text : List ℕ) (token : Token) (len : ℕ) → first_token text ≡ Ok (token, len) → len ≤ length text
len_within text token len e = (found_len (length text) len token (first_token text) (token_len text) e).1

-- the blanks at the front are as many as their count
pub blanks_end : (line : List ℕ) → drop (prefix_len is_blank line) line ≡ after_blanks line
blanks_end [] = refl
blanks_end (byte ∷ bytes) =
    elim (is_blank byte) as (λ v. drop (cond v (1 + prefix_len is_blank bytes) 0) (byte ∷ bytes) ≡ cond v (after_blanks bytes) (byte ∷ bytes))
    [ true ↦ one_dropped (prefix_len is_blank bytes) byte bytes ∙ blanks_end bytes | false ↦ refl ]

pub blanks_shorten : (line : List ℕ) → length (after_blanks line) ≤ length line
blanks_shorten [] = omega arith
blanks_shorten (byte ∷ bytes) =
    chosen (λ x. length x ≤ length (byte ∷ bytes)) (is_blank byte) (after_blanks bytes) (byte ∷ bytes) (λ _. omega (
      arith,
      blanks_shorten bytes,
    )) (λ _. omega arith)

-- the tokens that a first token begins
abbrev pub begun : List ℕ → Result (Token × ℕ) FaultKind → Result (List Token) FaultKind
begun text read = read >>= λ t. with_front (t.0 ∷ []) (tokens_behind 0 (drop t.1 text))

step : (byte : ℕ) (bytes : List ℕ) (most : ℕ) (read : Result (Token × ℕ) FaultKind) → HasLen most read
    → (read >>= λ t. with_front (t.0 ∷ []) (tokens_behind (t.1 - 1) bytes)) ≡ begun (byte ∷ bytes) read
step byte bytes most (Ok (token, zero)) h = absurd (omega arith)
step byte bytes most (Ok (token, suc len)) h =
    let e : suc len - 1 ≡ len = omega arith in
    rw (e, skipped len bytes) refl
step byte bytes most (Err f) h = refl

-- the first token, and then the tokens behind it
next_cut : (line : List ℕ) → is_over (after_blanks line) ≡ false → tokens_behind 0 line ≡ begun (after_blanks line) (first_token (after_blanks line))
next_cut [] = λ h. absurd cc
next_cut (byte ∷ bytes) =
    elim (is_blank byte) as (λ v. is_over (cond v (after_blanks bytes) (byte ∷ bytes)) ≡ false
    → cond v (tokens_behind 0 bytes) (cond (byte == 35) (Ok []) (first_token (byte ∷ bytes) >>= λ t. with_front (t.0 ∷ []) (tokens_behind (t.1 - 1) bytes)))
    ≡ begun (cond v (after_blanks bytes) (byte ∷ bytes)) (first_token (cond v (after_blanks bytes) (byte ∷ bytes)))) [
      | true ↦ (λ h. next_cut bytes h)
      | false ↦ (λ h. chosen (λ x. x
          ≡ begun (byte ∷ bytes) (first_token (byte ∷ bytes))) (byte == 35) _ _ (λ e. absurd cc) (λ _. step byte bytes _ _ (token_len (byte ∷ bytes))))
    ]

last_cut : (line : List ℕ) → is_over (after_blanks line) ≡ true → tokens_behind 0 line ≡ Ok []
last_cut [] = λ h. refl
last_cut (byte ∷ bytes) =
    elim (is_blank byte) as (λ v. is_over (cond v (after_blanks bytes) (byte ∷ bytes)) ≡ true
    → cond v (tokens_behind 0 bytes) (cond (byte == 35) (Ok []) (first_token (byte ∷ bytes) >>= λ t. with_front (t.0 ∷ []) (tokens_behind (t.1 - 1) bytes)))
    ≡ Ok []) [
      | true ↦ (λ h. last_cut bytes h)
      | false ↦ (λ h. chosen (λ x. x ≡ Ok []) (byte == 35) _ _ (λ _. refl) (λ e. absurd cc))
    ]

pub begins : (line : List ℕ) → tokens_of line ≡ with_front [] (tokens_of line)
begins line = sym (front_none (tokens_of line))

pub goes_on : (whole : Result (List Token) FaultKind) (front : List Token) (line rest : List ℕ) (token : Token) (len : ℕ)
    → whole ≡ with_front front (tokens_of line) → rest ≡ after_blanks line → is_over rest ≡ false → first_token rest ≡ Ok (token, len)
    → whole ≡ with_front (front ++ token ∷ []) (tokens_of (drop len rest))
unfolding tokens_of
goes_on whole front line rest token len e d h f =
    let cut : tokens_behind 0 line ≡ begun rest (first_token rest) = rw d (next_cut line (rw d at h)) in
    e ∙ ap (with_front front) (cut ∙ ap (begun rest) f) ∙ front_more front (token ∷ []) (tokens_behind 0 (drop len rest))

pub ends : (whole : Result (List Token) FaultKind) (front : List Token) (line rest : List ℕ) → whole ≡ with_front front (tokens_of line)
    → rest ≡ after_blanks line → is_over rest ≡ true → whole ≡ Ok front
unfolding tokens_of
ends whole front line rest e d h = e ∙ ap (with_front front) (last_cut line (rw d at h)) ∙ ap Ok (append-nil front)

pub fails : (whole : Result (List Token) FaultKind) (front : List Token) (line rest : List ℕ) (kind : FaultKind) → whole ≡ with_front front (tokens_of line)
    → rest ≡ after_blanks line → is_over rest ≡ false → first_token rest ≡ Err kind → whole ≡ Err kind
unfolding tokens_of
fails whole front line rest kind e d h f =
    let cut : tokens_behind 0 line ≡ begun rest (first_token rest) = rw d (next_cut line (rw d at h)) in
    e ∙ ap (with_front front) (cut ∙ ap (begun rest) f)

-- a refusal of the first token is one of the line
pub refused : (refusal : LineRefusal) (whole : Result (List Token) FaultKind) (front : List Token) (line rest : List ℕ)
    → whole ≡ with_front front (tokens_of line) → rest ≡ after_blanks line → is_over rest ≡ false → Fails refusal (first_token rest) → Fails refusal whole
refused variant.Memory whole front line rest e d h f = tt
refused (variant.Fault kind) whole front line rest e d h f = fails whole front line rest kind e d h f

-- each token makes what is left shorter
pub shorter : (line rest behind : List ℕ) (token : Token) (len : ℕ) → first_token rest ≡ Ok (token, len) → length rest ≤ length line → behind ≡ drop len rest
    → length behind < length line
shorter line rest behind token len f h e =
    let above = len_above rest token len f in
    let within = len_within rest token len f in
    rw (e, length-drop) (omega arith)
