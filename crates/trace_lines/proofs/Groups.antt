-- Statuses that are read one by one.
use Rattle.std.proofs.Common.{◌≡◌, ℕ, ◌<◌, List, [], ◌∷◌, ◌++◌, length, ℤ, refl, sym, ap, ◌∙◌, arith, IsTrue, append_assoc, append-nil}
use Rattle.std.proofs.Common.{length-append, All}
use Rattle.std.proofs.lemmas.List.Concat.{flat_map-append}
use Rattle.std.proofs.lemmas.List.Elements.{All-head, All-drop, All-push, All-nil}
use Rattle.std.specs.List.{flat_map}
use Rattle.rt_base.specs.declared.data.Status.{Status}
use Rattle.report_lines.specs.Lines.{number_text, numbers_text, status_numbers}
use Rattle.trace_lines.specs.Reading.{ends_number, FitsStatus}

-- the numbers of these statuses
abbrev pub statuses_text : List Status → List ℕ
statuses_text told = numbers_text (flat_map status_numbers told)

-- whoever writes the bytes has told these statuses, and more that the rest writes
pub record Behind (rest : List ℕ) (read told : List Status) : Type 0 where
  pub more : List Status
  pub fits : All FitsStatus more
  pub parts : told ≡ read ++ more
  pub text : rest ≡ statuses_text more

-- of the bytes these statuses are read, and the rest is left
pub record HasRead (bytes rest : List ℕ) (read : List Status) : Type 0 where
  pub whole : bytes ≡ statuses_text read ++ rest
  pub only : (told : List Status) → All FitsStatus told → bytes ≡ statuses_text told → Behind rest read told
  pub fits : All FitsStatus read

-- nothing is read yet
pub begins : (bytes : List ℕ) → HasRead bytes bytes []
begins bytes = record { whole = refl; only = λ told fits e. record { more = told; fits = fits; parts = refl; text = e }; fits = All-nil FitsStatus }

first_text : (status : Status) (more : List Status) → statuses_text (status ∷ more) ≡ numbers_text (status_numbers status) ++ statuses_text more
first_text status more = flat_map-append number_text (status_numbers status) (flat_map status_numbers more)

last_text : (read : List Status) (status : Status) → statuses_text (read ++ status ∷ []) ≡ statuses_text read ++ numbers_text (status_numbers status)
last_text read status =
    ap (λ (numbers : List ℤ). numbers_text numbers) (flat_map-append status_numbers read (status ∷ []))
    ∙ flat_map-append number_text (flat_map status_numbers read) (status_numbers status)

pub ends_text : (more : List Status) → IsTrue (ends_number (statuses_text more))
ends_text [] = refl
ends_text (status ∷ more) = refl

-- a status at the front of the rest is this one, and this is left behind it
abbrev pub IsFirst : List ℕ → Status → List ℕ → Type 0
IsFirst rest status behind = (other : Status) (left : List ℕ) → FitsStatus other → IsTrue (ends_number left)
    → rest ≡ numbers_text (status_numbers other) ++ left → (status ≡ other) × (behind ≡ left)

whole_more : (bytes rest behind : List ℕ) (read : List Status) (status : Status) → bytes ≡ statuses_text read ++ rest
    → rest ≡ numbers_text (status_numbers status) ++ behind → bytes ≡ statuses_text (read ++ status ∷ []) ++ behind
whole_more bytes rest behind read status whole first =
    whole ∙ ap (λ (text : List ℕ). statuses_text read ++ text) first
    ∙ sym (append_assoc (statuses_text read) (numbers_text (status_numbers status)) behind)
    ∙ ap (λ (text : List ℕ). text ++ behind) (sym (last_text read status))

behind_more : (rest behind : List ℕ) (read told : List Status) (status : Status) → rest ≡ numbers_text (status_numbers status) ++ behind
    → IsFirst rest status behind → (more : List Status) → All FitsStatus more → told ≡ read ++ more → rest ≡ statuses_text more
    → Behind behind (read ++ status ∷ []) told
behind_more rest behind read told status first one [] fits parts text = absurd (cc)
behind_more rest behind read told status first one (other ∷ more) fits parts text =
    let same = one other (statuses_text more) (All-head FitsStatus other more fits) (ends_text more) (text ∙ first_text other more) in
    record {
      more = more;
      fits = All-drop FitsStatus 1 (other ∷ more) fits;
      parts = parts ∙ ap (λ (s : Status). read ++ s ∷ more) (sym same.0) ∙ sym (append_assoc read (status ∷ []) more);
      text = same.1;
    }

-- one status more
pub goes_on : (bytes rest behind : List ℕ) (read : List Status) (status : Status) → HasRead bytes rest read
    → rest ≡ numbers_text (status_numbers status) ++ behind → IsFirst rest status behind → FitsStatus status
    → HasRead bytes behind (read ++ status ∷ [])
goes_on bytes rest behind read status before first one small = record {
  whole = whole_more bytes rest behind read status before.whole first;
  only = λ told fits e. let left = before.only told fits e in
      behind_more rest behind read told status first one left.more left.fits left.parts left.text;
  fits = All-push FitsStatus read status before.fits small;
}

shorter_text : (status : Status) (behind : List ℕ) → length behind < length (numbers_text (status_numbers status) ++ behind)
shorter_text status behind = omega (arith, length-append (numbers_text (status_numbers status)) behind)

-- a status takes bytes
pub shorter : (status : Status) (rest behind : List ℕ) → rest ≡ numbers_text (status_numbers status) ++ behind → length behind < length rest
shorter status rest behind e = rw e (shorter_text status behind)

none_more : (rest : List ℕ) → rest ≡ [] → (read told more : List Status) → told ≡ read ++ more → rest ≡ statuses_text more → read ≡ told
none_more rest none read told [] parts text = sym (parts ∙ append-nil read)
none_more rest none read told (status ∷ more) parts text = absurd (cc)

-- nothing is left
pub ends : (bytes rest : List ℕ) (read told : List Status) → HasRead bytes rest read → rest ≡ [] → All FitsStatus told → bytes ≡ statuses_text told
    → read ≡ told
ends bytes rest read told before none fits e = let left = before.only told fits e in none_more rest none read told left.more left.parts left.text

none_first : (rest : List ℕ) → (rest ≡ [] → ⊥)
    → ((other : Status) (left : List ℕ) → FitsStatus other → IsTrue (ends_number left) → rest ≡ numbers_text (status_numbers other) ++ left → ⊥)
    → (more : List Status) → All FitsStatus more → rest ≡ statuses_text more → ⊥
none_first rest some no_status [] fits text = some text
none_first rest some no_status (other ∷ more) fits text =
    no_status other (statuses_text more) (All-head FitsStatus other more fits) (ends_text more) (text ∙ first_text other more)

-- no status stands where the rest goes on
pub breaks : (bytes rest : List ℕ) (read told : List Status) → HasRead bytes rest read → (rest ≡ [] → ⊥)
    → ((other : Status) (left : List ℕ) → FitsStatus other → IsTrue (ends_number left) → rest ≡ numbers_text (status_numbers other) ++ left → ⊥)
    → All FitsStatus told → bytes ≡ statuses_text told → ⊥
breaks bytes rest read told before some no_status fits e =
    let left = before.only told fits e in none_first rest some no_status left.more left.fits left.text

pub some_text : (rest : List ℕ) → 0 < length rest → rest ≡ [] → ⊥
some_text rest long none = omega (arith, ap length none)

pub no_text : (rest : List ℕ) → length rest ≡ 0 → rest ≡ []
no_text [] short = refl
no_text (byte ∷ rest) short = absurd (omega arith)
