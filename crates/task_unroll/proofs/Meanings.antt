-- What names mean after one of them got a meaning.
use Rattle.std.proofs.Common.{◌≡◌, ℕ, ◌+◌, ◌<◌, ◌≤◌, Bool, true, false, ◌⊎◌, List, [], ◌∷◌, Option, Some, None, refl, sym, ap, ◌∙◌, subst, inl, inr}
use Rattle.std.proofs.Common.{arith, cond}
use Rattle.std.specs.Prelude.{if◌then◌else◌}
use Rattle.std.specs.Str.{bytes_eq}
use Rattle.std.specs.Map.{lookup}
use Rattle.std.specs.Cmp.Lexicographic.{bytes_decides}
use Rattle.task_names.specs.declared.meaning.Meaning.{Meaning}
use Rattle.task_names.specs.declared.meaning.Meaning.TheVariants as meaning
use Rattle.task_names.specs.Scopes.{Names, meaning_of, with_meaning}

pub same_bytes : (name other : List ℕ) → bytes_eq name other ≡ true → name ≡ other
same_bytes name other h = (bytes_decides name other).0 h

pub bytes_same : (name : List ℕ) → bytes_eq name name ≡ true
bytes_same name = (bytes_decides name name).1 refl

pub same_or_not : (name other : List ℕ) → (name ≡ other) ⊎ (bytes_eq name other ≡ false)
same_or_not name other = by (bytes_eq name other) refl
  where
    by : (b : Bool) → bytes_eq name other ≡ b → (name ≡ other) ⊎ (bytes_eq name other ≡ false)
    by true h = inl (same_bytes name other h)
    by false h = inr h

-- the name has the meaning
pub meaning_here : (names : Names) (name : List ℕ) (m : Meaning) → meaning_of (with_meaning names name m) name ≡ Some m
meaning_here [] name m = ap (λ (b : Bool). cond b (Some m) None) (bytes_same name)
meaning_here (e ∷ es) name m = by (meaning_here es name m) (bytes_eq name e.0) refl
  where
    by : meaning_of (with_meaning es name m) name ≡ Some m → (b : Bool) → bytes_eq name e.0 ≡ b
        → lookup (bytes_eq name) (if b then (e.0, m) ∷ es else e ∷ with_meaning es name m) ≡ Some m
    by rest true h = ap (λ (b : Bool). cond b (Some m) (lookup (bytes_eq name) es)) h
    by rest false h = ap (λ (b : Bool). cond b (Some e.1) (lookup (bytes_eq name) (with_meaning es name m))) h ∙ rest

-- each other name means what it meant
pub meaning_elsewhere : (names : Names) (name other : List ℕ) (m : Meaning) → bytes_eq other name ≡ false
    → meaning_of (with_meaning names name m) other ≡ meaning_of names other
meaning_elsewhere [] name other m differs = ap (λ (b : Bool). cond b (Some m) None) differs
meaning_elsewhere (e ∷ es) name other m differs = by (meaning_elsewhere es name other m differs) (bytes_eq name e.0) refl
  where
    by : meaning_of (with_meaning es name m) other ≡ meaning_of es other → (b : Bool) → bytes_eq name e.0 ≡ b
        → lookup (bytes_eq other) (if b then (e.0, m) ∷ es else e ∷ with_meaning es name m) ≡ cond (bytes_eq other e.0) (Some e.1) (lookup (bytes_eq other) es)
    by rest true h =
        let apart : bytes_eq other e.0 ≡ false = subst (λ (n : List ℕ). bytes_eq other n ≡ false) (same_bytes name e.0 h) differs in
        ap (λ (b : Bool). cond b (Some m) (lookup (bytes_eq other) es)) apart ∙ sym (ap (λ (b : Bool). cond b (Some e.1) (lookup (bytes_eq other) es)) apart)
    by rest false h = ap (λ (o : Option Meaning). cond (bytes_eq other e.0) (Some e.1) o) rest

-- the fact holds of each meaning
abbrev pub AllMean : (Meaning → Type 0) → Names → Type 0
AllMean Fact names = (name : List ℕ) (m : Meaning) → meaning_of names name ≡ Some m → Fact m

-- what a name means afterwards: it is the name that got the meaning, or it meant the same before
pub new_or_old : (names : Names) (name other : List ℕ) (m n : Meaning) → meaning_of (with_meaning names name m) other ≡ Some n
    → ((other ≡ name) × (m ≡ n)) ⊎ ((bytes_eq other name ≡ false) × (meaning_of names other ≡ Some n))
new_or_old names name other m n is = elim (same_or_not other name) [
  | inl same ↦ let here = meaning_here names name m in let at = subst (λ (k : List ℕ). meaning_of (with_meaning names name m) k ≡ Some n) same is in
      inl (same, (cc))
  | inr differs ↦ inr (differs, sym (meaning_elsewhere names name other m differs) ∙ is)
]

pub all_mean_with : (Fact : Meaning → Type 0) (names : Names) (name : List ℕ) (m : Meaning) → AllMean Fact names → Fact m
    → AllMean Fact (with_meaning names name m)
all_mean_with Fact names name m all fact other n is = elim (new_or_old names name other m n is) [
  | inl new ↦ subst Fact new.1 fact
  | inr old ↦ all other n old.1
]

-- each request is named by one name at most
abbrev pub NamedOnce : Names → Type 0
NamedOnce names = (name other : List ℕ) (n : ℕ) → meaning_of names name ≡ Some (meaning.Posted n) → meaning_of names other ≡ Some (meaning.Posted n)
    → name ≡ other
