-- What stands at a place of a list.
use Rattle.std.proofs.Common.{◌≡◌, ℕ, zero, suc, ◌+◌, ◌<◌, get_or, List, [], ◌∷◌, ◌++◌, length, drop, slice_get, Some, None, refl, ap, sym, ◌∙◌}
use Rattle.std.proofs.lemmas.List.{drop-drop}
use Rattle.std.proofs.lemmas.Option.{slice_get_read}
use Rattle.std.proofs.Math.Seq.{drop-append_seam}

-- the item at a place is the first of those that are left there
pub head_at : {A : Type 0} → (xs : List A) (n : ℕ) (x : A) (rest : List A) → drop n xs ≡ x ∷ rest → slice_get xs n ≡ Some x
head_at [] zero x rest e = absurd (cc)
head_at [] (suc n) x rest e = absurd (cc)
head_at (y ∷ xs) zero x rest e = cc
head_at (y ∷ xs) (suc n) x rest e = head_at xs n x rest e

-- none stands past the end
pub none_at : {A : Type 0} → (xs : List A) (n : ℕ) (x : A) → drop n xs ≡ [] → slice_get xs n ≡ Some x → ⊥
none_at [] zero x e h = cc
none_at [] (suc n) x e h = cc
none_at (y ∷ xs) zero x e h = cc
none_at (y ∷ xs) (suc n) x e h = none_at xs n x e h

-- nothing is left where none stands
pub end_at : {A : Type 0} → (xs : List A) (n : ℕ) → slice_get xs n ≡ None → drop n xs ≡ []
end_at [] zero h = refl
end_at [] (suc n) h = refl
end_at (y ∷ xs) zero h = absurd (cc)
end_at (y ∷ xs) (suc n) h = end_at xs n h

-- behind the first
pub next_at : {A : Type 0} → (xs : List A) (n : ℕ) (x : A) (rest : List A) → drop n xs ≡ x ∷ rest → drop (n + 1) xs ≡ rest
next_at xs n x rest e = sym (drop-drop 1 n xs) ∙ ap (drop 1) e

-- behind so many
pub behind : {A : Type 0} → (xs : List A) (n : ℕ) (front rest : List A) → drop n xs ≡ front ++ rest → drop (n + length front) xs ≡ rest
behind xs n front rest e = sym (drop-drop (length front) n xs) ∙ ap (drop (length front)) e ∙ drop-append_seam front rest

-- what reading a slice says of the item
pub found_at : {A : Type 0} → (xs : List A) (n : ℕ) (x : A) → (n < length xs) × ((other : A) → x ≡ get_or xs n other) → slice_get xs n ≡ Some x
found_at xs n x h = slice_get_read xs (length xs) n x refl h.0 (h.1 x)
