-- What a buffer has put and written, one part after another.
use Rattle.std.proofs.Common.{◌≡◌, ℕ, ◌+◌, List, [], ◌∷◌, ◌++◌, ◌<◌, length, drop, get_or, refl, sym, ap, ◌∙◌, subst, arith, append_assoc, append-nil}
use Rattle.std.proofs.lemmas.Grind.{common_steps}
use Rattle.std.specs.List.{flat_map}
use Rattle.report_lines.specs.Writing.{Output, Holds, Puts}

-- nothing more
pub puts_none : {one : Output} → Puts one one []
puts_none {one} = record { goes_on = λ start before text held. subst (λ bytes. Holds start before bytes one) (sym (append-nil text)) held }

-- one part, and then another
pub puts_both : {one two three : Output} {first second : List ℕ} → Puts one two first → Puts two three second → Puts one three (first ++ second)
puts_both {one} {two} {three} {first} {second} p q = record {
  goes_on = λ start before text held.
      subst (λ bytes. Holds start before bytes three) (append_assoc text first second)
      (q.goes_on start before (text ++ first) (p.goes_on start before text held));
}

-- the same bytes, in other words
pub puts_same : {one two : Output} {first : List ℕ} → Puts one two first → (second : List ℕ) → first ≡ second → Puts one two second
puts_same {one} {two} p second same = subst (Puts one two) same p

-- so far a front of the bytes was put, and these are left
pub record PutSoFar (old now : Output) (left bytes : List ℕ) : Type 0 where
  pub front : List ℕ
  pub put : Puts old now front
  pub parts : bytes ≡ front ++ left

-- at first all are left
pub far_none : {one : Output} (bytes : List ℕ) → PutSoFar one one bytes bytes
far_none bytes = record { front = []; put = puts_none; parts = refl }

-- one part more
pub far_more : {one two three : Output} {left bytes more : List ℕ} → PutSoFar one two left bytes → Puts two three more
    → (behind : List ℕ) → left ≡ more ++ behind → PutSoFar one three behind bytes
far_more {one} {two} {three} {left} {bytes} {more} so_far p behind cut = record {
  front = so_far.front ++ more;
  put = puts_both so_far.put p;
  parts = so_far.parts ∙ ap (λ rest. so_far.front ++ rest) cut ∙ sym (append_assoc so_far.front more behind);
}

-- at the end none are left
pub far_all : {one two : Output} {left bytes : List ℕ} → PutSoFar one two left bytes → left ≡ [] → Puts one two bytes
far_all {one} {two} {left} {bytes} so_far none =
    puts_same so_far.put bytes (sym (so_far.parts ∙ ap (λ rest. so_far.front ++ rest) none ∙ append-nil so_far.front))

-- the items from this place on are this one and those behind it
pub drop_at : {A : Type 0} (xs : List A) (i : ℕ) (d : A) → i < length xs → drop i xs ≡ get_or xs i d ∷ drop (i + 1) xs
drop_at xs i d below = grind (arith, common_steps)

-- and so are their texts
pub texts_at : {A : Type 0} (text_of : A → List ℕ) (xs : List A) (i : ℕ) (d : A) → i < length xs
    → flat_map text_of (drop i xs) ≡ text_of (get_or xs i d) ++ flat_map text_of (drop (i + 1) xs)
texts_at text_of xs i d below = ap (flat_map text_of) (drop_at xs i d below)
