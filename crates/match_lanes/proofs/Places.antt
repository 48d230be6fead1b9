-- Which place is in which lane, in lists of lanes.
use Rattle.std.proofs.Common.{◌≡◌, ◌≢◌, ◌⊎◌, ℕ, zero, suc, ◌≤◌, ◌<◌, Bool, true, false, not, List, [], ◌∷◌, ◌++◌, length, get_or, set, position, map, ltb}
use Rattle.std.proofs.Common.{Option, Some, None, refl, sym, ap, ◌∙◌, arith, inl, inr, true≢false, slice_get}
use Rattle.std.specs.List.{position_or_len}
use Rattle.std.proofs.lemmas.Bool.{false≢true, eqb-true, eq-eqb, ne_eqb, cases_eq, cases_lt, cond-true, cond-false, lt-ltb, le-ltb, both_ways}
use Rattle.std.proofs.lemmas.List.{get_or-set_other, length-map, map-append}
use Rattle.std.proofs.lemmas.List.Sums.{position_or_len_is, prefix_len-le-length}
use Rattle.match_lanes.specs.Hung.{is_lane}
use Rattle.match_lanes.specs.Links.{is_on}
use Rattle.match_lanes.specs.Waiting.{Waits}

-- past the end there is no lane
pub on_past : (l : ℕ) (xs : List (Option ℕ)) (q : ℕ) → length xs ≤ q → is_on l xs q ≡ false
on_past l [] q h = refl
on_past l (x ∷ xs) zero h = absurd (omega arith)
on_past l (x ∷ xs) (suc q) h = on_past l xs q (omega arith)

-- a place in a lane is within the list
pub on_within : (l : ℕ) (xs : List (Option ℕ)) (q : ℕ) → is_on l xs q ≡ true → q < length xs
on_within l xs q on = elim (cases_lt q (length xs)) [ inl within ↦ within | inr past ↦ absurd (both_ways (is_on l xs q) (on_past l xs q past) on) ]

lane_is : (l k : ℕ) (x : Option ℕ) → is_lane l x ≡ true → is_lane k x ≡ true → l ≡ k
lane_is l k None first second = absurd (true≢false (sym first))
lane_is l k (Some x) first second = eqb-true l x first ∙ sym (eqb-true k x second)

-- a place is in one lane at most
pub one_lane : (l k : ℕ) (xs : List (Option ℕ)) (q : ℕ) → is_on l xs q ≡ true → is_on k xs q ≡ true → l ≡ k
one_lane l k xs q first second = lane_is l k (get_or xs q None) first second

-- the place that a list gets is in its lane
pub on_here : (lane : ℕ) (xs : List (Option ℕ)) → is_on lane (xs ++ Some lane ∷ []) (length xs) ≡ true
on_here lane [] = eq-eqb lane lane refl
on_here lane (x ∷ xs) = on_here lane xs

pub on_at : (lane : ℕ) (xs : List (Option ℕ)) (q : ℕ) → q ≡ length xs → is_on lane (xs ++ Some lane ∷ []) q ≡ true
on_at lane xs q is = ap (is_on lane (xs ++ Some lane ∷ [])) is ∙ on_here lane xs

-- it is in no other lane, and all other places are where they were
pub on_other : (l lane : ℕ) (xs : List (Option ℕ)) (q : ℕ) → l ≢ lane → is_on l (xs ++ Some lane ∷ []) q ≡ is_on l xs q
on_other l lane [] zero other = ne_eqb l lane other
on_other l lane [] (suc q) other = refl
on_other l lane (x ∷ xs) zero other = refl
on_other l lane (x ∷ xs) (suc q) other = on_other l lane xs q other

pub on_before : (l : ℕ) (xs : List (Option ℕ)) (x : Option ℕ) (q : ℕ) → q < length xs → is_on l (xs ++ x ∷ []) q ≡ is_on l xs q
on_before l [] x q h = absurd (omega arith)
on_before l (y ∷ ys) x zero h = refl
on_before l (y ∷ ys) x (suc q) h = on_before l ys x q (omega arith)

pub length_one_more : {X : Type 0} (xs : List X) (x : X) → length (xs ++ x ∷ []) ≡ suc (length xs)
length_one_more [] x = refl
length_one_more (y ∷ xs) x = ap suc (length_one_more xs x)

pub on_after : (l : ℕ) (xs : List (Option ℕ)) (x : Option ℕ) (q : ℕ) → length xs < q → is_on l (xs ++ x ∷ []) q ≡ false
on_after l xs x q h = on_past l (xs ++ x ∷ []) q (omega (arith, length_one_more xs x))

-- what is gone is in no lane
pub on_gone : (l : ℕ) (xs : List (Option ℕ)) (place : ℕ) → is_on l (set xs place None) place ≡ false
on_gone l [] place = refl
on_gone l (x ∷ xs) zero = refl
on_gone l (x ∷ xs) (suc place) = on_gone l xs place

pub on_kept : (l : ℕ) (xs : List (Option ℕ)) (place q : ℕ) → q ≢ place → is_on l (set xs place None) q ≡ is_on l xs q
on_kept l xs place q apart = ap (is_lane l) (get_or-set_other xs place q None None apart)

-- where something was in no lane, it is in none after something else is gone
pub still_off : (l : ℕ) (xs : List (Option ℕ)) (place q : ℕ) → is_on l xs q ≡ false → is_on l (set xs place None) q ≡ false
still_off l xs place q off =
    elim (cases_eq q place) [
      | inl same ↦ ap (is_on l (set xs place None)) same ∙ on_gone l xs place
      | inr apart ↦ on_kept l xs place q apart ∙ off
    ]

-- the first place that passes, by what is known of it
pub position_some : {X : Type 0} (p : X → Bool) (xs : List X) (i : ℕ) (d : X) → i < length xs → p (get_or xs i d) ≡ true
    → ((k : ℕ) → k < i → p (get_or xs k d) ≡ false) → position p xs ≡ Some i
position_some p xs i d within passes before =
    let at : position_or_len p xs ≡ i = position_or_len_is p xs i d (omega arith) before (λ _. passes) in
    cond-true (ltb (position_or_len p xs) (length xs)) (Some (position_or_len p xs)) None (lt-ltb (position_or_len p xs) (length xs) (omega (arith, at)))
    ∙ ap (λ (n : ℕ). Some n) at

pub position_none : {X : Type 0} (p : X → Bool) (xs : List X) (d : X) → ((k : ℕ) → k < length xs → p (get_or xs k d) ≡ false) → position p xs ≡ None
position_none p xs d fails =
    let at : position_or_len p xs ≡ length xs = position_or_len_is p xs (length xs) d (omega arith) fails (λ h. absurd (omega arith)) in
    cond-false (ltb (position_or_len p xs) (length xs)) (Some (position_or_len p xs)) None (le-ltb (position_or_len p xs) (length xs) (omega (arith, at)))

-- a write that keeps what is seen of an item
pub map_set_kept : {X Y : Type 0} (f : X → Y) (xs : List X) (i : ℕ) (x d : X) → f x ≡ f (get_or xs i d) → map f (set xs i x) ≡ map f xs
map_set_kept f [] i x d same = refl
map_set_kept f (y ∷ ys) zero x d same = ap (λ z. z ∷ map f ys) same
map_set_kept f (y ∷ ys) (suc i) x d same = ap (λ zs. f y ∷ zs) (map_set_kept f ys i x d same)

-- within a list the default doesn't matter
pub any_default : {X : Type 0} (xs : List X) (i : ℕ) (a b : X) → i < length xs → get_or xs i a ≡ get_or xs i b
any_default [] i a b within = absurd (omega arith)
any_default (x ∷ xs) zero a b within = refl
any_default (x ∷ xs) (suc i) a b within = any_default xs i a b (omega arith)

-- what is seen of a list that got an item
pub seen_more : {X Y : Type 0} (f : X → Y) (new old : List X) (x : X) (ys : List Y) (y : Y) → new ≡ old ++ x ∷ [] → map f old ≡ ys → f x ≡ y
    → map f new ≡ ys ++ y ∷ []
seen_more f new old x ys y is before last =
    ap (map f) is ∙ map-append f old (x ∷ []) ∙ ap (λ zs. zs ++ f x ∷ []) before ∙ ap (λ z. ys ++ z ∷ []) last

-- a list of which the same is seen is as long
pub as_long : {X Y : Type 0} (f : X → Y) (new old : List X) → map f new ≡ map f old → length new ≡ length old
as_long f new old same = sym (length-map new f) ∙ ap (λ ys. length ys) same ∙ length-map old f

-- where none passes, the first place that does is the end
pub past_all : {X : Type 0} (p : X → Bool) (xs : List X) → position p xs ≡ None → position_or_len p xs ≡ length xs
past_all p xs none =
    elim (cases_lt (position_or_len p xs) (length xs)) [
      | inl within ↦ absurd (some_is_none (position_or_len p xs) (sym (cond-true (ltb (position_or_len p xs) (length xs)) (Some (position_or_len p xs)) None
          (lt-ltb (position_or_len p xs) (length xs) within)) ∙ none))
      | inr past ↦ omega (arith, prefix_len-le-length (λ x. not (p x)) xs)
    ]
  where
    some_is_none : (n : ℕ) → ◌≡◌ {A = Option ℕ} (Some n) None → ⊥
    some_is_none n e = absurd (cc)

pub place_is : {X : Type 0} (p : X → Bool) (xs : List X) (i : ℕ) → position p xs ≡ Some i → position_or_len p xs ≡ i
place_is p xs i found =
    elim (cases_lt (position_or_len p xs) (length xs)) [
      | inl within ↦ some_same (position_or_len p xs) i (sym (cond-true (ltb (position_or_len p xs) (length xs)) (Some (position_or_len p xs)) None
          (lt-ltb (position_or_len p xs) (length xs) within)) ∙ found)
      | inr past ↦ absurd (none_some i (sym (cond-false (ltb (position_or_len p xs) (length xs)) (Some (position_or_len p xs)) None
          (le-ltb (position_or_len p xs) (length xs) past)) ∙ found))
    ]
  where
    some_same : (n m : ℕ) → ◌≡◌ {A = Option ℕ} (Some n) (Some m) → n ≡ m
    some_same n m e = cc

    none_some : (n : ℕ) → ◌≡◌ {A = Option ℕ} None (Some n) → ⊥
    none_some n e = absurd (cc)

-- what is known of all lanes, and of the new one, is known of those after it
pub pushed_known : (was : List (Option ℕ)) (l lane q count : ℕ) → lane < count → (is_on l was q ≡ true → l < count) → is_on l (was ++ Some lane ∷ []) q ≡ true
    → (l ≡ lane) ⊎ (l ≢ lane) → l < count
pushed_known was l lane q count below known on (inl same) = omega arith
pushed_known was l lane q count below known on (inr apart) = known (sym (on_other l lane was q apart) ∙ on)

-- what is read at a place where something waits is there
pub read_waits : {X : Type 0} (items : List (Option X)) (place : ℕ) (o : Option X) (x : X) → o ≡ get_or items place o → o ≡ Some x → Waits items place
    → slice_get items place ≡ Some (Some x)
read_waits [] place o x is some waits = absurd (false≢true waits)
read_waits (y ∷ ys) zero o x is some waits = ap (λ z. Some z) (sym is ∙ some)
read_waits (y ∷ ys) (suc place) o x is some waits = read_waits ys place o x is some waits

pub waits_within : {X : Type 0} (items : List (Option X)) (place : ℕ) → Waits items place → place < length items
waits_within [] place waits = absurd (false≢true waits)
waits_within (y ∷ ys) zero waits = omega arith
waits_within (y ∷ ys) (suc place) waits = let rest = waits_within ys place waits in omega arith
