-- Lists in the order of posting.
use Rattle.std.proofs.Common.{◌≡◌, ℕ, ◌+◌, ◌-◌, ◌≤◌, ◌<◌, Bool, false, not, cond, eqb, List, [], ◌∷◌, ◌++◌, length, get_or, remove, position, slice_get, All}
use Rattle.std.proofs.Common.{AllPairs, Contains, Some, None, sym, refl, ap, ◌∙◌, subst, arith, ◌⊎◌, inl, inr}
use Rattle.std.specs.List.{list_any, position_or_len}
use Rattle.std.proofs.lemmas.List.{length_push, get_or_default}
use Rattle.std.proofs.lemmas.List.Edits.{get_or-remove_below, get_or-remove_above, length-remove}
use Rattle.std.proofs.lemmas.List.Elements.{All-push, Contains-append_left, Contains-push, Contains-push_cases}
use Rattle.std.proofs.lemmas.List.Folds.{position_or_len_push}
use Rattle.std.proofs.lemmas.List.Quantifiers.{position-Some, all_pairs_push, all_pairs_remove}
use Rattle.std.proofs.lemmas.List.Sums.{fails_before_first}
use Rattle.std.proofs.lemmas.Option.{none-some, get_or_from_slice_get}
use Rattle.std.proofs.lemmas.Bool.{cases_lt, cases_eq, cases_order, or_parts, ne_eqb, eq-eqb, lt-ltb, cond-true, cond-false}
use Rattle.rt_base.specs.declared.data.ReqNo.{ReqNo}
use Rattle.rt_base.specs.Matching.{same_request}
use Rattle.rt_base.proofs.SameRequest.{same_request-self}

-- when a request was posted
abbrev pub place : List ReqNo → ReqNo → ℕ
place posted q = position_or_len (same_request q) posted

-- who was posted has the place that it had
pub old_place : (posted : List ReqNo) (q r : ReqNo) → place posted q < length posted → place (posted ++ r ∷ []) q ≡ place posted q
old_place posted q r below =
    position_or_len_push (same_request q) posted r
    ∙ cond-false (eqb (place posted q) (length posted)) (length posted + cond (same_request q r) 0 1) (place posted q)
    (ne_eqb (place posted q) (length posted) (λ same. absurd (omega (arith, same, below))))

not_there : {X : Type 0} (p : X → Bool) (xs : List X) → list_any p xs ≡ false → position_or_len p xs ≡ length xs
not_there p [] none = refl
not_there p (x ∷ xs) none =
    let parts = or_parts (p x) (list_any p xs) none in
    ap (λ (b : Bool). cond (not b) (1 + position_or_len p xs) 0) parts.0 ∙ omega (arith, not_there p xs parts.1)

-- who is new has the last place
pub new_place : (posted : List ReqNo) (q : ReqNo) → list_any (same_request q) posted ≡ false → place (posted ++ q ∷ []) q ≡ length posted
new_place posted q fresh =
    let last : place posted q ≡ length posted = not_there (same_request q) posted fresh in
    position_or_len_push (same_request q) posted q
    ∙ cond-true (eqb (place posted q) (length posted)) (length posted + cond (same_request q q) 0 1) (place posted q)
    (eq-eqb (place posted q) (length posted) last)
    ∙ ap (λ (b : Bool). length posted + cond b 0 1) (same_request-self q)
    ∙ omega arith

-- the items stand in the order in which their requests were posted
pub record InOrder {X : Type 0} (posted : List ReqNo) (req : X → ReqNo) (xs : List X) : Type 0 where
  pub pairs : AllPairs (λ a b. place posted (req a) < place posted (req b)) xs
  pub known : All (λ a. place posted (req a) < length posted) xs

pub none_in_order : {X : Type 0} (posted : List ReqNo) (req : X → ReqNo) → InOrder posted req []
none_in_order posted req = record { pairs = λ i j d lt below. absurd (omega (arith, below)); known = λ k d below. absurd (omega (arith, below)) }

-- one posting more changes no order
pub order_kept : {X : Type 0} (posted : List ReqNo) (req : X → ReqNo) (xs : List X) (r : ReqNo) → InOrder posted req xs → InOrder (posted ++ r ∷ []) req xs
order_kept posted req xs r order = record {
  pairs = λ i j d lt below.
      omega (
        arith,
        order.pairs i j d lt below,
        old_place posted (req (get_or xs i d)) r (order.known i d (omega (arith, lt, below))),
        old_place posted (req (get_or xs j d)) r (order.known j d below),
      );
  known = λ k d below.
      omega (arith, length_push posted r, order.known k d below, old_place posted (req (get_or xs k d)) r (order.known k d below));
}

All-remove : {X : Type 0} (P : X → Type 0) (xs : List X) (i : ℕ) → i < length xs → All P xs → All P (remove xs i)
All-remove P xs i within all = λ k d below.
    elim (cases_lt k i) [
      | inl before ↦ subst P (sym (get_or-remove_below xs i d k before within)) (all k d (omega (arith, before, within)))
      | inr behind ↦ subst P (sym (get_or-remove_above xs i d k behind within)) (all (k + 1) d (omega (arith, below, length-remove xs i within)))
    ]

pub order_removed : {X : Type 0} (posted : List ReqNo) (req : X → ReqNo) (xs : List X) (i : ℕ) → i < length xs → InOrder posted req xs
    → InOrder posted req (remove xs i)
order_removed posted req xs i within order = record {
  pairs = all_pairs_remove (λ a b. place posted (req a) < place posted (req b)) xs i within order.pairs;
  known = All-remove (λ a. place posted (req a) < length posted) xs i within order.known;
}

-- an item whose request is the new one comes last
pub order_pushed : {X : Type 0} (posted : List ReqNo) (req : X → ReqNo) (xs : List X) (x : X) (r : ReqNo) → req x ≡ r → list_any (same_request r) posted ≡ false
    → InOrder posted req xs → InOrder (posted ++ r ∷ []) req (xs ++ x ∷ [])
order_pushed posted req xs x r own fresh order =
    let now = order_kept posted req xs r order in
    let last : place (posted ++ r ∷ []) (req x) ≡ length posted = ap (place (posted ++ r ∷ [])) own ∙ new_place posted r fresh in
    record {
      pairs = all_pairs_push (λ a b. place (posted ++ r ∷ []) (req a) < place (posted ++ r ∷ []) (req b)) xs x now.pairs
          (λ k d below. omega (arith, last, order.known k d below, old_place posted (req (get_or xs k d)) r (order.known k d below)));
      known = All-push (λ a. place (posted ++ r ∷ []) (req a) < length (posted ++ r ∷ [])) xs x now.known (omega (arith, last, length_push posted r));
    }

-- inside a list the default doesn't matter
read_default : {X : Type 0} (p : X → Bool) (xs : List X) (k : ℕ) (d e : X) → k < length xs → p (get_or xs k d) ≡ false → p (get_or xs k e) ≡ false
read_default p xs k d e below fails = ap p (get_or_default xs k e d below) ∙ fails

-- the first that passes is the oldest: what stands earlier doesn't pass
pub oldest_is_taken : {X : Type 0} (p : X → Bool) (xs : List X) (f : X → ℕ) (i : ℕ) (taken earlier : X) → position p xs ≡ Some i → slice_get xs i ≡ Some taken
    → AllPairs (λ a b. f a < f b) xs → Contains xs earlier → f earlier < f taken → p earlier ≡ false
oldest_is_taken p xs f i taken earlier is there pairs has before =
    let at = position-Some p xs i taken is in
    let here : get_or xs i earlier ≡ taken = get_or_from_slice_get xs i taken earlier there in
    elim (cases_lt has.0 i) [
      | inl front ↦ subst (λ x. p x ≡ false) (has.2) (read_default p xs has.0 taken earlier has.1 (at.2 has.0 front))
      | inr behind ↦ absurd (elim (cases_eq has.0 i) [
        | inl same ↦ omega (arith, before, ap f (sym has.2 ∙ ap (λ (k : ℕ). get_or xs k earlier) same ∙ here))
        | inr other ↦ omega (arith, before, pairs i has.0 earlier (omega (arith, behind, other)) has.1, ap f here, ap f has.2)
      ])
    ]

back_again : (k i : ℕ) → i < k → (k - 1) + 1 ≡ k
back_again k i below = omega (arith, below)

-- what is in a list is in it without one item, or is that item
contains_removed : {X : Type 0} (xs : List X) (i : ℕ) (d x : X) → i < length xs → Contains xs x → Contains (remove xs i) x ⊎ (get_or xs i d ≡ x)
contains_removed xs i d x within has =
    elim (cases_order has.0 i) [
      | inl same ↦ inr (get_or_default xs i d x within ∙ ap (λ (k : ℕ). get_or xs k x) (sym same) ∙ has.2)
      | inr apart ↦ elim apart [
        | inl before ↦ inl (has.0, omega (arith, before, within, length-remove xs i within), get_or-remove_below xs i x has.0 before within ∙ has.2)
        | inr behind ↦ inl (
          has.0 - 1,
          omega (arith, behind, has.1, length-remove xs i within),
          get_or-remove_above xs i x (has.0 - 1) (omega (arith, behind)) within ∙ ap (λ (k : ℕ). get_or xs k x) (back_again has.0 i behind) ∙ has.2,
        )
      ]
    ]

-- what is in a list without one item is in the list
pub contains_whole : {X : Type 0} (xs : List X) (i : ℕ) (x : X) → i < length xs → Contains (remove xs i) x → Contains xs x
contains_whole xs i x within has =
    elim (cases_lt has.0 i) [
      | inl before ↦ (has.0, omega (arith, before, within), sym (get_or-remove_below xs i x has.0 before within) ∙ has.2)
      | inr behind ↦ (has.0 + 1, omega (arith, has.1, length-remove xs i within), sym (get_or-remove_above xs i x has.0 behind within) ∙ has.2)
    ]

none_means : {X : Type 0} (p : X → Bool) (xs : List X) → position p xs ≡ None → length xs ≤ position_or_len p xs
none_means p xs none =
    elim (cases_lt (position_or_len p xs) (length xs)) [
      | inl below ↦ absurd (none-some (position_or_len p xs) (sym none
          ∙ ap (λ (b : Bool). cond b (Some (position_or_len p xs)) None) (lt-ltb (position_or_len p xs) (length xs) below)))
      | inr past ↦ past
    ]

-- where no place passes, nothing does
pub fails_everywhere : {X : Type 0} (p : X → Bool) (xs : List X) (x : X) → position p xs ≡ None → Contains xs x → p x ≡ false
fails_everywhere p xs x none has =
    subst (λ y. p y ≡ false) has.2 (fails_before_first p xs has.0 x (omega (arith, none_means p xs none, has.1)))

-- nothing of the one sort that waits fits what waits of the other
abbrev pub Apart : {X Y : Type 0} → (X → Y → Bool) → List X → List Y → Type 0
Apart {X} {Y} fits xs ys = (x : X) (y : Y) → Contains xs x → Contains ys y → fits x y ≡ false

pub nothing_apart : {X Y : Type 0} (fits : X → Y → Bool) (ys : List Y) → Apart fits [] ys
nothing_apart fits ys = λ x y has_x has_y. absurd (omega (arith, has_x.1))

pub apart_swapped : {X Y : Type 0} (fits : X → Y → Bool) (xs : List X) (ys : List Y) → Apart fits xs ys → Apart (λ y x. fits x y) ys xs
apart_swapped fits xs ys apart = λ y x has_y has_x. apart x y has_x has_y

pub apart_waits : {X Y : Type 0} (fits : X → Y → Bool) (x : X) (xs : List X) (ys : List Y) → position (fits x) ys ≡ None → Apart fits xs ys
    → Apart fits (xs ++ x ∷ []) ys
apart_waits fits x xs ys none apart = λ z y has_z has_y. elim (Contains-push_cases xs x z has_z) [
  | inl was ↦ apart z y was has_y
  | inr same ↦ subst (λ v. fits v y ≡ false) same (fails_everywhere (fits x) ys y none has_y)
]

pub apart_takes : {X Y : Type 0} (fits : X → Y → Bool) (xs : List X) (ys : List Y) (i : ℕ) → i < length ys → Apart fits xs ys → Apart fits xs (remove ys i)
apart_takes fits xs ys i within apart = λ z w has_z has_w. apart z w has_z (contains_whole ys i w within has_w)

-- two sorts of postings that wait for each other, in the order of posting: what waits, what was matched, and what was posted of each
pub record Sides {X Y : Type 0} (fits : X → Y → Bool) (fx : X → ReqNo) (fy : Y → ReqNo) (posted : List ReqNo)
    (done : List X) (dealt : List Y) (xs : List X) (ys : List Y) (Came : X → Type 0) (Went : Y → Type 0) : Type 0 where
  pub apart : Apart fits xs ys
  pub one_order : InOrder posted fx xs
  pub other_order : InOrder posted fy ys
  pub one_known : (x : X) → Came x → Contains xs x ⊎ Contains done x
  pub other_known : (y : Y) → Went y → Contains ys y ⊎ Contains dealt y

-- the same from the other side
pub swapped : {X Y : Type 0} {fits : X → Y → Bool} {fx : X → ReqNo} {fy : Y → ReqNo} {posted : List ReqNo}
    {done : List X} {dealt : List Y} {xs : List X} {ys : List Y} {Came : X → Type 0} {Went : Y → Type 0}
    → Sides fits fx fy posted done dealt xs ys Came Went → Sides (λ y x. fits x y) fy fx posted dealt done ys xs Went Came
swapped sides = record {
  apart = λ y x has_y has_x. sides.apart x y has_x has_y;
  one_order = sides.other_order;
  other_order = sides.one_order;
  one_known = sides.other_known;
  other_known = sides.one_known;
}

-- what was known of the postings so far holds with one posting more, that changes nothing here
known_more : {X : Type 0} (xs done more : List X) (Came After : X → Type 0) → ((x : X) → After x → Came x)
    → ((x : X) → Came x → Contains xs x ⊎ Contains done x) → (x : X) → After x → Contains xs x ⊎ Contains (done ++ more) x
known_more xs done more Came After before known x came =
    elim (known x (before x came)) [
      | inl waits ↦ inl waits
      | inr matched ↦ inr (Contains-append_left done more x matched)
    ]

pub elsewhere : {X Y : Type 0} (fits : X → Y → Bool) (fx : X → ReqNo) (fy : Y → ReqNo) (posted : List ReqNo) (r : ReqNo)
    (done more : List X) (dealt rest : List Y) (xs : List X) (ys : List Y) (Came After : X → Type 0) (Went Later : Y → Type 0)
    → Sides fits fx fy posted done dealt xs ys Came Went → ((x : X) → After x → Came x) → ((y : Y) → Later y → Went y)
    → Sides fits fx fy (posted ++ r ∷ []) (done ++ more) (dealt ++ rest) xs ys After Later
elsewhere fits fx fy posted r done more dealt rest xs ys Came After Went Later sides came went = record {
  apart = sides.apart;
  one_order = order_kept posted fx xs r sides.one_order;
  other_order = order_kept posted fy ys r sides.other_order;
  one_known = known_more xs done more Came After came sides.one_known;
  other_known = known_more ys dealt rest Went Later went sides.other_known;
}

-- a posting that finds no partner waits
pub waits_here : {X Y : Type 0} (fits : X → Y → Bool) (fx : X → ReqNo) (fy : Y → ReqNo) (posted : List ReqNo) (r : ReqNo) (x : X)
    (done : List X) (dealt : List Y) (xs : List X) (ys : List Y) (Came After : X → Type 0) (Went Later : Y → Type 0)
    → fx x ≡ r → list_any (same_request r) posted ≡ false → position (fits x) ys ≡ None
    → Sides fits fx fy posted done dealt xs ys Came Went → ((z : X) → After z → Came z ⊎ (x ≡ z)) → ((y : Y) → Later y → Went y)
    → Sides fits fx fy (posted ++ r ∷ []) (done ++ []) (dealt ++ []) (xs ++ x ∷ []) ys After Later
waits_here fits fx fy posted r x done dealt xs ys Came After Went Later own fresh none sides came went = record {
  apart = apart_waits fits x xs ys none sides.apart;
  one_order = order_pushed posted fx xs x r own fresh sides.one_order;
  other_order = order_kept posted fy ys r sides.other_order;
  one_known = λ z after. elim (came z after) [
    | inl was ↦ elim (sides.one_known z was) [
      | inl waits ↦ inl (Contains-append_left xs (x ∷ []) z waits)
      | inr matched ↦ inr (Contains-append_left done [] z matched)
    ]
    | inr same ↦ inl (subst (Contains (xs ++ x ∷ [])) same (Contains-push xs x))
  ];
  other_known = known_more ys dealt [] Went Later went sides.other_known;
}

-- a posting that finds a partner takes it
pub takes_here : {X Y : Type 0} (fits : X → Y → Bool) (fx : X → ReqNo) (fy : Y → ReqNo) (posted : List ReqNo) (r : ReqNo) (x : X) (y : Y) (i : ℕ)
    (done : List X) (dealt : List Y) (xs : List X) (ys : List Y) (Came After : X → Type 0) (Went Later : Y → Type 0)
    → i < length ys → get_or ys i y ≡ y
    → Sides fits fx fy posted done dealt xs ys Came Went → ((z : X) → After z → Came z ⊎ (x ≡ z)) → ((y : Y) → Later y → Went y)
    → Sides fits fx fy (posted ++ r ∷ []) (done ++ x ∷ []) (dealt ++ y ∷ []) xs (remove ys i) After Later
takes_here fits fx fy posted r x y i done dealt xs ys Came After Went Later within there sides came went = record {
  apart = apart_takes fits xs ys i within sides.apart;
  one_order = order_kept posted fx xs r sides.one_order;
  other_order = order_kept posted fy (remove ys i) r (order_removed posted fy ys i within sides.other_order);
  one_known = λ z after. elim (came z after) [
    | inl was ↦ elim (sides.one_known z was) [
      | inl waits ↦ inl waits
      | inr matched ↦ inr (Contains-append_left done (x ∷ []) z matched)
    ]
    | inr same ↦ inr (subst (Contains (done ++ x ∷ [])) same (Contains-push done x))
  ];
  other_known = λ w later. elim (sides.other_known w (went w later)) [
    | inl waits ↦ elim (contains_removed ys i y w within waits) [
      | inl still ↦ inl still
      | inr gone ↦ inr (subst (Contains (dealt ++ y ∷ [])) (sym there ∙ gone) (Contains-push dealt y))
    ]
    | inr matched ↦ inr (Contains-append_left dealt (y ∷ []) w matched)
  ];
}
