-- A pass with all accounts knows what became of each put.
use Rattle.std.proofs.Common.{◌≡◌, ◌≢◌, ◌==◌, ◌&&◌, ℕ, zero, suc, ◌+◌, ◌*◌, ◌<◌, ◌≤◌, Bool, true, false, cond, List, [], ◌∷◌, ◌++◌, length, map, take}
use Rattle.std.proofs.Common.{get_or, Some, slice_get, inl, inr, sym, refl, ap, ◌∙◌, subst, arith, eq-eqb, ne_eqb, append_assoc, mul-one}
use Rattle.std.specs.List.{All, Contains, count_by, sum_by, filter, flat_map}
use Rattle.std.proofs.lemmas.Bool.Decides.{eqb_tells}
use Rattle.std.proofs.lemmas.List.{length-map, map-append}
use Rattle.std.proofs.lemmas.List.Elements.{All-nil, All-cons, All-head, All-tail, All-append, filter-append}
use Rattle.std.proofs.lemmas.List.Sums.{sum_by-cons, length-filter}
use Rattle.ready_bag.specs.declared.account.Numbered.{Numbered}
use Rattle.ready_bag.specs.declared.account.Account.{Account}
use Rattle.ready_bag.specs.Past.{item, is_of, put_by, taken_by, AreNumbered}
use Rattle.ready_bag.specs.Rule.{is_owner}
use Rattle.ready_bag.specs.Closing.{is_put}
use Rattle.ready_bag.proofs.Sums.{sum_by-add, sum_by-same, weighed}
use Rattle.ready_bag.proofs.Pasts.{count_push}

abbrev pub one_if : Bool → ℕ
one_if b = cond b 1 0

module _ {A : Type 0} where
  sum_zero : (xs : List A) → sum_by (λ _. 0) xs ≡ 0
  sum_zero [] = refl
  sum_zero (x ∷ xs) = omega (arith, sum_zero xs, sum_by-cons (λ (_ : A). 0) x xs)

  pub all_flat_map : {B : Type 0} (P : B → Type 0) (f : A → List B) (xs : List A) → All (λ x. All P (f x)) xs → All P (flat_map f xs)
  all_flat_map P f [] all = All-nil P
  all_flat_map P f (x ∷ xs) all = All-append P (f x) (flat_map f xs) (All-head (λ y.
      All P (f y)) x xs all) (all_flat_map P f xs (All-tail (λ y. All P (f y)) x xs all))

  -- one that passes, where some do
  pub record Found (test : A → Bool) (xs : List A) : Type 0 where
    pub one : A
    pub here : Contains xs one
    pub passes : test one ≡ true

  found_cons : (test : A → Bool) (x : A) (xs : List A) → Found test xs → Found test (x ∷ xs)
  found_cons test x xs f = let k = f.here.0 in let lt = f.here.1 in record { one = f.one; here = (suc k, omega (arith, lt), f.here.2); passes = f.passes }

  pub found : (test : A → Bool) (xs : List A) → 0 < count_by test xs → Found test xs
  found test [] some_one = absurd (omega arith)
  found test (x ∷ xs) some_one =
      let step : (b : Bool) → test x ≡ b → 0 < cond b 1 0 + count_by test xs → Found test (x ∷ xs) =
      λ b. elim b as (λ c. test x ≡ c → 0 < cond c 1 0 + count_by test xs → Found test (x ∷ xs)) [
        | true ↦ λ is _. record { one = x; here = (0, omega arith, refl); passes = is }
        | false ↦ λ is more. found_cons test x xs (found test xs (omega (arith, more)))
      ] in
      step (test x) refl (subst (λ (n : ℕ). 0 < n) (sum_by-cons (λ y. cond (test y) 1 0) x xs) some_one)

module _ {T : Type 0} where
  pub numbered_take : (n : ℕ) (before puts : List (Numbered T)) → AreNumbered before puts → AreNumbered before (take n puts)
  numbered_take zero before puts numbered = tt
  numbered_take (suc n) before [] numbered = tt
  numbered_take (suc n) before (p ∷ puts) numbered = (numbered.0, numbered_take n (before ++ p ∷ []) puts numbered.1)

  -- of an owner's puts behind others each number stands once
  pub record Stands (before puts : List (Numbered T)) (owner number : ℕ) : Type 0 where
    pub below : number < count_by (is_of owner) before → count_by (is_put owner number) puts ≡ 0
    pub among : count_by (is_of owner) before ≤ number → number < count_by (is_of owner) before + count_by (is_of owner) puts →
        count_by (is_put owner number) puts ≡ 1
    pub above : count_by (is_of owner) before + count_by (is_of owner) puts ≤ number → count_by (is_put owner number) puts ≡ 0

  stands_own : (before puts : List (Numbered T)) (p : Numbered T) (owner number : ℕ) → p.owner ≡ owner → p.number ≡ count_by (is_of owner) before →
      Stands (before ++ p ∷ []) puts owner number → Stands before (p ∷ puts) owner number
  stands_own before puts p owner number own is rest =
      let hit : one_if (is_of owner p) ≡ 1 = ap one_if (eq-eqb p.owner owner own) in
      let more = count_push owner before p in
      let first = sum_by-cons (λ q. cond (is_put owner number q) 1 0) p puts in
      let counts = sum_by-cons (λ q. cond (is_of owner q) 1 0) p puts in
      let same : one_if (is_put owner number p) ≡ one_if (p.number == number) =
      ap (λ (b : Bool). one_if (b && (p.number == number))) (eq-eqb p.owner owner own) in
      let miss : p.number ≢ number → one_if (p.number == number) ≡ 0 = λ ne. ap one_if (ne_eqb p.number number ne) in
      let equal : p.number ≡ number → one_if (p.number == number) ≡ 1 = λ e. ap one_if (eq-eqb p.number number e) in
      record {
        below = λ lt. omega (arith, first, same, miss (λ e. omega (arith, lt, is)), rest.below (omega (arith, lt, more, hit)));
        among = λ least most. elim (eqb_tells p.number number) [
          | inl same_number ↦ omega (arith, first, same, equal same_number.1, rest.below (omega (arith, more, hit, is, same_number.1)))
          | inr other ↦ omega (
            arith,
            first,
            same,
            miss other.1,
            rest.among (let ne = other.1 in omega (arith, least, is, more, hit)) (omega (arith, most, more, hit, counts)),
          )
        ];
        above = λ least. omega (arith, first, same, miss (λ e. omega (arith, least, is, counts, hit)), rest.above (omega (arith, least, more, hit, counts)));
      }

  stands_other : (before puts : List (Numbered T)) (p : Numbered T) (owner number : ℕ) → p.owner ≢ owner → Stands (before ++ p ∷ []) puts owner number →
      Stands before (p ∷ puts) owner number
  stands_other before puts p owner number other rest =
      let none : one_if (is_of owner p) ≡ 0 = ap one_if (ne_eqb p.owner owner other) in
      let more = count_push owner before p in
      let first = sum_by-cons (λ q. cond (is_put owner number q) 1 0) p puts in
      let counts = sum_by-cons (λ q. cond (is_of owner q) 1 0) p puts in
      let miss : one_if (is_put owner number p) ≡ 0 = ap (λ (b : Bool). one_if (b && (p.number == number))) (ne_eqb p.owner owner other) in
      record {
        below = λ lt. omega (arith, first, miss, rest.below (omega (arith, lt, more, none)));
        among = λ least most. omega (arith, first, miss, rest.among (omega (arith, least, more, none)) (omega (arith, most, more, none, counts)));
        above = λ least. omega (arith, first, miss, rest.above (omega (arith, least, more, none, counts)));
      }

  pub stands : (before puts : List (Numbered T)) (owner number : ℕ) → AreNumbered before puts → Stands before puts owner number
  stands before [] owner number numbered = record { below = λ _. refl; among = λ least most. absurd (omega (arith, least, most)); above = λ _. refl }
  stands before (p ∷ puts) owner number numbered =
      let rest = stands (before ++ p ∷ []) puts owner number numbered.1 in
      elim (eqb_tells p.owner owner) [
        | inl own ↦ stands_own before puts p owner number own.1 (numbered.0 ∙ ap (λ (w : ℕ). count_by (is_of w) before) own.1) rest
        | inr other ↦ stands_other before puts p owner number other.1 rest
      ]

  -- the item at the end of one list is the first of the next
  at_seam : (xs ys : List T) (y : T) → slice_get (xs ++ y ∷ ys) (length xs) ≡ Some y
  at_seam [] ys y = refl
  at_seam (x ∷ xs) ys y = at_seam xs ys y

  pub length-put_by : (owner : ℕ) (puts : List (Numbered T)) → length (put_by owner puts) ≡ count_by (is_of owner) puts
  length-put_by owner puts = length-map (filter (is_of owner) puts) item ∙ length-filter (is_of owner) puts

  -- each put stands in its owner's list at its number
  abbrev pub IsPutUnder : List (Numbered T) → Numbered T → Type 0
  IsPutUnder puts p = slice_get (put_by p.owner puts) p.number ≡ Some p.item

  put_here : (before puts : List (Numbered T)) (p : Numbered T) → p.number ≡ count_by (is_of p.owner) before → IsPutUnder (before ++ p ∷ puts) p
  put_here before puts p is =
      let own : filter (is_of p.owner) (p ∷ puts) ≡ p ∷ filter (is_of p.owner) puts =
      ap (λ (b : Bool). cond b (p ∷ filter (is_of p.owner) puts) (filter (is_of p.owner) puts)) (eq-eqb p.owner p.owner refl) in
      let parts : put_by p.owner (before ++ p ∷ puts) ≡ put_by p.owner before ++ p.item ∷ put_by p.owner puts =
      ap (λ (l : List (Numbered T)). map item l) (filter-append (is_of p.owner) before (p ∷ puts)
      ∙ ap (λ (l : List (Numbered T)). filter (is_of p.owner) before ++ l) own)
      ∙ map-append item (filter (is_of p.owner) before) (p ∷ filter (is_of p.owner) puts) in
      let place : p.number ≡ length (put_by p.owner before) = is ∙ sym (length-put_by p.owner before) in
      (λ i. slice_get (parts i) (place i)) ∙ at_seam (put_by p.owner before) (put_by p.owner puts) p.item

  pub puts_stand : (before puts : List (Numbered T)) → AreNumbered before puts → All (IsPutUnder (before ++ puts)) puts
  puts_stand before [] numbered = All-nil (IsPutUnder (before ++ []))
  puts_stand before (p ∷ puts) numbered =
      All-cons (IsPutUnder (before ++ p ∷ puts)) p puts (put_here before puts p numbered.0)
      (subst (λ (l : List (Numbered T)). All (IsPutUnder l) puts) (append_assoc before (p ∷ []) puts) (puts_stand (before ++ p ∷ []) puts numbered.1))

  abbrev pub Once : List (Account T) → ℕ → Type 0
  Once accounts owner = count_by (is_owner owner) accounts ≡ 1

  -- each put is in one account
  pub put_count : (accounts : List (Account T)) (puts : List (Numbered T)) → All (λ p. Once accounts p.owner) puts →
      sum_by (λ a. count_by (is_of a.owner) puts) accounts ≡ length puts
  put_count accounts [] once = sum_zero accounts
  put_count accounts (p ∷ puts) once =
      let here : Once accounts p.owner = All-head (λ q. Once accounts q.owner) p puts once in
      let rest = put_count accounts puts (All-tail (λ q. Once accounts q.owner) p puts once) in
      let parts = sum_by-same (λ a. count_by (is_of a.owner) (p ∷ puts)) (λ a. cond (is_owner p.owner a) 1 0 + count_by (is_of a.owner) puts) accounts
      (λ k d _. sum_by-cons (λ q. cond (is_of (get_or accounts k d).owner q) 1 0) p puts) in
      omega (arith, parts, here, rest, sum_by-add (λ a. cond (is_owner p.owner a) 1 0) (λ a. count_by (is_of a.owner) puts) accounts)

  -- each of the first puts was taken by one account
  pub taken_count : (accounts : List (Account T)) (test : Numbered T → Bool) (takers : List ℕ) (puts : List (Numbered T)) → length takers ≤ length puts →
      All (Once accounts) takers →
      sum_by (λ a. count_by test (taken_by a.owner takers puts)) accounts ≡ count_by test (take (length takers) puts)
  taken_count accounts test [] puts short once = sum_zero accounts
  taken_count accounts test (taker ∷ takers) [] short once = absurd (omega (arith, short))
  taken_count accounts test (taker ∷ takers) (p ∷ puts) short once =
      let here : Once accounts taker = All-head (Once accounts) taker takers once in
      let rest = taken_count accounts test takers puts (omega (arith, short)) (All-tail (Once accounts) taker takers once) in
      let weight : ℕ = one_if (test p) in
      let step : (b : Bool) (l : List (Numbered T)) → count_by test (cond b (p ∷ l) l) ≡ cond b weight 0 + count_by test l =
      λ b l. elim b as (λ c. count_by test (cond c (p ∷ l) l) ≡ cond c weight 0 + count_by test l) [
        | true ↦ sum_by-cons (λ q. cond (test q) 1 0) p l
        | false ↦ omega arith
      ] in
      let parts = sum_by-same (λ a. count_by test (taken_by a.owner (taker ∷ takers) (p ∷ puts))) (λ a.
      cond (is_owner taker a) weight 0 + count_by test (taken_by a.owner takers puts)) accounts
      (λ k d _. step (is_owner taker (get_or accounts k d)) (taken_by (get_or accounts k d).owner takers puts)) in
      let one : weight * count_by (is_owner taker) accounts ≡ weight = ap (λ (n : ℕ). weight * n) here ∙ mul-one weight in
      omega (
        arith,
        parts,
        one,
        rest,
        weighed weight (is_owner taker) accounts,
        sum_by-add (λ a. cond (is_owner taker a) weight 0) (λ a. count_by test (taken_by a.owner takers puts)) accounts,
        sum_by-cons (λ q. cond (test q) 1 0) p (take (length takers) puts),
      )
