-- What waits, after something was taken or added.
use Rattle.std.proofs.Common.{◌≡◌, ℕ, suc, Bool, true, false, List, [], ◌∷◌, ◌++◌, set, remove, position, slice_get, Option, Some, None, option_map, refl}
use Rattle.std.proofs.Common.{sym, ap, ◌∙◌, inl, inr, subst}
use Rattle.std.proofs.lemmas.Bool.{cond-true, cond-false, cases_Bool}
use Rattle.match_lanes.specs.Waiting.{waiting, passes, Waits}
use Rattle.match_lanes.proofs.Finding.{position_cons}

-- what is added waits behind the others
pub waiting_more : {X : Type 0} (items : List (Option X)) (x : X) → waiting (items ++ Some x ∷ []) ≡ waiting items ++ x ∷ []
waiting_more [] x = refl
waiting_more (None ∷ items) x = waiting_more items x
waiting_more (Some y ∷ items) x = ap (λ xs. y ∷ xs) (waiting_more items x)

-- what is at the first place that passes is the first that waits and passes
pub record IsTaken {X : Type 0} (test : X → Bool) (items : List (Option X)) (i : ℕ) : Type 0 where
  pub place : ℕ
  pub item : X
  pub at : slice_get items i ≡ Some (Some item)
  pub found : position test (waiting items) ≡ Some place
  pub is : slice_get (waiting items) place ≡ Some item
  pub rest : waiting (set items i None) ≡ remove (waiting items) place
  pub waits : Waits items i

one_less : (o : Option ℕ) (i : ℕ) → option_map suc o ≡ Some i → (j : ℕ) × (o ≡ Some j) × (i ≡ suc j)
one_less None i is = absurd (cc)
one_less (Some j) i is = (j, refl, sym (same (suc j) i is))
  where
    same : (a b : ℕ) → ◌≡◌ {A = Option ℕ} (Some a) (Some b) → a ≡ b
    same a b e = cc

none_less : (o : Option ℕ) → option_map suc o ≡ None → o ≡ None
none_less None is = refl
none_less (Some j) is = absurd (cc)

first_is : (i : ℕ) → ◌≡◌ {A = Option ℕ} (Some 0) (Some i) → i ≡ 0
first_is i e = cc

-- a place behind one that was taken
behind_gone : {X : Type 0} (test : X → Bool) (items : List (Option X)) (i j : ℕ) → i ≡ suc j → IsTaken test items j → IsTaken test (None ∷ items) i
behind_gone test items i j is t = subst (IsTaken test (None ∷ items)) (sym is) (record {
  place = t.place;
  item = t.item;
  at = t.at;
  found = t.found;
  is = t.is;
  rest = t.rest;
  waits = t.waits;
})

-- a place behind one that doesn't pass
behind_other : {X : Type 0} (test : X → Bool) (x : X) (items : List (Option X)) (i j : ℕ) → test x ≡ false → i ≡ suc j → IsTaken test items j
    → IsTaken test (Some x ∷ items) i
behind_other test x items i j fails is t = subst (IsTaken test (Some x ∷ items)) (sym is) (record {
  place = suc t.place;
  item = t.item;
  at = t.at;
  found = position_cons test x (waiting items) ∙ cond-false (test x) (Some 0) (option_map suc (position test (waiting items))) fails
      ∙ ap (option_map suc) t.found;
  is = t.is;
  rest = ap (λ xs. x ∷ xs) t.rest;
  waits = t.waits;
})

-- the first place
at_front : {X : Type 0} (test : X → Bool) (x : X) (items : List (Option X)) (i : ℕ) → test x ≡ true → i ≡ 0 → IsTaken test (Some x ∷ items) i
at_front test x items i passes is = subst (IsTaken test (Some x ∷ items)) (sym is) (record {
  place = 0;
  item = x;
  at = refl;
  found = position_cons test x (waiting items) ∙ cond-true (test x) (Some 0) (option_map suc (position test (waiting items))) passes;
  is = refl;
  rest = refl;
  waits = refl;
})

pub taken : {X : Type 0} (test : X → Bool) (items : List (Option X)) (i : ℕ) → position (passes test) items ≡ Some i → IsTaken test items i
taken test [] i found = absurd (cc)
taken test (None ∷ items) i found =
    let less = one_less (position (passes test) items) i (sym (position_cons (passes test) None items) ∙ found) in
    behind_gone test items i less.0 less.2 (taken test items less.0 less.1)
taken test (Some x ∷ items) i found =
    elim (cases_Bool (test x)) [
      | inl is ↦ at_front test x items i is (first_is i (sym (cond-true (test x) (Some 0) (option_map suc (position (passes test) items)) is)
          ∙ sym (position_cons (passes test) (Some x) items) ∙ found))
      | inr fails ↦
          (let less = one_less (position (passes test) items) i (sym (cond-false (test x) (Some 0) (option_map suc (position (passes test) items)) fails)
          ∙ sym (position_cons (passes test) (Some x) items) ∙ found) in
          behind_other test x items i less.0 fails less.2 (taken test items less.0 less.1))
    ]

-- where nothing passes, nothing that waits does
pub none_waiting : {X : Type 0} (test : X → Bool) (items : List (Option X)) → position (passes test) items ≡ None → position test (waiting items) ≡ None
none_waiting test [] found = refl
none_waiting test (None ∷ items) found =
    none_waiting test items (none_less (position (passes test) items) (sym (position_cons (passes test) None items) ∙ found))
none_waiting test (Some x ∷ items) found =
    elim (cases_Bool (test x)) [
      | inl is ↦ absurd (some_none (sym (cond-true (test x) (Some 0) (option_map suc (position (passes test) items)) is)
          ∙ sym (position_cons (passes test) (Some x) items) ∙ found))
      | inr fails ↦
          position_cons test x (waiting items)
          ∙ cond-false (test x) (Some 0) (option_map suc (position test (waiting items))) fails
          ∙ ap (option_map suc) (none_waiting test items (none_less (position (passes test) items)
          (sym (cond-false (test x) (Some 0) (option_map suc (position (passes test) items)) fails)
          ∙ sym (position_cons (passes test) (Some x) items) ∙ found)))
    ]
  where
    some_none : ◌≡◌ {A = Option ℕ} (Some 0) None → ⊥
    some_none e = absurd (cc)
