-- A put and a take keep the rule.
use Rattle.std.proofs.Common.{◌≡◌, ◌≢◌, ◌==◌, ℕ, zero, suc, ◌+◌, ◌<◌, ◌≤◌, Bool, true, false, true≢false, cond, nat_lt, List, [], ◌∷◌, ◌++◌, length}
use Rattle.std.proofs.Common.{map, set, inl, inr, ⊎_elim, Option, Some, None, MatchOption, IfSome, sym, refl, ap, ◌∙◌, subst, arith, eq-eqb, ltb-true}
use Rattle.std.specs.List.{All, count_by}
use Rattle.std.proofs.lemmas.List.Elements.{All-nil, All-cons, All-head, All-tail, All-push}
use mathlib.Core.Option.{some, some-injective, some-ne-none}
use lib.ListN.{get_elem?}
use Rattle.crossbeam_queue.specs.Fifo.{Pushes, Pops, Learns}
use Rattle.crossbeam_queue.proofs.Lists.{at_set}
use Rattle.ready_bag.specs.declared.account.Numbered.{Numbered}
use Rattle.ready_bag.specs.declared.account.Account.{Account}
use Rattle.ready_bag.specs.declared.account.Knows.{Knows}
use Rattle.ready_bag.specs.Past.{Past, Leaves, Fits, MayHold, NumbersRise, HasTaken, with_put, with_taken}
use Rattle.ready_bag.specs.Rule.{undealt, in_charge, account_of, is_owner, charge, charges, IsDealt, IsRuled, Puts, Takes, IsKept, Lay}
use Rattle.ready_bag.proofs.Sums.{sum_by_set, one_within, two_within, none_counts, count_one}
use Rattle.ready_bag.proofs.Pasts.{put_in, leaves_put, fits_put_own, fits_put_other, taken_out, leaves_take, fits_take_own, fits_take_other, oldest, rising}

at_most_one : (b : Bool) → ◌≤◌ (cond b 1 0) 1
at_most_one true = omega arith
at_most_one false = omega arith

below : (b : Bool) → 1 ≤ cond b 1 0 → b ≡ true
below true some_one = refl
below false some_one = absurd (omega arith)

module _ {T : Type 0} where
  at_first : (v : Knows T) (i : ℕ) → v.dealt ≡ true → get_elem? (undealt ∷ []) i ≡ some v → ⊥
  at_first v zero dealt at = true≢false (sym dealt ∙ ap (λ (u : Knows T). u.dealt) (sym (some-injective undealt v at)))
  at_first v (suc i) dealt at = some-ne-none v (sym at)

  -- a pass with accounts is not the first one, before these were dealt out
  pub not_undealt : (views : List (Knows T)) (port : ℕ) (v : Knows T) → views ≡ undealt ∷ [] → get_elem? views port ≡ some v → v.dealt ≡ true → ⊥
  not_undealt views port v are at dealt = at_first v port dealt (ap (λ (l : List (Knows T)). get_elem? l port) (sym are) ∙ at)

  -- what holds of each pass after a change of one
  pub all_set : (F : ℕ → Knows T → Type 0) (views : List (Knows T)) (port : ℕ) (w : Knows T) → F port w →
      ((j : ℕ) (u : Knows T) → j ≢ port → get_elem? views j ≡ some u → F j u) →
      (j : ℕ) (u : Knows T) → get_elem? (set views port w) j ≡ some u → F j u
  all_set F views port w mine others j u at = ⊎_elim (λ (x : (j ≡ port) × (w ≡ u)). subst (λ (y : ℕ × Knows T). F y.0 y.1) (λ i. (sym x.0 i, x.1 i)) mine)
      (λ (x : (j ≢ port) × (get_elem? views j ≡ some u)). others j u x.0 x.1) (at_set views port j w u at)

  -- accounts of other owners
  others_keep : (P Q : Account T → Type 0) (owner : ℕ) → ((a : Account T) → a.owner ≢ owner → P a → Q a) → (accounts : List (Account T)) →
      count_by (is_owner owner) accounts ≡ 0 → All P accounts → All Q accounts
  others_keep P Q owner step [] none all = All-nil Q
  others_keep P Q owner step (a ∷ accounts) none all =
      let here = none_counts (is_owner owner) a accounts none in
      All-cons Q a accounts (step a (λ same. true≢false (sym (eq-eqb owner a.owner (sym same)) ∙ here.0)) (All-head P a accounts all))
      (others_keep P Q owner step accounts here.1 (All-tail P a accounts all))

  -- the owner of a pass is one of the owners
  own_charge : (a : Account T) → charge a.owner (in_charge (a ∷ [])) ≡ 1
  own_charge a = count_one (is_owner a.owner) a ∙ (let P : Bool → ℕ = λ b. cond b 1 0 in ap P (eq-eqb a.owner a.owner refl))

  pub is_below : (past : Past T) (owners : ℕ) (items : List T) (views : List (Knows T)) (port : ℕ) (a : Account T) → IsDealt past owners items views →
      get_elem? views port ≡ some (in_charge (a ∷ [])) → a.owner < owners
  is_below past owners items views port a d at =
      let within = one_within (charge a.owner) views port (in_charge (a ∷ [])) at in
      ltb-true a.owner owners (below (nat_lt a.owner owners) (omega (arith, within, own_charge a, d.once a.owner)))

  -- no other pass has an account of this owner
  alone : (past : Past T) (owners : ℕ) (items : List T) (views : List (Knows T)) (port : ℕ) (a : Account T) → IsDealt past owners items views →
      get_elem? views port ≡ some (in_charge (a ∷ [])) →
      (j : ℕ) (u : Knows T) → j ≢ port → get_elem? views j ≡ some u → count_by (is_owner a.owner) u.accounts ≡ 0
  alone past owners items views port a d at j u other at_j =
      let both = two_within (charge a.owner) views port j (in_charge (a ∷ [])) u (λ e. other (sym e)) at at_j in
      omega (arith, both, own_charge a, d.once a.owner, at_most_one (nat_lt a.owner owners))

  -- a step of the pass with one account
  moved : (past past' : Past T) (owners : ℕ) (items items' : List T) (views : List (Knows T)) (port : ℕ) (a b : Account T) → b.owner ≡ a.owner →
      b.owners ≡ a.owners →
      IsDealt past owners items views → get_elem? views port ≡ some (in_charge (a ∷ [])) → Leaves past' items' → (Fits past a → Fits past' b) →
      ((c : Account T) → c.owner ≢ a.owner → Fits past c → Fits past' c) →
      All (λ put. put.owner < owners) past'.puts → All (λ taker. taker < owners) past'.takers →
      IsDealt past' owners items' (set views port (in_charge (b ∷ [])))
  moved past past' owners items items' views port a b same_owner same_owners d at leaves own other putters takers =
      let v : Knows T = in_charge (a ∷ []) in
      let w : Knows T = in_charge (b ∷ []) in
      let F : Past T → Account T → Type 0 = λ p c. Fits p c × (c.owners ≡ owners) in
      let mine : Fits past a × (a.owners ≡ owners) = All-head (F past) a [] (d.fits port v at) in
      record {
        leaves = leaves;
        dealt = all_set (λ _ u. u.dealt ≡ true) views port w refl (λ j u _ at_j. d.dealt j u at_j);
        fits = all_set (λ _ u. All (F past') u.accounts) views port w (All-cons (F past') b [] (own mine.0, same_owners ∙ mine.1) (All-nil (F past')))
            (λ j u apart at_j. others_keep (F past) (F past') a.owner (λ c not_own fits.
            (other c not_own fits.0, fits.1)) u.accounts (alone past owners items views port a d at j u apart at_j) (d.fits j u at_j));
        once = λ owner.
            let change = sum_by_set (charge owner) views port v w at in
            let same : charge owner w ≡ charge owner v = ap (λ (n : ℕ). 0 + cond (owner == n) 1 0) same_owner in
            omega (arith, change, same, d.once owner);
        whole =
            let change = sum_by_set charges views port v w at in
            let same : charges w ≡ charges v = refl in
            omega (arith, change, same, d.whole);
        putters = putters;
        takers = takers;
      }

  puts_at : (n port : ℕ) (x : T) (a : Account T) → Pushes IsRuled n port (in_charge (a ∷ [])) x (Puts (in_charge (a ∷ [])) x)
  puts_at n port x a items views room rule at = elim rule [
    | inl before ↦ absurd (not_undealt views port (in_charge (a ∷ [])) before.1 at refl)
    | inr after ↦
        let past = after.0 in
        let owners = after.1 in
        let d = after.2 in (
          in_charge (with_put x a ∷ []),
          (inr (
            put_in past a.owner x,
            owners,
            moved past (put_in past a.owner x) owners items (items ++ x ∷ []) views port a (with_put x a) refl refl d at
                (leaves_put past items a.owner x d.leaves) (fits_put_own past items x a d.leaves) (λ c other.
                fits_put_other past items a.owner x c other d.leaves)
                (All-push (λ put. put.owner < owners) past.puts _ d.putters (is_below past owners items views port a d at)) d.takers,
          )),
          refl,
        )
  ]

  takes_at : (port : ℕ) (a : Account T) → Pops IsRuled port (in_charge (a ∷ [])) (Takes (in_charge (a ∷ [])))
  takes_at port a x items views rule at = elim rule [
    | inl before ↦ absurd (not_undealt views port (in_charge (a ∷ [])) before.1 at refl)
    | inr after ↦
        let past = after.0 in
        let owners = after.1 in
        let d = after.2 in
        let o = oldest past.puts (length past.takers) x items d.leaves.left in
        let b : Account T = with_taken o.put a in
        let here : IsDealt (taken_out past a.owner) owners items (set views port (in_charge (b ∷ []))) =
        moved past (taken_out past a.owner) owners (x ∷ items) items views port a b refl refl d at
        (leaves_take past x items a.owner d.leaves) (fits_take_own past o.put a o.at) (λ c other. fits_take_other past o.put a.owner c o.at other)
        d.putters (All-push (λ taker. taker < owners) past.takers a.owner d.takers (is_below past owners (x ∷ items) views port a d at)) in
        let fits : Fits (taken_out past a.owner) b =
        fits_take_own past o.put a o.at (All-head (λ c. Fits past c × (c.owners ≡ owners)) a [] (d.fits port (in_charge (a ∷ [])) at)).0 in
        let rise : NumbersRise b.took = subst (λ (l : List (Numbered T)).
        NumbersRise l) (sym fits.took) (rising a.owner [] past.puts (past.takers ++ a.owner ∷ []) d.leaves.numbered) in (
          in_charge (b ∷ []),
          (inr (taken_out past a.owner, owners, here)),
          (o.put, o.is_item, refl, All-cons (λ c. NumbersRise c.took) b [] rise (All-nil (λ c. NumbersRise c.took))),
        )
  ]

  learns_at : (port : ℕ) (a : Account T) → Learns IsRuled port (in_charge (a ∷ [])) (MayHold a)
  learns_at port a items views rule at = elim rule [
    | inl before ↦ absurd (not_undealt views port (in_charge (a ∷ [])) before.1 at refl)
    | inr after ↦
        let past = after.0 in
        let mine : Fits past a × (a.owners ≡ after.1) =
        All-head (λ c. Fits past c × (c.owners ≡ after.1)) a [] (after.2.fits port (in_charge (a ∷ [])) at) in
        record {
          past = past;
          leaves = after.2.leaves;
          fits = mine.0;
          putters = subst (λ (n : ℕ). All (λ put. put.owner < n) past.puts) (sym mine.1) after.2.putters;
          takers = subst (λ (n : ℕ). All (λ taker. taker < n) past.takers) (sym mine.1) after.2.takers;
        }
  ]

  -- the rule of a bag is kept
  pub fair : IsKept {T = T} IsRuled
  fair = record { puts = λ n port a x. puts_at n port x a; takes = takes_at; tells = learns_at }

  module _ (holds : List T → List (Knows T) → Type 0) (kept : IsKept holds) where
    shows : (port : ℕ) (a : Account T) → Learns holds port (in_charge (a ∷ [])) (Lay holds a)
    shows port a items views rule at = record { views = views; port = port; told = rule; own = at; may = kept.tells port a items views rule at }

    pub puts : (n port : ℕ) (v : Knows T) (x : T) (a : Account T) → v ≡ in_charge (a ∷ []) → Pushes holds n port v x (Puts v x)
    puts n port v x a is = subst (λ (u : Knows T). Pushes holds n port u x (Puts u x)) (sym is) (kept.puts n port a x)

    pub takes : (port : ℕ) (v : Knows T) (a : Account T) → v ≡ in_charge (a ∷ []) → Pops holds port v (Takes v)
    takes port v a is = subst (λ (u : Knows T). Pops holds port u (Takes u)) (sym is) (kept.takes port a)

    pub learns : (port : ℕ) (v : Knows T) (a : Account T) → v ≡ in_charge (a ∷ []) → Learns holds port v (Lay holds (account_of v))
    learns port v a is = subst (λ (u : Knows T). Learns holds port u (Lay holds (account_of u))) (sym is) (shows port a)

  -- what a take tells of the account
  taken_one : (v w : Knows T) (a : Account T) (x : T) → v ≡ in_charge (a ∷ []) → Takes v x w → HasTaken a (account_of w) x
  taken_one v w a x is told =
      let b : Account T = with_taken told.0 a in
      let now : w ≡ in_charge (b ∷ []) = told.2 ∙ ap (λ (u : Knows T). in_charge (map (with_taken told.0) u.accounts)) is in
      record {
        taken = told.0;
        is_item = told.1;
        account = ap (λ (u : Knows T). account_of u) now;
        rise = subst (λ (u : Knows T). NumbersRise (account_of u).took) (sym now)
            (All-head (λ c. NumbersRise c.took) b [] (subst (λ (u : Knows T). All (λ c. NumbersRise c.took) u.accounts) now told.3));
      }

  pub taken_if : (answer : Option T) (P : Type 0) (v w : Knows T) (a before : Account T) → v ≡ in_charge (a ∷ []) → a ≡ before →
      MatchOption answer P (λ x. Takes v x w) → IfSome answer (HasTaken before (account_of w))
  taken_if None P v w a before is same told = tt
  taken_if (Some x) P v w a before is same told = subst (λ (c : Account T). HasTaken c (account_of w) x) same (taken_one v w a x is told)
