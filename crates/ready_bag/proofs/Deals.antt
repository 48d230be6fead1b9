-- Accounts are dealt out to passes, and gathered again.
use Rattle.std.proofs.Common.{◌≡◌, ◌==◌, ℕ, zero, suc, ◌+◌, ◌-◌, ◌<◌, ◌≤◌, Bool, true, true≢false, cond, nat_lt, List, [], ◌∷◌, ◌++◌, length, set}
use Rattle.std.proofs.Common.{take, drop, inl, inr, ⊎_elim, sym, refl, ap, ◌∙◌, subst, arith, ne_eqb, lt-ltb, le-ltb, length-append, take-append-drop}
use Rattle.std.specs.List.{All, count_by, sum_by}
use Rattle.std.proofs.lemmas.Bool.{cases_lt}
use Rattle.std.proofs.lemmas.Bool.Decides.{eqb_tells}
use Rattle.std.proofs.lemmas.List.Elements.{All-nil, All-cons, All-append, All-take, All-drop}
use Rattle.std.proofs.lemmas.List.Sums.{sum_by-cons, sum_by-append}
use mathlib.Core.Option.{some, some-injective, some-ne-none}
use lib.ListN.{get_elem?}
use Rattle.crossbeam_queue.specs.Fifo.{Forks, Merges}
use Rattle.crossbeam_queue.proofs.Lists.{at_set, at_snoc}
use Rattle.ready_bag.specs.declared.account.Account.{Account}
use Rattle.ready_bag.specs.declared.account.Knows.{Knows}
use Rattle.ready_bag.specs.Past.{Past, Fits, new_account}
use Rattle.ready_bag.specs.Rule.{undealt, in_charge, is_owner, charge, charges, new_accounts, IsRuled}
use Rattle.ready_bag.proofs.Sums.{sum_by_set}
use Rattle.ready_bag.proofs.Steps.{not_undealt, all_set}

module _ {T : Type 0} where
  AllFit : Past T → ℕ → Knows T → Type 0
  AllFit past owners v = All (λ a. Fits past a × (a.owners ≡ owners)) v.accounts

  -- sums over the accounts of a pass that are parted
  charge_parts : (owner : ℕ) (v : Knows T) (n : ℕ) →
      charge owner (in_charge (take n v.accounts)) + charge owner (in_charge (drop n v.accounts)) ≡ charge owner v
  charge_parts owner v n = sym (sum_by-append (λ a. cond (is_owner owner a) 1 0) (take n v.accounts) (drop n v.accounts))
      ∙ ap (λ (l : List (Account T)). count_by (is_owner owner) l) (take-append-drop n v.accounts)

  charges_parts : (v : Knows T) (n : ℕ) → charges (in_charge (take n v.accounts)) + charges (in_charge (drop n v.accounts)) ≡ charges v
  charges_parts v n = sym (length-append (take n v.accounts) (drop n v.accounts)) ∙ ap (λ (l : List (Account T)). length l) (take-append-drop n v.accounts)

  -- a sum over passes where one is parted in two
  sum_parted : (f : Knows T → ℕ) (views : List (Knows T)) (port : ℕ) (v left right : Knows T) → get_elem? views port ≡ some v → f right + f left ≡ f v →
      sum_by f (set views port left ++ right ∷ []) ≡ sum_by f views
  sum_parted f views port v left right at parts =
      omega (arith, parts, sum_by_set f views port v left at, sum_by-append f (set views port left) (right ∷ []), sum_by-cons f right [])

  -- the first account goes to a pass of its own
  pub deals : (port : ℕ) (v : Knows T) → v.dealt ≡ true → Forks IsRuled port v (in_charge (drop 1 v.accounts)) (in_charge (take 1 v.accounts))
  deals port v dealt items views rule at = elim rule [
    | inl before ↦ absurd (not_undealt views port v before.1 at dealt)
    | inr after ↦
        let past = after.0 in
        let owners = after.1 in
        let d = after.2 in
        let left : Knows T = in_charge (drop 1 v.accounts) in
        let right : Knows T = in_charge (take 1 v.accounts) in
        let F : Account T → Type 0 = λ a. Fits past a × (a.owners ≡ owners) in
        inr (
          past,
          owners,
          record {
            leaves = d.leaves;
            dealt = λ j u at_j. ⊎_elim (λ e. all_set (λ _ w. w.dealt ≡ true) views port left refl (λ i w _ at_i. d.dealt i w at_i) j u e) (λ e.
                ap (λ (w : Knows T). w.dealt) (sym e)) (at_snoc (set views port left) right u j at_j);
            fits = λ j u at_j. ⊎_elim (λ e. all_set (λ _ w. All F w.accounts) views port left (All-drop F 1 v.accounts (d.fits port v at)) (λ i w _ at_i.
                d.fits i w at_i) j u e)
                (λ e. subst (λ (w : Knows T). All F w.accounts) e (All-take F 1 v.accounts (d.fits port v at))) (at_snoc (set views port left) right u j at_j);
            once = λ owner. sum_parted (charge owner) views port v left right at (charge_parts owner v 1) ∙ d.once owner;
            whole = sum_parted charges views port v left right at (charges_parts v 1) ∙ d.whole;
            putters = d.putters;
            takers = d.takers;
          },
        )
  ]

  -- a sum over passes where one takes over what another has
  sum_joined : (f : Knows T → ℕ) (views : List (Knows T)) (port other : ℕ) (v w both spent : Knows T) → get_elem? views port ≡ some v →
      get_elem? (set views port both) other ≡ some w →
      f both ≡ f v + f w → f spent ≡ 0 → sum_by f (set (set views port both) other spent) ≡ sum_by f views
  sum_joined f views port other v w both spent at at_other parts none =
      omega (arith, parts, none, sum_by_set f views port v both at, sum_by_set f (set views port both) other w spent at_other)

  pub gathers : (port : ℕ) (v : Knows T) (other : ℕ) (w : Knows T) → v.dealt ≡ true →
      Merges IsRuled port v other w (in_charge (v.accounts ++ w.accounts)) (in_charge [])
  gathers port v other w dealt items views rule at apart at_other = elim rule [
    | inl before ↦ absurd (not_undealt views port v before.1 at dealt)
    | inr after ↦
        let past = after.0 in
        let owners = after.1 in
        let d = after.2 in
        let both : Knows T = in_charge (v.accounts ++ w.accounts) in
        let spent : Knows T = in_charge [] in
        let F : Account T → Type 0 = λ a. Fits past a × (a.owners ≡ owners) in
        let was : get_elem? views other ≡ some w = ⊎_elim (λ x. absurd (apart x.0)) (λ x. x.1) (at_set views port other both w at_other) in
        inr (
          past,
          owners,
          record {
            leaves = d.leaves;
            dealt = all_set (λ _ u. u.dealt ≡ true) (set views port both) other spent refl (λ j u _ at_j.
                all_set (λ _ x. x.dealt ≡ true) views port both refl (λ i x _ at_i. d.dealt i x at_i) j u at_j);
            fits = all_set (λ _ u. All F u.accounts) (set views port both) other spent (All-nil F)
                (λ j u _ at_j.
                all_set (λ _ x.
                All F x.accounts) views port both (All-append F v.accounts w.accounts (d.fits port v at) (d.fits other w was)) (λ i x _ at_i.
                d.fits i x at_i) j u at_j);
            once = λ owner. sum_joined (charge owner) views port other v w both spent at at_other (sum_by-append (λ a.
                cond (is_owner owner a) 1 0) v.accounts w.accounts) refl ∙ d.once owner;
            whole = sum_joined charges views port other v w both spent at at_other (length-append v.accounts w.accounts) refl ∙ d.whole;
            putters = d.putters;
            takers = d.takers;
          },
        )
  ]

module _ (T : Type 0) where
  -- new accounts are numbered in order
  pub record Counted (owners from n owner : ℕ) : Type 0 where
    pub earlier : owner < from → count_by (is_owner owner) (new_accounts {T = T} owners from n) ≡ 0
    pub here : from ≤ owner → owner < from + n → count_by (is_owner owner) (new_accounts {T = T} owners from n) ≡ 1
    pub later : from + n ≤ owner → count_by (is_owner owner) (new_accounts {T = T} owners from n) ≡ 0

  counted : (owners from n owner : ℕ) → Counted owners from n owner
  counted owners from zero owner = record { earlier = λ _. refl; here = λ least most. absurd (omega arith); later = λ _. refl }
  counted owners from (suc n) owner =
      let rest = counted owners (suc from) n owner in
      let accounts : List (Account T) = new_accounts owners (suc from) n in
      let P : Bool → ℕ = λ b. cond b 1 0 in
      let first = sum_by-cons (λ a. cond (is_owner owner a) 1 0) (new_account owners from) accounts in
      record {
        earlier = λ lt. let miss : P (owner == from) ≡ 0 = ap P (ne_eqb owner from (λ e. omega arith)) in
            omega (arith, first, miss, rest.earlier (omega arith));
        here = λ least most. elim (eqb_tells owner from) [
          | inl same ↦ let hit : P (owner == from) ≡ 1 = ap P same.0 in omega (arith, first, hit, rest.earlier (omega (arith, same.1)))
          | inr other ↦ let miss : P (owner == from) ≡ 0 = ap P other.0 in omega (arith, first, miss, rest.here (let ne = other.1 in omega arith) (omega arith))
        ];
        later = λ least. let miss : P (owner == from) ≡ 0 = ap P (ne_eqb owner from (λ e. omega arith)) in omega (arith, first, miss, rest.later (omega arith));
      }

  length-new_accounts : (owners from n : ℕ) → length (new_accounts {T = T} owners from n) ≡ n
  length-new_accounts owners from zero = refl
  length-new_accounts owners from (suc n) = omega (arith, length-new_accounts owners (suc from) n)

  abbrev begun : Past T
  begun = record { puts = []; takers = [] }

  new_fit : (owners from n : ℕ) → All (λ a. Fits begun a × (a.owners ≡ owners)) (new_accounts owners from n)
  new_fit owners from zero = All-nil (λ a. Fits begun a × (a.owners ≡ owners))
  new_fit owners from (suc n) = All-cons (λ a. Fits begun a × (a.owners ≡ owners)) (new_account owners from) (new_accounts owners (suc from) n)
      (record { put = refl; took = refl }, refl) (new_fit owners (suc from) n)

  first_charge : (owners owner : ℕ) → charge owner (in_charge {T = T} (new_accounts owners 0 owners)) ≡ cond (nat_lt owner owners) 1 0
  first_charge owners owner =
      let P : Bool → ℕ = λ b. cond b 1 0 in
      let c = counted owners 0 owners owner in
      elim (cases_lt owner owners) [
        | inl lt ↦ c.here (omega arith) (omega arith) ∙ sym (ap P (lt-ltb owner owners lt))
        | inr le ↦ c.later (omega arith) ∙ sym (ap P (le-ltb owner owners le))
      ]

module _ {T : Type 0} where
  of_two : (F : Knows T → Type 0) (v w : Knows T) → F v → F w → (i : ℕ) (u : Knows T) → get_elem? (v ∷ w ∷ []) i ≡ some u → F u
  of_two F v w fv fw zero u at = subst F (some-injective v u at) fv
  of_two F v w fv fw (suc zero) u at = subst F (some-injective w u at) fw
  of_two F v w fv fw (suc (suc i)) u at = absurd (some-ne-none u (sym at))

  sum_two : (f : Knows T → ℕ) (v w : Knows T) → f w ≡ 0 → sum_by f (v ∷ w ∷ []) ≡ f v
  sum_two f v w none = omega (arith, none, sum_by-cons f v (w ∷ []), sum_by-cons f w [])

  opened : (owners : ℕ) → IsRuled {T = T} [] (in_charge (new_accounts owners 0 owners) ∷ in_charge [] ∷ [])
  opened owners =
      let left : Knows T = in_charge (new_accounts owners 0 owners) in
      let right : Knows T = in_charge [] in
      let F : Account T → Type 0 = λ a. Fits (begun T) a × (a.owners ≡ owners) in
      inr (
        begun T,
        owners,
        record {
          leaves = record { short = omega arith; numbered = tt; left = refl };
          dealt = of_two (λ u. u.dealt ≡ true) left right refl refl;
          fits = of_two (λ u. All F u.accounts) left right (new_fit T owners 0 owners) (All-nil F);
          once = λ owner. sum_two (charge owner) left right refl ∙ first_charge T owners owner;
          whole = sum_two charges left right refl ∙ length-new_accounts T owners 0 owners;
          putters = All-nil (λ put. put.owner < owners);
          takers = All-nil (λ taker. taker < owners);
        },
      )

  opens_at : (port owners : ℕ) → get_elem? (undealt {T = T} ∷ []) port ≡ some undealt →
      IsRuled {T = T} [] (set (undealt ∷ []) port (in_charge (new_accounts owners 0 owners)) ++ in_charge [] ∷ [])
  opens_at zero owners at = opened owners
  opens_at (suc port) owners at = absurd (some-ne-none undealt (sym at))

  -- the first pass gets all accounts
  pub opens : (port owners : ℕ) (v : Knows T) → v ≡ undealt → Forks IsRuled port v (in_charge (new_accounts owners 0 owners)) (in_charge [])
  opens port owners v is items views rule at = elim rule [
    | inl before ↦
        let at_first : get_elem? (undealt ∷ []) port ≡ some undealt = ap (λ (l : List (Knows T)). get_elem? l port) (sym before.1) ∙ at ∙ ap some is in
        subst (λ (y : List T × List (Knows T)). IsRuled y.0 (set y.1 port (in_charge (new_accounts owners 0 owners)) ++ in_charge [] ∷ [])) (λ i.
        (sym before.0 i, sym before.1 i)) (opens_at port owners at_first)
    | inr after ↦ absurd (true≢false (sym (after.2.dealt port v at) ∙ ap (λ (u : Knows T). u.dealt) is))
  ]

  -- the first pass, before the accounts are dealt out
  pub begins : IsRuled {T = T} [] (undealt ∷ [])
  begins = inl (refl, refl)

  -- what is left when one more account is dealt out
  pub dealt_out : (owners owner : ℕ) (v : Knows T) → v ≡ in_charge (new_accounts owners owner (owners - owner)) → owner < owners →
      in_charge (drop 1 v.accounts) ≡ in_charge (new_accounts owners (owner + 1) (owners - (owner + 1)))
  dealt_out owners owner v is lt =
      let more : owners - owner ≡ suc (owners - (owner + 1)) = omega (arith, lt) in
      let next : suc owner ≡ owner + 1 = omega arith in
      ap (λ (u : Knows T). in_charge (drop 1 u.accounts)) is ∙ ap (λ (n : ℕ). in_charge (drop 1 (new_accounts owners owner n))) more
      ∙ ap (λ (k : ℕ). in_charge (new_accounts owners k (owners - (owner + 1)))) next
