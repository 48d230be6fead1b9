-- What all accounts say together, known to the pass that has them.
use Rattle.std.proofs.Common.{◌≡◌, ℕ, ◌+◌, ◌-◌, ◌^◌, ◌<◌, ◌≤◌, min, Bool, true, false, cond, nat_lt, List, [], ◌∷◌, ◌++◌, length, map, take, drop}
use Rattle.std.proofs.Common.{get_or, slice_get, inl, inr, sym, refl, ap, ◌∙◌, subst, arith, lt-ltb, le-ltb, eqb-true, length-drop, append_assoc}
use Rattle.std.specs.List.{All, count_by, sum_by, flat_map}
use Rattle.std.proofs.lemmas.Bool.{cases_lt}
use Rattle.std.proofs.lemmas.List.{length-map, length-take-le}
use Rattle.std.proofs.lemmas.List.Elements.{All-contains, All-weaker, All-map}
use Rattle.std.proofs.lemmas.List.Sums.{sum_by-take-le, sum_by_push, count_by-le-length}
use mathlib.Core.Option.{some}
use lib.ListN.{get_elem?}
use Rattle.crossbeam_queue.specs.Fifo.{Learns, Held}
use Rattle.ready_bag.specs.declared.account.Numbered.{Numbered}
use Rattle.ready_bag.specs.declared.account.Account.{Account}
use Rattle.ready_bag.specs.declared.account.Knows.{Knows}
use Rattle.ready_bag.specs.Past.{Past, item, is_of, put_by, taken_by, Leaves, Fits, new_account}
use Rattle.ready_bag.specs.Rule.{in_charge, is_owner, charge, charges, IsDealt, IsRuled}
use Rattle.ready_bag.specs.Closing.{took, is_put, times_taken, count_put, count_taken, WasPut, IsFrontTaken, AreAll, Closes}
use Rattle.ready_bag.specs.Passes.{BagIs, PassIs, IsPassOfBag, account}
use Rattle.ready_bag.proofs.Sums.{whole_of, sum_by-same, count_all, count-flat_map}
use Rattle.ready_bag.proofs.Pasts.{all_taken}
use Rattle.ready_bag.proofs.Steps.{not_undealt}
use Rattle.ready_bag.proofs.Totals.{one_if, all_flat_map, found, numbered_take, stands, length-put_by, IsPutUnder, puts_stand, Once, put_count, taken_count}

at_most : (b : Bool) → ◌≤◌ (cond b 1 0) 1
at_most b = elim b as (λ c. ◌≤◌ (cond c 1 0) 1) [ true ↦ omega arith | false ↦ omega arith ]

module _ {T : Type 0} where
  -- each account fits what has happened, and each owner that has put or taken has one account
  pub record AreComplete (past : Past T) (items : List T) (accounts : List (Account T)) : Type 0 where
    pub leaves : Leaves past items
    pub fits : All (Fits past) accounts
    pub putters : All (λ put. Once accounts put.owner) past.puts
    pub takers : All (Once accounts) past.takers

  -- so often a put was taken by any account
  taken_times : (past : Past T) (items : List T) (accounts : List (Account T)) (test : Numbered T → Bool) → AreComplete past items accounts →
      count_by test (flat_map took accounts) ≡ count_by test (take (length past.takers) past.puts)
  taken_times past items accounts test c =
      count-flat_map test took accounts
      ∙ sum_by-same (λ a. count_by test a.took) (λ a. count_by test (taken_by a.owner past.takers past.puts)) accounts (λ k d lt.
      ap (λ (l : List (Numbered T)). count_by test l) (c.fits k d lt).took)
      ∙ taken_count accounts test past.takers past.puts c.leaves.short c.takers

  was_put : (past : Past T) (items : List T) (accounts : List (Account T)) → AreComplete past items accounts → (p : Numbered T) → Once accounts p.owner →
      IsPutUnder past.puts p → WasPut accounts p
  was_put past items accounts c p once under =
      let f = found (is_owner p.owner) accounts (omega (arith, once)) in
      let a : Account T = f.one in
      let own : p.owner ≡ a.owner = eqb-true p.owner a.owner f.passes in
      let fits : Fits past a = All-contains (Fits past) accounts a c.fits f.here in
      record {
        account = a;
        here = f.here;
        owner = sym own;
        item = ap (λ (l : List T). slice_get l p.number) (fits.put ∙ ap (λ (w : ℕ). put_by w past.puts) (sym own)) ∙ under;
      }

  all_were_put : (past : Past T) (items : List T) (accounts : List (Account T)) → AreComplete past items accounts →
      All (WasPut accounts) (flat_map took accounts)
  all_were_put past items accounts c =
      let each : All (WasPut accounts) past.puts =
      λ k d lt. was_put past items accounts c (get_or past.puts k d) (c.putters k d lt) (puts_stand [] past.puts c.leaves.numbered k d lt) in
      all_flat_map (WasPut accounts) took accounts (λ k d lt.
      subst (λ (l : List (Numbered T)).
      All (WasPut accounts) l) (sym (c.fits k d lt).took) (all_taken (WasPut accounts) (get_or accounts k d).owner past.takers past.puts each))

  -- the numbers that were taken of an owner's puts
  times_here : (past : Past T) (items : List T) (accounts : List (Account T)) → AreComplete past items accounts → (owner number : ℕ) →
      times_taken accounts owner number ≡ cond (nat_lt number (count_by (is_of owner) (take (length past.takers) past.puts))) 1 0
  times_here past items accounts c owner number =
      let front : List (Numbered T) = take (length past.takers) past.puts in
      let count : ℕ = count_by (is_of owner) front in
      let s = stands [] front owner number (numbered_take (length past.takers) [] past.puts c.leaves.numbered) in
      let same : count_by (is_put owner number) front ≡ cond (nat_lt number count) 1 0 = elim (cases_lt number count) [
        | inl lt ↦ s.among (omega arith) (omega (arith, lt)) ∙ sym (ap one_if (lt-ltb number count lt))
        | inr le ↦ s.above (omega (arith, le)) ∙ sym (ap one_if (le-ltb number count le))
      ] in
      taken_times past items accounts (is_put owner number) c ∙ same

  front_taken : (past : Past T) (items : List T) (accounts : List (Account T)) → AreComplete past items accounts → (a : Account T) → Fits past a →
      IsFrontTaken accounts a
  front_taken past items accounts c a fits =
      let long : length a.put ≡ count_by (is_of a.owner) past.puts = ap (λ (l : List T). length l) fits.put ∙ length-put_by a.owner past.puts in
      record {
        count = count_by (is_of a.owner) (take (length past.takers) past.puts);
        within = omega (arith, long, sum_by-take-le (λ p. cond (is_of a.owner p) 1 0) past.puts (length past.takers));
        each = λ number. times_here past items accounts c a.owner number;
      }

  sums : (past : Past T) (items : List T) (accounts : List (Account T)) → AreComplete past items accounts →
      sum_by (λ a. length a.put) accounts ≡ sum_by (λ a. length a.took) accounts + length items
  sums past items accounts c =
      let short : length past.takers ≤ length past.puts = c.leaves.short in
      let put : sum_by (λ a. length a.put) accounts ≡ length past.puts =
      sum_by-same (λ a. length a.put) (λ a. count_by (is_of a.owner) past.puts) accounts
      (λ k d lt. ap (λ (l : List T). length l) (c.fits k d lt).put ∙ length-put_by (get_or accounts k d).owner past.puts)
      ∙ put_count accounts past.puts c.putters in
      let taken : sum_by (λ a. length a.took) accounts ≡ length past.takers =
      sum_by-same (λ a. length a.took) (λ a. count_by (λ _. true) (taken_by a.owner past.takers past.puts)) accounts
      (λ k d lt. ap (λ (l : List (Numbered T)). length l) (c.fits k d lt).took
      ∙ sym (count_all (taken_by (get_or accounts k d).owner past.takers past.puts)))
      ∙ taken_count accounts (λ _. true) past.takers past.puts short c.takers ∙ count_all (take (length past.takers) past.puts)
      ∙ length-take-le (length past.takers) past.puts short in
      let left : length items ≡ length past.puts - length past.takers =
      ap (λ (l : List T). length l) (sym c.leaves.left) ∙ length-map (drop (length past.takers) past.puts) item
      ∙ length-drop (length past.takers) past.puts in
      omega (arith, put, taken, left, short)

  are_all : (past : Past T) (items : List T) (accounts : List (Account T)) → AreComplete past items accounts → AreAll accounts (length items)
  are_all past items accounts c = record {
    items = all_were_put past items accounts c;
    once = λ owner number.
        let count : ℕ = count_by (is_of owner) (take (length past.takers) past.puts) in
        subst (λ (n : ℕ). n ≤ 1) (sym (times_here past items accounts c owner number)) (at_most (nat_lt number count));
    fronts = λ k d lt. front_taken past items accounts c (get_or accounts k d) (c.fits k d lt);
    sum = sums past items accounts c;
  }

  -- a pass that has as many accounts as there are owners has all
  complete : (past : Past T) (owners : ℕ) (items : List T) (views : List (Knows T)) (port : ℕ) (v : Knows T) → IsDealt past owners items views →
      get_elem? views port ≡ some v → length v.accounts ≡ owners →
      AreComplete past items v.accounts
  complete past owners items views port v d at all =
      let whole : charges v ≡ sum_by charges views = all ∙ sym d.whole in
      let once : (owner : ℕ) → owner < owners → Once v.accounts owner = λ owner lt.
      whole_of (charge owner) charges (λ u. count_by-le-length (is_owner owner) u.accounts) views port v at whole ∙ d.once owner
      ∙ ap one_if (lt-ltb owner owners lt) in
      record {
        leaves = d.leaves;
        fits = All-weaker (λ a. Fits past a × (a.owners ≡ owners)) (Fits past) (λ a fits. fits.0) v.accounts (d.fits port v at);
        putters = λ k e lt. once (get_or past.puts k e).owner (d.putters k e lt);
        takers = λ k e lt. once (get_or past.takers k e) (d.takers k e lt);
      }

  pub counts : (port : ℕ) (v : Knows T) → v.dealt ≡ true → 0 < length v.accounts → All (λ a. a.owners ≡ length v.accounts) v.accounts →
      Learns IsRuled port v (λ items. AreAll v.accounts (length items))
  counts port v dealt some_one each items views rule at = elim rule [
    | inl before ↦ absurd (not_undealt views port v before.1 at dealt)
    | inr after ↦
        let d = after.2 in
        let all : length v.accounts ≡ after.1 = sym (each 0 (new_account 0 0) some_one) ∙ (d.fits port v at 0 (new_account 0 0) some_one).1 in
        are_all after.0 items v.accounts (complete after.0 after.1 items views port v d at all)
  ]

  pub counts_all : (port : ℕ) (v : Knows T) (passes : List (PassIs T)) (bag : BagIs) → v ≡ in_charge (map account passes) → 0 < bag.workers →
      length passes ≡ bag.workers → All (λ p. IsPassOfBag p bag) passes →
      Learns IsRuled port v (λ items. AreAll v.accounts (length items))
  counts_all port v passes bag is some_one all each =
      let long : length (map account passes) ≡ bag.workers = length-map passes account ∙ all in
      let owners : All (λ a. a.owners ≡ length (map account passes)) (map account passes) =
      All-map (λ a. a.owners ≡ length (map account passes)) account passes (λ k d lt. (each k d lt).workers ∙ sym long) in
      subst (λ (u : Knows T). Learns IsRuled port u (λ items.
      AreAll u.accounts (length items))) (sym is) (counts port (in_charge (map account passes)) refl (omega (arith, long, some_one)) owners)

  -- the sums of the counts that stop at the last value are right
  pub closes : (accounts : List (Account T)) (v : Knows T) (put taken left : ℕ) → v ≡ in_charge accounts → put ≡ min (count_put accounts) (2 ^ 64 - 1) →
      taken ≡ min (count_taken accounts) (2 ^ 64 - 1) →
      count_put accounts < 2 ^ 64 - 1 → Held {T = T} left (λ items. AreAll v.accounts (length items)) →
      Closes accounts (record { put = put; taken = taken; left = left })
  closes accounts v put taken left is put_is taken_is few held =
      let all : AreAll accounts left = subst (λ (y : List (Account T) × ℕ). AreAll y.0 y.1) (λ i. ((is i).accounts, held.1 i)) held.2 in
      let put_all : put ≡ count_put accounts = omega (arith, put_is, few) in
      let taken_all : taken ≡ count_taken accounts = omega (arith, taken_is, few, all.sum) in
      record { all = all; put = put_all; taken = taken_all; left = omega (arith, put_all, taken_all, all.sum) }

  -- one pass more is gathered
  pub gathered_more : (v w : Knows T) (pass : PassIs T) (before rest : List (PassIs T)) (all : List (Account T)) → before ≡ pass ∷ rest →
      v.accounts ++ map account before ≡ all →
      w ≡ in_charge (v.accounts ++ pass.account ∷ []) → (w ≡ in_charge w.accounts) × (w.accounts ++ map account rest ≡ all)
  gathered_more v w pass before rest all is whole now = (
    now ∙ sym (ap (λ (u : Knows T). in_charge u.accounts) now),
    ap (λ (u : Knows T). u.accounts ++ map account rest) now ∙ append_assoc v.accounts (pass.account ∷ []) (map account rest)
        ∙ ap (λ (l : List (PassIs T)). v.accounts ++ map account l) (sym is) ∙ whole,
  )

  -- and its counts, which stop at the last value
  pub counted_more : (f : Account T → ℕ) (v w : Knows T) (a : Account T) (before now : ℕ) → w ≡ in_charge (v.accounts ++ a ∷ []) →
      before ≡ min (sum_by f v.accounts) (2 ^ 64 - 1) → now ≡ min (before + f a) (2 ^ 64 - 1) →
      now ≡ min (sum_by f w.accounts) (2 ^ 64 - 1)
  counted_more f v w a before now is before_is now_is =
      let sums : sum_by f w.accounts ≡ sum_by f v.accounts + f a = ap (λ (u : Knows T). sum_by f u.accounts) is ∙ sum_by_push f v.accounts a in
      omega (arith, sums, before_is, now_is)
