-- What a put and a take do to what has happened to a bag.
use Rattle.std.proofs.Common.{◌≡◌, ◌≢◌, ℕ, zero, suc, ◌+◌, ◌<◌, ◌≤◌, Bool, true, false, cond, List, [], ◌∷◌, ◌++◌, length, map, drop, get_or, sym}
use Rattle.std.proofs.Common.{refl, ap, ◌∙◌, arith, append_assoc, append-nil, length-append, eq-eqb, ne_eqb, ◌==◌}
use Rattle.std.specs.List.{All, filter, count_by}
use Rattle.std.proofs.lemmas.List.{map-append, drop-append-le}
use Rattle.std.proofs.lemmas.List.Elements.{filter-append, All-nil, All-cons, All-head, All-tail}
use Rattle.std.proofs.lemmas.List.Kept.{AllPairs-cons}
use Rattle.std.proofs.lemmas.List.Sums.{sum_by-cons, sum_by-append}
use mathlib.Core.Option.{some, some-injective, some-ne-none}
use lib.ListN.{get_elem?}
use Rattle.ready_bag.specs.declared.account.Numbered.{Numbered}
use Rattle.ready_bag.specs.declared.account.Account.{Account}
use Rattle.ready_bag.specs.Past.{Past, item, is_of, put_by, taken_by, AreNumbered, Leaves, Fits, NumbersRise, with_put, with_taken}

module _ {T : Type 0} where
  -- so many puts of the owner, and one more
  pub count_push : (owner : ℕ) (puts : List (Numbered T)) (p : Numbered T) →
      count_by (is_of owner) (puts ++ p ∷ []) ≡ count_by (is_of owner) puts + cond (is_of owner p) 1 0
  count_push owner puts p = omega (arith, sum_by-append (λ q. cond (is_of owner q) 1 0) puts (p ∷ []), sum_by-cons (λ q. cond (is_of owner q) 1 0) p [])

  numbered_push : (before puts : List (Numbered T)) (p : Numbered T) → AreNumbered before puts → p.number ≡ count_by (is_of p.owner) (before ++ puts) →
      AreNumbered before (puts ++ p ∷ [])
  numbered_push before [] p numbered is = (is ∙ ap (λ (l : List (Numbered T)). count_by (is_of p.owner) l) (append-nil before), tt)
  numbered_push before (q ∷ puts) p numbered is = (
    numbered.0,
    numbered_push (before ++ q ∷ []) puts p numbered.1 (is
        ∙ ap (λ (l : List (Numbered T)). count_by (is_of p.owner) l) (sym (append_assoc before (q ∷ []) puts))),
  )

  -- a put adds its item to the list of its owner
  put_by_push : (owner : ℕ) (puts : List (Numbered T)) (p : Numbered T) →
      put_by owner (puts ++ p ∷ []) ≡ put_by owner puts ++ cond (is_of owner p) (p.item ∷ []) []
  put_by_push owner puts p =
      let step : (b : Bool) → map item (cond b (p ∷ []) []) ≡ cond b (p.item ∷ []) [] = elim [ true ↦ refl | false ↦ refl ] in
      ap (λ (l : List (Numbered T)). map item l) (filter-append (is_of owner) puts (p ∷ []))
      ∙ map-append item (filter (is_of owner) puts) (filter (is_of owner) (p ∷ []))
      ∙ ap (λ (l : List T). put_by owner puts ++ l) (step (is_of owner p))

  put_by_own : (owner : ℕ) (puts : List (Numbered T)) (p : Numbered T) → p.owner ≡ owner → put_by owner (puts ++ p ∷ []) ≡ put_by owner puts ++ p.item ∷ []
  put_by_own owner puts p own = put_by_push owner puts p ∙ ap (λ (b : Bool). put_by owner puts ++ cond b (p.item ∷ []) []) (eq-eqb p.owner owner own)

  put_by_other : (owner : ℕ) (puts : List (Numbered T)) (p : Numbered T) → p.owner ≢ owner → put_by owner (puts ++ p ∷ []) ≡ put_by owner puts
  put_by_other owner puts p other = put_by_push owner puts p ∙ ap (λ (b : Bool). put_by owner puts ++ cond b (p.item ∷ []) []) (ne_eqb p.owner owner other)
      ∙ append-nil (put_by owner puts)

  -- what was taken stays as it was when an item is put
  taken_by_put : (owner : ℕ) (takers : List ℕ) (puts : List (Numbered T)) (p : Numbered T) → length takers ≤ length puts →
      taken_by owner takers (puts ++ p ∷ []) ≡ taken_by owner takers puts
  taken_by_put owner [] puts p short = refl
  taken_by_put owner (taker ∷ takers) [] p short = absurd (omega arith)
  taken_by_put owner (taker ∷ takers) (q ∷ puts) p short =
      ap (λ (l : List (Numbered T)). cond (taker == owner) (q ∷ l) l) (taken_by_put owner takers puts p (omega arith))

  first : (owner taker : ℕ) (puts : List (Numbered T)) (q p : Numbered T) → some q ≡ some p →
      cond (taker == owner) (q ∷ taken_by owner [] puts) (taken_by owner [] puts) ≡ cond (taker == owner) (p ∷ []) []
  first owner taker puts q p at = ap (λ (r : Numbered T). cond (taker == owner) (r ∷ []) []) (some-injective q p at)

  -- a take adds the oldest put that is left to what its taker took
  taken_by_take : (owner taker : ℕ) (takers : List ℕ) (puts : List (Numbered T)) (p : Numbered T) → get_elem? puts (length takers) ≡ some p →
      taken_by owner (takers ++ taker ∷ []) puts ≡ taken_by owner takers puts ++ cond (taker == owner) (p ∷ []) []
  taken_by_take owner taker takers [] p at = absurd (some-ne-none p (sym at))
  taken_by_take owner taker [] (q ∷ puts) p at = first owner taker puts q p at
  taken_by_take owner taker (other ∷ takers) (q ∷ puts) p at =
      let step : (b : Bool) (l m : List (Numbered T)) → cond b (q ∷ (l ++ m)) (l ++ m) ≡ cond b (q ∷ l) l ++ m =
      λ b l m. elim b as (λ c. cond c (q ∷ (l ++ m)) (l ++ m) ≡ cond c (q ∷ l) l ++ m) [ true ↦ refl | false ↦ refl ] in
      ap (λ (l : List (Numbered T)). cond (other == owner) (q ∷ l) l) (taken_by_take owner taker takers puts p at)
      ∙ step (other == owner) (taken_by owner takers puts) (cond (taker == owner) (p ∷ []) [])

  nothing : (x : T) (items : List T) → [] ≡ x ∷ items → ⊥
  nothing x items is = let e : 0 ≡ suc (length items) = ap (λ (l : List T). length l) is in omega arith

  -- the oldest item that is left
  pub record Oldest (puts : List (Numbered T)) (n : ℕ) (x : T) (items : List T) : Type 0 where
    pub put : Numbered T
    pub is_item : put.item ≡ x
    pub at : get_elem? puts n ≡ some put
    pub within : n < length puts
    pub rest : map item (drop (suc n) puts) ≡ items

  pub oldest : (puts : List (Numbered T)) (n : ℕ) (x : T) (items : List T) → map item (drop n puts) ≡ x ∷ items → Oldest puts n x items
  oldest [] zero x items is = absurd (nothing x items is)
  oldest [] (suc n) x items is = absurd (nothing x items is)
  oldest (p ∷ puts) zero x items is = record {
    put = p;
    is_item = ap (λ (l : List T). get_or l 0 x) is;
    at = refl;
    within = omega arith;
    rest = ap (λ (l : List T). drop 1 l) is;
  }
  oldest (p ∷ puts) (suc n) x items is =
      let o = oldest puts n x items is in
      let within : n < length puts = o.within in
      record { put = o.put; is_item = o.is_item; at = o.at; within = omega (arith, within); rest = o.rest }

  -- what has happened after a put
  abbrev pub put_in : Past T → ℕ → T → Past T
  put_in past owner x = record { puts = past.puts ++ record { owner = owner; number = count_by (is_of owner) past.puts; item = x } ∷ []; takers = past.takers }

  pub leaves_put : (past : Past T) (items : List T) (owner : ℕ) (x : T) → Leaves past items → Leaves (put_in past owner x) (items ++ x ∷ [])
  leaves_put past items owner x leaves =
      let p : Numbered T = record { owner = owner; number = count_by (is_of owner) past.puts; item = x } in
      let short : length past.takers ≤ length past.puts = leaves.short in
      record {
        short = omega (arith, short, length-append past.puts (p ∷ []));
        numbered = numbered_push [] past.puts p leaves.numbered refl;
        left = ap (λ (l : List (Numbered T)). map item l) (drop-append-le (length past.takers) past.puts (p ∷ []) short)
            ∙ map-append item (drop (length past.takers) past.puts) (p ∷ []) ∙ ap (λ (l : List T). l ++ x ∷ []) leaves.left;
      }

  pub fits_put_own : (past : Past T) (items : List T) (x : T) (a : Account T) → Leaves past items → Fits past a → Fits (put_in past a.owner x) (with_put x a)
  fits_put_own past items x a leaves fits =
      let p : Numbered T = record { owner = a.owner; number = count_by (is_of a.owner) past.puts; item = x } in
      record {
        put = ap (λ (l : List T). l ++ x ∷ []) fits.put ∙ sym (put_by_own a.owner past.puts p refl);
        took = fits.took ∙ sym (taken_by_put a.owner past.takers past.puts p leaves.short);
      }

  pub fits_put_other : (past : Past T) (items : List T) (owner : ℕ) (x : T) (a : Account T) → a.owner ≢ owner → Leaves past items → Fits past a →
      Fits (put_in past owner x) a
  fits_put_other past items owner x a other leaves fits =
      let p : Numbered T = record { owner = owner; number = count_by (is_of owner) past.puts; item = x } in
      record {
        put = fits.put ∙ sym (put_by_other a.owner past.puts p (λ e. other (sym e)));
        took = fits.took ∙ sym (taken_by_put a.owner past.takers past.puts p leaves.short);
      }

  -- what has happened after a take
  abbrev pub taken_out : Past T → ℕ → Past T
  taken_out past taker = record { puts = past.puts; takers = past.takers ++ taker ∷ [] }

  pub leaves_take : (past : Past T) (x : T) (items : List T) (taker : ℕ) → Leaves past (x ∷ items) → Leaves (taken_out past taker) items
  leaves_take past x items taker leaves =
      let o = oldest past.puts (length past.takers) x items leaves.left in
      let within : length past.takers < length past.puts = o.within in
      let longer : length (past.takers ++ taker ∷ []) ≡ suc (length past.takers) = omega (arith, length-append past.takers (taker ∷ [])) in
      record {
        short = omega (arith, within, longer);
        numbered = leaves.numbered;
        left = ap (λ (n : ℕ). map item (drop n past.puts)) longer ∙ o.rest;
      }

  pub fits_take_own : (past : Past T) (p : Numbered T) (a : Account T) → get_elem? past.puts (length past.takers) ≡ some p → Fits past a →
      Fits (taken_out past a.owner) (with_taken p a)
  fits_take_own past p a at fits = record {
    put = fits.put;
    took = ap (λ (l : List (Numbered T)). l ++ p ∷ []) fits.took
        ∙ sym (taken_by_take a.owner a.owner past.takers past.puts p at
        ∙ ap (λ (b : Bool). taken_by a.owner past.takers past.puts ++ cond b (p ∷ []) []) (eq-eqb a.owner a.owner refl));
  }

  pub fits_take_other : (past : Past T) (p : Numbered T) (taker : ℕ) (a : Account T) → get_elem? past.puts (length past.takers) ≡ some p →
      a.owner ≢ taker → Fits past a → Fits (taken_out past taker) a
  fits_take_other past p taker a at other fits = record {
    put = fits.put;
    took = fits.took
        ∙ sym (taken_by_take a.owner taker past.takers past.puts p at
        ∙ ap (λ (b : Bool). taken_by a.owner past.takers past.puts ++ cond b (p ∷ []) []) (ne_eqb taker a.owner (λ e. other (sym e)))
        ∙ append-nil (taken_by a.owner past.takers past.puts));
  }

  -- what holds of all puts holds of those that an owner took
  pub all_taken : (P : Numbered T → Type 0) (owner : ℕ) (takers : List ℕ) (puts : List (Numbered T)) → All P puts → All P (taken_by owner takers puts)
  all_taken P owner [] puts all = All-nil P
  all_taken P owner (taker ∷ takers) [] all = All-nil P
  all_taken P owner (taker ∷ takers) (p ∷ puts) all =
      let rest = all_taken P owner takers puts (All-tail P p puts all) in
      elim (taker == owner) as (λ b. All P (cond b (p ∷ taken_by owner takers puts) (taken_by owner takers puts))) [
        | true ↦ All-cons P p (taken_by owner takers puts) (All-head P p puts all) rest
        | false ↦ rest
      ]

  -- behind so many puts of an owner, its numbers are no smaller
  numbers_from : (before puts : List (Numbered T)) (owner low : ℕ) → AreNumbered before puts → low ≤ count_by (is_of owner) before →
      All (λ p. p.owner ≡ owner → low ≤ p.number) puts
  numbers_from before [] owner low numbered least = All-nil (λ p. p.owner ≡ owner → low ≤ p.number)
  numbers_from before (p ∷ puts) owner low numbered least =
      let more = count_push owner before p in
      All-cons (λ q. q.owner ≡ owner → low ≤ q.number) p puts (λ own.
      let same : p.number ≡ count_by (is_of owner) before = numbered.0 ∙ ap (λ (w : ℕ). count_by (is_of w) before) own in omega (arith, least, same))
      (numbers_from (before ++ p ∷ []) puts owner low numbered.1 (omega (arith, more, least)))

  pub rising : (owner : ℕ) (before puts : List (Numbered T)) (takers : List ℕ) → AreNumbered before puts → NumbersRise (taken_by owner takers puts)
  rising owner before puts [] numbered = λ i j d lt within. absurd (omega arith)
  rising owner before [] (taker ∷ takers) numbered = λ i j d lt within. absurd (omega arith)
  rising owner before (p ∷ puts) (taker ∷ takers) numbered =
      let rest = rising owner (before ++ p ∷ []) puts takers numbered.1 in
      let Later : Numbered T → Numbered T → Type 0 = λ earlier later. earlier.owner ≡ later.owner → earlier.number < later.number in
      let here : ◌≡◌ {A = ℕ} (cond (is_of p.owner p) 1 0) 1 = ap (λ (b : Bool). cond b 1 0) (eq-eqb p.owner p.owner refl) in
      let low : suc p.number ≤ count_by (is_of p.owner) (before ++ p ∷ []) = omega (arith, count_push p.owner before p, here, numbered.0) in
      let later : All (Later p) puts = λ k d lt own.
      let from : suc p.number ≤ (get_or puts k d).number =
      numbers_from (before ++ p ∷ []) puts p.owner (suc p.number) numbered.1 low k d lt (sym own) in omega (arith, from) in
      elim (taker == owner) as (λ b. NumbersRise (cond b (p ∷ taken_by owner takers puts) (taken_by owner takers puts))) [
        | true ↦ AllPairs-cons Later p (taken_by owner takers puts) (all_taken (Later p) owner takers puts later) rest
        | false ↦ rest
      ]
