-- Each kind of atomic step of the table keeps the rule.
use Rattle.std.proofs.Common.{◌≡◌, ◌≢◌, ℕ, zero, suc, ◌+◌, ◌<◌, ◌-◌, ◌%◌, ◌^◌, true, inl, inr, List, [], ◌∷◌, ◌++◌, length, set, refl}
use Rattle.std.proofs.Common.{ap, sym, subst, ◌∙◌, arith, length-append, slice_index}
use mathlib.Core.Option.{some, some-injective, some-ne-none}
use lib.ListN.{get_elem?}
use Rattle.atomic_table.specs.Table.{State, Me, Splits, Joins, Allows, opening, keeps}
use Rattle.atomic_table.proofs.Lists.{at_set, set_again}
use Rattle.pass_table.specs.declared.view.View.{View}
use Rattle.pass_table.specs.Views.{pen_of, pass_of, note_of, held_by, met_by, settled_by, added, Fits, KeptBy, IsRuled, Knows, Looked, Appended}
use Rattle.pass_table.proofs.Fronts.{prefix_nil}
use Rattle.pass_table.proofs.Keeping.{Both, set-comm, kept_put, kept_add}
use Rattle.pass_table.proofs.Parts as parts

only_one : (p v : View) (i : ℕ) → get_elem? (p ∷ []) i ≡ some v → (i ≡ 0) × (p ≡ v)
only_one p v zero e = (refl, some-injective p v e)
only_one p v (suc i) e = absurd (some-ne-none v (sym e))

-- the empty list, whose pen is the only seat
pub opens : IsRuled (opening (0 ∷ []) [] (pen_of 0 []))
opens = (
  [],
  record {
    word = refl;
    fits = λ i v e. subst (Fits []) (only_one (pen_of 0 []) v i e).1 (record {
      seen = prefix_nil [];
      had = prefix_nil [];
      told = prefix_nil [];
      whole = λ p. refl;
      steps = λ p. absurd (cc p);
      made = λ p q. absurd (cc q);
    });
    beside = λ i j v w ne e f. absurd (ne ((only_one (pen_of 0 []) v i e).0 ∙ sym (only_one (pen_of 0 []) w j f).0));
  },
)

module _ (s : State ℕ View) (kept : IsRuled s) where
  -- two seats of a table, each beside the other
  both : (i j : ℕ) (v u : View) → j ≢ i → get_elem? s.views i ≡ some v → get_elem? s.views j ≡ some u → Both v u
  both i j v u ne e f = (kept.1.beside i j v u (λ same. ne (sym same)) e f, kept.1.beside j i u v ne f e)

  -- a seat changes its lists and gets no more rights, and the list stays
  same_role : (i : ℕ) (v w : View) → get_elem? s.views i ≡ some v → parts.IsPart w v → Fits kept.0 w → KeptBy kept.0 s.words (set s.views i w)
  same_role i v w e part fit =
      kept_put kept.0 kept.0 s.words s.words s.views i w kept.1 kept.1.word fit
      (λ j u ne f. (kept.1.fits j u f, parts.both_part w v u part (both i j v u ne e f)))

  -- a seat takes in another, which is spent
  joined : (id other : ℕ) (v w both_are : View) → get_elem? s.views id ≡ some v → (other ≡ id → ⊥) → get_elem? s.views other ≡ some w → Fits kept.0 both_are
      → ((j : ℕ) (u : View) → j ≢ id → j ≢ other → get_elem? s.views j ≡ some u → Both both_are u)
      → KeptBy kept.0 s.words (set (set s.views id both_are) other (note_of []))
  joined id other v w both_are at ne at' fit beside =
      let log = kept.0 in
      let k = kept.1 in
      let spent = kept_put log log s.words s.words s.views other (note_of []) k k.word (parts.note_fits log [] (prefix_nil log))
      (λ j u away f. (k.fits j u f, parts.note_both [] u)) in
      let after = kept_put log log s.words s.words (set s.views other (note_of [])) id both_are spent k.word fit (λ j u away f. (
        spent.fits j u f,
        elim (at_set s.views other j (note_of []) u f) [
          | inl here ↦ subst (λ x. Both both_are x) here.1 (let b = parts.note_both [] both_are in (b.1, b.0))
          | inr else_where ↦ beside j u away else_where.0 else_where.1
        ],
      )) in
      subst (KeptBy log s.words) (set-comm s.views other id (note_of []) both_are ne) after

-- the other seat of a join, before it
other_at : (views : List View) (id other : ℕ) (w both_are : View) → (other ≡ id → ⊥)
    → get_elem? (set views id both_are) other ≡ some w → get_elem? views other ≡ some w
other_at views id other w both_are ne e = elim (at_set views id other both_are w e) [ inl here ↦ absurd (ne here.0) | inr away ↦ away.1 ]

-- a note is cut off a pass
pub notes : (id : ℕ) (v : View) → Splits IsRuled id v v (note_of v.seen)
notes id v s kept at = (
  kept.0,
  kept_add kept.0 s.words (set s.views id v) (note_of v.seen) (subst (KeptBy kept.0 s.words) (sym (set_again s.views id v at)) kept.1)
      (parts.note_fits kept.0 v.seen (kept.1.fits id v at).seen) (λ j u e. parts.note_both v.seen u),
)

-- pen and pass are cut apart
pub parts_split : (id : ℕ) (v : View) → v.pen ≡ true → v.names ≡ true → Splits IsRuled id v (pen_of v.made v.seen) (pass_of v.caller v.steps v.seen)
parts_split id v is_pen is_pass s kept at =
    let fit = kept.1.fits id v at in
    let pen = pen_of v.made v.seen in
    let pass = pass_of v.caller v.steps v.seen in
    let pen_part : parts.IsPart pen v = record { pen = λ e. (is_pen, omega arith); names = λ e. absurd (cc e) } in
    let pass_part : parts.IsPart pass v = record { pen = λ e. absurd (cc e); names = λ e. (is_pass, refl) } in (
      kept.0,
      kept_add kept.0 s.words (set s.views id pen) pass (same_role s kept id v pen at pen_part (parts.pen_fits kept.0 v v.made fit is_pen))
          (parts.pass_fits kept.0 v fit is_pass)
          (λ j u e. elim (at_set s.views id j pen u e) [
            | inl here ↦ subst (λ x. Both pass x) here.1 (parts.parts_both kept.0 v fit is_pen is_pass)
            | inr away ↦ parts.both_part pass v u pass_part (both s kept id j v u away.0 at away.1)
          ]),
    )

-- a new caller's pass is cut off the pen of an empty list
pub deals : (id : ℕ) (v : View) → v.pen ≡ true → v.seen ≡ [] → Splits IsRuled id v (pen_of (v.made + 1) v.seen) (pass_of v.made 0 v.seen)
deals id v is_pen none s kept at =
    let fit = kept.1.fits id v at in
    let pen = pen_of (v.made + 1) v.seen in
    let pass = pass_of v.made 0 v.seen in
    let pen_part : parts.IsPart pen v = record { pen = λ e. (is_pen, omega arith); names = λ e. absurd (cc e) } in (
      kept.0,
      kept_add kept.0 s.words (set s.views id pen) pass (same_role s kept id v pen at pen_part (parts.pen_fits kept.0 v (v.made + 1) fit is_pen))
          (parts.new_fits kept.0 v fit is_pen none)
          (λ j u e. elim (at_set s.views id j pen u e) [
            | inl here ↦ subst (λ x. Both pass x) here.1 (parts.new_beside_pen v.made v.seen)
            | inr away ↦ parts.new_both v u v.seen is_pen (both s kept id j v u away.0 at away.1)
          ]),
    )

-- a pass is joined to the pen
pub holds : (id other : ℕ) (v w : View) → v.pen ≡ true → w.names ≡ true → Joins IsRuled id v other w (held_by v w) (note_of [])
holds id other v w is_pen is_pass s kept at ne e =
    let at' = other_at s.views id other w (held_by v w) ne e in
    let k = kept.1 in (
      kept.0,
      joined s kept id other v w (held_by v w) at ne at'
          (parts.held_fits kept.0 v w (k.fits id v at) (k.fits other w at') is_pen is_pass (both s kept id other v w ne at at').0)
          (λ j u away apart f. parts.held_both v w u is_pen is_pass (both s kept id j v u away at f) (both s kept other j w u apart at' f)),
    )

-- a note is joined to a pass
pub meets : (id other : ℕ) (v w : View) → Joins IsRuled id v other w (met_by v w) (note_of [])
meets id other v w s kept at ne e =
    let at' = other_at s.views id other w (met_by v w) ne e in
    let k = kept.1 in (
      kept.0,
      joined s kept id other v w (met_by v w) at ne at' (parts.met_fits kept.0 v w (k.fits id v at) (k.fits other w at'))
          (λ j u away apart f. parts.both_part (met_by v w) v u (parts.same_part (met_by v w) v refl refl refl refl) (both s kept id j v u away at f)),
    )

-- a note is joined to the pen
pub settles : (id other : ℕ) (v w : View) → v.pen ≡ true → Joins IsRuled id v other w (settled_by v w) (note_of [])
settles id other v w is_pen s kept at ne e =
    let at' = other_at s.views id other w (settled_by v w) ne e in
    let k = kept.1 in (
      kept.0,
      joined s kept id other v w (settled_by v w) at ne at'
          (parts.settled_fits kept.0 v w (k.fits id v at) (k.fits other w at') is_pen)
          (λ j u away apart f. parts.both_part (settled_by v w) v u (parts.same_part (settled_by v w) v refl refl refl refl) (both s kept id j v u away at f)),
    )

-- what a seat that fits knows
knows : (log : List (ℕ × ℕ)) (v : View) → Fits log v → Knows v
knows log v fit = record { had = fit.had; told = fit.told; steps = λ e. (fit.steps e).0 }

-- the word is read
pub looks : (slots id : ℕ) (me : Me ℕ View) → Allows IsRuled slots id me 0 (λ n. n) (λ n w. Looked me.0 w.0 × (w.1 ≡ me.1))
looks slots id me s kept homes at small =
    let k = kept.1 in
    let fit = k.fits id me.0 at in
    let word = ap (λ ws. set ws 0 (slice_index ws 0)) k.word in (
      me.0,
      keeps,
      tt,
      (
        kept.0,
        kept_put kept.0 kept.0 s.words (set s.words 0 (slice_index s.words 0)) s.views id me.0 k word fit
            (λ j u ne e. (k.fits j u e, both s kept id j me.0 u ne at e)),
      ),
      ((refl, knows kept.0 me.0 fit), refl),
    )

-- the word grows by one, and the list by a pair
pub appends : (slots id : ℕ) (me : Me ℕ View) (what : ℕ) → me.0.pen ≡ true → me.0.names ≡ true → length me.0.seen < 2 ^ 64 - 1
    → Allows IsRuled slots id me 0 (λ n. (n + 1) % 2 ^ 64) (λ n w. Appended what me.0 w.0 × (w.1 ≡ me.1))
appends slots id me what is_pen is_pass room s kept homes at small =
    let k = kept.1 in
    let log = kept.0 in
    let v = me.0 in
    let fit = k.fits id v at in
    let pair : List (ℕ × ℕ) = (v.caller, what) ∷ [] in
    let next : (length log + 1) % 2 ^ 64 ≡ length (log ++ pair) = omega (arith, length-append log pair, ap length (fit.whole is_pen), room) in
    let word = ap (λ ws. set ws 0 ((slice_index ws 0 + 1) % 2 ^ 64)) k.word ∙ ap (λ (n : ℕ). n ∷ []) next in (
      added what v,
      keeps,
      tt,
      (
        log ++ pair,
        kept_put log (log ++ pair) s.words (set s.words 0 ((slice_index s.words 0 + 1) % 2 ^ 64)) s.views id (added what v) k word
            (parts.added_fits log v what fit is_pen is_pass)
            (λ j u ne e. (
              parts.other_fits log v u what is_pen is_pass (both s kept id j v u ne at e).0 (k.fits j u e),
              parts.both_part (added what v) v u (parts.same_part (added what v) v refl refl refl refl) (both s kept id j v u ne at e),
            )),
      ),
      ((refl, knows log v fit), refl),
    )
