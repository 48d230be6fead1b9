-- What the data of a seat that a step makes fits, and stands beside.
use Rattle.std.proofs.Common.{◌≡◌, ℕ, ◌+◌, ◌<◌, ◌≤◌, true, List, [], ◌∷◌, ◌++◌, length, ap, sym, subst}
use Rattle.std.proofs.Common.{◌∙◌, arith, ne_eqb}
use mathlib.Core.List.{IsPrefix}
use Rattle.pass_table.specs.declared.view.View.{View}
use Rattle.pass_table.specs.Passes.{PassIs, NoteIs, times, longer}
use Rattle.pass_table.specs.Views.{pen_of, pass_of, note_of, held_by, met_by, settled_by, added, Fits, Beside, Appended, IsHeld, IsBoth}
use Rattle.pass_table.proofs.Fronts.{prefix_nil, prefix_self, prefix_more, prefix_length, times-append, times-own, times-prefix, longer_first}
use Rattle.pass_table.proofs.Fronts.{longer_second, longer_within, longer_is_first}
use Rattle.pass_table.proofs.Keeping.{Both}

-- a seat has no right and no name that another has not: its new passes are of no earlier callers
pub record IsPart (w v : View) : Type 0 where
  pub pen : w.pen ≡ true → (v.pen ≡ true) × (v.made ≤ w.made)
  pub names : w.names ≡ true → (v.names ≡ true) × (v.caller ≡ w.caller)

-- a seat that has the rights and the name of the other
pub same_part : (w v : View) → v.pen ≡ w.pen → v.names ≡ w.names → v.caller ≡ w.caller → v.made ≡ w.made → IsPart w v
same_part w v pens names callers made = record { pen = λ e. (pens ∙ e, omega (arith, made)); names = λ e. (names ∙ e, callers) }

-- what stands beside the other stands beside such a seat
pub both_part : (w v u : View) → IsPart w v → Both v u → Both w u
both_part w v u part b = (
  record {
    one_pen = λ e f. b.0.one_pen (part.pen e).0 f;
    apart = λ e f same. b.0.apart (part.names e).0 f ((part.names e).1 ∙ same);
    made = λ e f. omega (arith, (part.pen e).1, b.0.made (part.pen e).0 f);
  },
  record {
    one_pen = λ e f. b.1.one_pen e (part.pen f).0;
    apart = λ e f same. b.1.apart e (part.names f).0 (same ∙ sym (part.names f).1);
    made = λ e f. subst (λ n. n < u.made) (part.names f).1 (b.1.made e (part.names f).0);
  },
)

-- a note stands beside every seat
pub note_both : (seen : List (ℕ × ℕ)) (u : View) → Both (note_of seen) u
note_both seen u = (
  record { one_pen = λ e f. absurd (cc e); apart = λ e f same. absurd (cc e); made = λ e f. absurd (cc e) },
  record { one_pen = λ e f. absurd (cc f); apart = λ e f same. absurd (cc f); made = λ e f. absurd (cc f) },
)

-- what stands beside pen and pass stands beside the two in one seat
pub held_both : (v w u : View) → v.pen ≡ true → w.names ≡ true → Both v u → Both w u → Both (held_by v w) u
held_both v w u is_pen is_pass b c = (
  record {
    one_pen = λ e f. b.0.one_pen is_pen f;
    apart = λ e f same. c.0.apart is_pass f same;
    made = λ e f. b.0.made is_pen f;
  },
  record {
    one_pen = λ e f. b.1.one_pen e is_pen;
    apart = λ e f same. c.1.apart e is_pass same;
    made = λ e f. c.1.made e is_pass;
  },
)

-- pen and pass stand beside each other when they are cut apart
pub parts_both : (log : List (ℕ × ℕ)) (v : View) → Fits log v → v.pen ≡ true → v.names ≡ true
    → Both (pass_of v.caller v.steps v.seen) (pen_of v.made v.seen)
parts_both log v fit is_pen is_pass = (
  record { one_pen = λ e f. absurd (cc e); apart = λ e f same. absurd (cc f); made = λ e f. absurd (cc e) },
  record { one_pen = λ e f. absurd (cc f); apart = λ e f same. absurd (cc e); made = λ e f. fit.made is_pen is_pass },
)

-- a new caller's pass stands beside every seat beside the pen
pub new_both : (v u : View) (seen : List (ℕ × ℕ)) → v.pen ≡ true → Both v u → Both (pass_of v.made 0 seen) u
new_both v u seen is_pen b = (
  record {
    one_pen = λ e f. absurd (cc e);
    apart = λ e f same. absurd (omega (arith, same, b.0.made is_pen f));
    made = λ e f. absurd (cc e);
  },
  record {
    one_pen = λ e f. absurd (cc f);
    apart = λ e f same. absurd (omega (arith, same, b.0.made is_pen e));
    made = λ e f. absurd (b.1.one_pen e is_pen);
  },
)

-- and beside the pen itself
pub new_beside_pen : (made : ℕ) (seen : List (ℕ × ℕ)) → Both (pass_of made 0 seen) (pen_of (made + 1) seen)
new_beside_pen made seen = (
  record { one_pen = λ e f. absurd (cc e); apart = λ e f same. absurd (cc f); made = λ e f. absurd (cc e) },
  record { one_pen = λ e f. absurd (cc f); apart = λ e f same. absurd (cc e); made = λ e f. omega arith },
)

module _ (log : List (ℕ × ℕ)) where
  -- a front of the list is a note of it
  pub note_fits : (seen : List (ℕ × ℕ)) → IsPrefix seen log → Fits log (note_of seen)
  note_fits seen front = record {
    seen = front;
    had = prefix_nil seen;
    told = prefix_nil seen;
    whole = λ e. absurd (cc e);
    steps = λ e. absurd (cc e);
    made = λ e f. absurd (cc e);
  }

  pub pen_fits : (v : View) (made : ℕ) → Fits log v → v.pen ≡ true → Fits log (pen_of made v.seen)
  pen_fits v made fit is_pen = record {
    seen = fit.seen;
    had = prefix_nil v.seen;
    told = prefix_nil v.seen;
    whole = λ e. fit.whole is_pen;
    steps = λ e. absurd (cc e);
    made = λ e f. absurd (cc f);
  }

  pub pass_fits : (v : View) → Fits log v → v.names ≡ true → Fits log (pass_of v.caller v.steps v.seen)
  pass_fits v fit is_pass = record {
    seen = fit.seen;
    had = prefix_nil v.seen;
    told = prefix_nil v.seen;
    whole = λ e. absurd (cc e);
    steps = λ e. fit.steps is_pass;
    made = λ e f. absurd (cc e);
  }

  -- in an empty list each caller stands as often as a new pass has made steps
  pub new_fits : (v : View) → Fits log v → v.pen ≡ true → v.seen ≡ [] → Fits log (pass_of v.made 0 v.seen)
  new_fits v fit is_pen none = record {
    seen = fit.seen;
    had = prefix_nil v.seen;
    told = prefix_nil v.seen;
    whole = λ e. absurd (cc e);
    steps = λ e. (ap (times v.made) none, ap (times v.made) (sym (fit.whole is_pen) ∙ none));
    made = λ e f. absurd (cc e);
  }

  pub held_fits : (v w : View) → Fits log v → Fits log w → v.pen ≡ true → w.names ≡ true → Beside v w → Fits log (held_by v w)
  held_fits v w fit fit' is_pen is_pass beside = record {
    seen = fit.seen;
    told = prefix_nil v.seen;
    whole = λ e. fit.whole is_pen;
    had = subst (λ l. IsPrefix w.seen l) (sym (fit.whole is_pen)) fit'.seen;
    steps = λ e. (ap (times w.caller) (fit.whole is_pen) ∙ (fit'.steps is_pass).1, (fit'.steps is_pass).1);
    made = λ e f. beside.made is_pen is_pass;
  }

  pub met_fits : (v w : View) → Fits log v → Fits log w → Fits log (met_by v w)
  met_fits v w fit fit' =
      let first = longer_first v.seen w.seen log fit.seen fit'.seen in
      let within = longer_within v.seen w.seen log fit.seen fit'.seen in
      record {
        seen = within;
        had = first;
        told = longer_second v.seen w.seen log fit.seen fit'.seen;
        made = fit.made;
        whole = λ e. longer_is_first v.seen w.seen (omega (arith, prefix_length w.seen log fit'.seen, ap length (fit.whole e))) ∙ fit.whole e;
        steps = λ e.
            let below = times-prefix v.caller v.seen (longer v.seen w.seen) first in
            let above = times-prefix v.caller (longer v.seen w.seen) log within in
            (omega (arith, below, above, (fit.steps e).0, (fit.steps e).1), (fit.steps e).1);
      }

  pub settled_fits : (v w : View) → Fits log v → Fits log w → v.pen ≡ true → Fits log (settled_by v w)
  settled_fits v w fit fit' is_pen = record {
    seen = fit.seen;
    had = fit.had;
    whole = fit.whole;
    steps = fit.steps;
    made = fit.made;
    told = subst (λ l. IsPrefix w.seen l) (sym (fit.whole is_pen)) fit'.seen;
  }

  -- the seat that appends, after the step
  pub added_fits : (v : View) (what : ℕ) → Fits log v → v.pen ≡ true → v.names ≡ true → Fits (log ++ (v.caller, what) ∷ []) (added what v)
  added_fits v what fit is_pen is_pass =
      let pair : List (ℕ × ℕ) = (v.caller, what) ∷ [] in
      record {
        seen = subst (λ l. IsPrefix (v.seen ++ pair) (l ++ pair)) (fit.whole is_pen) (prefix_self (v.seen ++ pair));
        had = prefix_more v.had v.seen pair fit.had;
        told = prefix_more v.told v.seen pair fit.told;
        whole = λ e. ap (λ l. l ++ pair) (fit.whole is_pen);
        made = fit.made;
        steps = λ e. (omega (arith, times-own v.caller what v.seen, (fit.steps is_pass).0), omega (arith, times-own v.caller what log, (fit.steps is_pass).1));
      }

  -- another seat, after that step
  pub other_fits : (v u : View) (what : ℕ) → v.pen ≡ true → v.names ≡ true → Beside v u → Fits log u → Fits (log ++ (v.caller, what) ∷ []) u
  other_fits v u what is_pen is_pass beside fit =
      let pair : List (ℕ × ℕ) = (v.caller, what) ∷ [] in
      record {
        seen = prefix_more u.seen log pair fit.seen;
        had = fit.had;
        told = fit.told;
        made = fit.made;
        whole = λ e. absurd (beside.one_pen is_pen e);
        steps = λ e. let never : times u.caller pair ≡ 0 = rw (ne_eqb v.caller u.caller (beside.apart is_pass e)) (omega arith) in
            ((fit.steps e).0, omega (arith, times-append u.caller log pair, (fit.steps e).1, never));
      }

-- pen and pass in one seat, after the step
pub both_after : (pen : NoteIs) (pass : PassIs) (what caller : ℕ) (me new : View × List (ℕ × ℕ))
    → IsHeld pen pass me → Appended what me.0 new.0 × (new.1 ≡ me.1) → pass.caller ≡ caller → IsBoth caller new
both_after pen pass what caller me new held told same =
    let is : new.0 ≡ added what me.0 = told.0.0 in
    let names_it : me.0.caller ≡ caller = held.caller ∙ same in
    let once_more : times me.0.caller (added what me.0).seen ≡ me.0.steps + 1 =
    omega (arith, times-own me.0.caller what me.0.seen, told.0.1.steps held.is_pass) in
    let of_caller = subst (λ (k : ℕ). times k (added what me.0).seen ≡ me.0.steps + 1) names_it once_more in
    record {
      is_pen = ap (λ (v : View). v.pen) is ∙ held.is_pen;
      is_pass = ap (λ (v : View). v.names) is ∙ held.is_pass;
      caller_is = ap (λ (v : View). v.caller) is ∙ names_it;
      steps = subst (λ (v : View). times caller v.seen ≡ v.steps) (sym is) of_caller;
      empty = told.1 ∙ held.empty;
    }
