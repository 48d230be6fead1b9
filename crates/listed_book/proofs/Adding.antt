-- What a call says over the list to which it has put a pair, or nothing.
use Rattle.std.proofs.Common.{◌≡◌, ℕ, ◌+◌, ◌^◌, List, [], ◌∷◌, ◌++◌, refl, sym, ap, subst, inl, inr, arith}
use mathlib.Core.List.{IsPrefix}
use Rattle.pass_table.specs.Passes.{PassIs, NoteIs, HasItsSteps, times}
use Rattle.pass_table.proofs.Fronts.{times-append}
use Rattle.shared_lists.specs.Deeds.{looks}
use Rattle.shared_lists.specs.Sound.{IsSound}
use Rattle.shared_lists.specs.Said.{Looks}
use Rattle.listed_book.specs.Listed.{BookIs, with_pair, Adds, Stays, LooksAt}
use Rattle.listed_book.specs.Kept.{Insides, seen_as}

-- a pass that has seen a front of the pen's list, in both of which its caller stands as often as it has made steps
pub record Carries (pen : NoteIs) (pass : PassIs) : Type 0 where
  pub front : IsPrefix pass.seen pen.seen
  pub steps : HasItsSteps pass pass.seen × HasItsSteps pass pen.seen

-- so its caller has done nothing since
pub alone : (pen : NoteIs) (pass : PassIs) (carried : Carries pen pass) → times pass.caller carried.front.0 ≡ 0
alone pen pass carried =
    omega (arith, carried.steps.0, carried.steps.1, ap (times pass.caller) carried.front.1, times-append pass.caller pass.seen carried.front.0)

-- the pass after a pair of its own
abbrev pub pass_with : NoteIs → PassIs → ℕ → PassIs
pass_with pen pass number = record pass { steps = pass.steps + 1; seen = pen.seen ++ (pass.caller, number) ∷ [] }

pub adds_by : (i : Insides) (pass : PassIs) (number : ℕ) → Carries i.pen pass
    → IsSound i.book.program i.book.workers (i.pen.seen ++ (pass.caller, number) ∷ [])
    → Adds (seen_as i) (with_pair (seen_as i) pass.caller number) pass (pass_with i.pen pass number) number
adds_by i pass number carried sound = record {
  does = record {
    table = refl;
    caller = refl;
    steps = refl;
    sound = sound;
    since = carried.front.0;
    alone = alone i.pen pass carried;
    seen = ap (λ (xs : List (ℕ × ℕ)). xs ++ (pass.caller, number) ∷ []) (sym carried.front.1);
  };
  book = refl;
  whole = refl;
  since = sym carried.front.1;
}

pub stays_by : (i : Insides) (pass : PassIs) → Carries i.pen pass → IsSound i.book.program i.book.workers i.pen.seen
    → Stays (seen_as i) (seen_as i) pass (record pass { seen = i.pen.seen })
stays_by i pass carried sound = record {
  catches = record {
    table = refl;
    caller = refl;
    steps = refl;
    sound = sound;
    since = carried.front.0;
    alone = alone i.pen pass carried;
    seen = sym carried.front.1;
  };
  book = refl;
  whole = refl;
}

-- a look, over the list that its pass has seen alone
pub looks_of : (old new : BookIs) (before after : PassIs) → LooksAt old new before after → Looks old.program old.workers before after
looks_of old new before after said = elim said [
  | inl added ↦ inl added.does
  | inr stayed ↦
      inr (stayed.0.catches, subst (λ (xs : List (ℕ × ℕ)). looks old.program xs ≡ 2 ^ 63) (sym stayed.0.whole) stayed.1)
]
