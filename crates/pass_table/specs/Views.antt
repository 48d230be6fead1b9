-- What the seats of a table know, and the rule that they keep. No public clause cites this module.
use Rattle.std.specs.Prelude.{◌≡◌, ◌≢◌, ℕ, ◌+◌, ◌<◌, true, false, List, [], ◌∷◌, ◌++◌, length}
use mathlib.Core.List.{IsPrefix}
use mathlib.Core.Option.{some}
use lib.ListN.{get_elem?}
use Rattle.atomic_table.specs.Table.{State}
use Rattle.pass_table.specs.declared.view.View.{View}
use Rattle.pass_table.specs.Passes.{PassIs, NoteIs, times, longer}

-- the pen, beside passes of the callers below `made`
abbrev pub pen_of : ℕ → List (ℕ × ℕ) → View
pen_of made seen = record { pen = true; names = false; caller = 0; steps = 0; made = made; seen = seen; had = []; told = [] }

-- a pass
abbrev pub pass_of : ℕ → ℕ → List (ℕ × ℕ) → View
pass_of caller steps seen = record { pen = false; names = true; caller = caller; steps = steps; made = 0; seen = seen; had = []; told = [] }

-- a note, and a seat that was joined to another, of the empty list
abbrev pub note_of : List (ℕ × ℕ) → View
note_of seen = record { pen = false; names = false; caller = 0; steps = 0; made = 0; seen = seen; had = []; told = [] }

-- the pen with a pass: both in one seat
abbrev pub held_by : View → View → View
held_by pen pass = record { pen = true; names = true; caller = pass.caller; steps = pass.steps; made = pen.made; seen = pen.seen; had = pass.seen; told = [] }

-- a pass with what a note has seen
abbrev pub met_by : View → View → View
met_by pass note = record pass { seen = longer pass.seen note.seen; had = pass.seen; told = note.seen }

-- the pen, told what a note has seen
abbrev pub settled_by : View → View → View
settled_by pen note = record pen { told = note.seen }

-- the seat after a step of its caller with this number
abbrev pub added : ℕ → View → View
added what v = record v { steps = v.steps + 1; seen = v.seen ++ (v.caller, what) ∷ [] }

-- a seat in which this pass is joined to this pen, and which holds no slot
pub record IsHeld (pen : NoteIs) (pass : PassIs) (me : View × List (ℕ × ℕ)) : Type 0 where
  pub is_pen : me.0.pen ≡ true
  pub is_pass : me.0.names ≡ true
  pub caller : me.0.caller ≡ pass.caller
  pub steps : me.0.steps ≡ pass.steps
  pub seen : me.0.seen ≡ pen.seen
  pub had : me.0.had ≡ pass.seen
  pub empty : me.1 ≡ []

-- a seat that is the pen and a pass of this caller, who stands in the list as often as the pass has made steps
pub record IsBoth (caller : ℕ) (me : View × List (ℕ × ℕ)) : Type 0 where
  pub is_pen : me.0.pen ≡ true
  pub is_pass : me.0.names ≡ true
  pub caller_is : me.0.caller ≡ caller
  pub steps : times caller me.0.seen ≡ me.0.steps
  pub empty : me.1 ≡ []

-- what a seat knows of the one list
pub record Fits (log : List (ℕ × ℕ)) (v : View) : Type 0 where
  pub seen : IsPrefix v.seen log
  pub had : IsPrefix v.had v.seen
  pub told : IsPrefix v.told v.seen
  pub whole : v.pen ≡ true → v.seen ≡ log
  pub steps : v.names ≡ true → (times v.caller v.seen ≡ v.steps) × (times v.caller log ≡ v.steps)
  pub made : v.pen ≡ true → v.names ≡ true → v.caller < v.made

-- two seats: one pen at most, no caller named twice, and the pen makes only passes of new callers
pub record Beside (v w : View) : Type 0 where
  pub one_pen : v.pen ≡ true → w.pen ≡ true → ⊥
  pub apart : v.names ≡ true → w.names ≡ true → v.caller ≢ w.caller
  pub made : v.pen ≡ true → w.names ≡ true → w.caller < v.made

-- the word is the length of the list, which each seat fits, and each two seats stand beside each other
pub record KeptBy (log : List (ℕ × ℕ)) (words : List ℕ) (views : List View) : Type 0 where
  pub word : words ≡ length log ∷ []
  pub fits : (i : ℕ) (v : View) → get_elem? views i ≡ some v → Fits log v
  pub beside : (i j : ℕ) (v w : View) → i ≢ j → get_elem? views i ≡ some v → get_elem? views j ≡ some w → Beside v w

-- the rule: there is one list
abbrev pub Kept : List ℕ → List View → Type 0
Kept words views = (log : List (ℕ × ℕ)) × KeptBy log words views

-- the rule, of a table
abbrev pub IsRuled : State ℕ View → Type 0
IsRuled s = Kept s.words s.views

-- what a step tells a seat of its own lists
pub record Knows (v : View) : Type 0 where
  pub had : IsPrefix v.had v.seen
  pub told : IsPrefix v.told v.seen
  pub steps : v.names ≡ true → times v.caller v.seen ≡ v.steps

-- what a load tells: the seat is as it was
abbrev pub Looked : View → View → Type 0
Looked v w = (w ≡ v) × Knows v

-- what an append tells: the seat has the pair more
abbrev pub Appended : ℕ → View → View → Type 0
Appended what v w = (w ≡ added what v) × Knows v
