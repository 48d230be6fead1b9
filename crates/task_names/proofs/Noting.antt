-- The flags of the places that have a change.
use Rattle.std.proofs.Common.{◌≡◌, ◌≢◌, ℕ, ◌<◌, ◌≤◌, Bool, true, false, nat_eq, List, [], ◌∷◌, ◌++◌, length, slice_index_or, slice_set, refl, sym, ap}
use Rattle.std.proofs.Common.{◌∙◌, true≢false, arith, zero, suc}
use Rattle.std.proofs.lemmas.List.{get_or-set_same, get_or-set_other}
use Rattle.std.proofs.lemmas.Bool.Decides.{nat_tests}
use Rattle.task_names.specs.declared.log.Change.{Change}
use Rattle.task_names.specs.Undoing.{has_place, NotesOnly}

has_last : (cs : List Change) (c : Change) (p : ℕ) → p ≡ c.place → has_place p (cs ++ c ∷ []) ≡ true
has_last [] c p e = grind (arith, nat_tests)
has_last (d ∷ cs) c p e = let rest = has_last cs c p e in grind (arith, nat_tests)

has_more : (cs : List Change) (c : Change) (p : ℕ) → has_place p cs ≡ true → has_place p (cs ++ c ∷ []) ≡ true
has_more [] c p h = absurd (true≢false (sym h))
has_more (d ∷ cs) c p h = let rest = has_more cs c p in grind (arith, nat_tests)

has_other : (cs : List Change) (c : Change) (p : ℕ) → p ≢ c.place → has_place p (cs ++ c ∷ []) ≡ true → has_place p cs ≡ true
has_other [] c p n h = grind (arith, nat_tests)
has_other (d ∷ cs) c p n h = let rest = has_other cs c p n in grind (arith, nat_tests)

noted_within : (noted : List Bool) (p : ℕ) → slice_index_or noted p false ≡ true → p < length noted
noted_within [] p h = absurd (true≢false (sym h))
noted_within (b ∷ noted) zero h = omega arith
noted_within (b ∷ noted) (suc p) h = let rest = noted_within noted p h in omega arith

-- a new change may be noted, or not
pub noted_more : (cs : List Change) (c : Change) (noted : List Bool) → NotesOnly cs noted → NotesOnly (cs ++ c ∷ []) noted
noted_more cs c noted h p is = has_more cs c p (h p is)

pub noted_push : (cs : List Change) (c : Change) (noted : List Bool) → NotesOnly cs noted → NotesOnly (cs ++ c ∷ []) (slice_set noted c.place true)
noted_push cs c noted h p is = by (nat_eq p c.place) refl
  where
    by : (b : Bool) → nat_eq p c.place ≡ b → has_place p (cs ++ c ∷ []) ≡ true
    by true e = has_last cs c p (grind (arith, nat_tests))
    by false e = has_more cs c p (h p (sym (get_or-set_other noted c.place p true false (λ same. grind (arith, nat_tests))) ∙ is))

-- the newest change goes, and its place is no longer noted
pub noted_pop : (cs : List Change) (c : Change) (noted : List Bool) → NotesOnly (cs ++ c ∷ []) noted → c.place < length noted
    → NotesOnly cs (slice_set noted c.place false)
noted_pop cs c noted h within p is = by (nat_eq p c.place) refl
  where
    by : (b : Bool) → nat_eq p c.place ≡ b → has_place p cs ≡ true
    by true e =
        let same : p ≡ c.place = grind (arith, nat_tests) in
        absurd (true≢false (sym is ∙ ap (λ q. slice_index_or (slice_set noted c.place false) q false) same ∙ get_or-set_same noted c.place false false within))
    by false e =
        let apart : p ≢ c.place = λ same. grind (arith, nat_tests) in
        has_other cs c p apart (h p (sym (get_or-set_other noted c.place p false false apart) ∙ is))

pub noted_past : (all cs : List Change) (c : Change) (noted : List Bool) → all ≡ cs ++ c ∷ [] → NotesOnly all noted → length noted ≤ c.place
    → NotesOnly cs noted
noted_past all cs c noted is h past p at =
    let within = noted_within noted p at in
    has_other cs c p (λ e. grind arith) (ap (has_place p) (sym is) ∙ h p at)
