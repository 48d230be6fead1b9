-- A task that waits no longer was offered.
use Rattle.std.proofs.Common.{◌≡◌, ◌≢◌, ℕ, zero, suc, ◌+◌, Bool, true, false, List, [], ◌∷◌, ◌++◌, length, Option, Some, option_map, refl, sym, ap, ◌∙◌}
use Rattle.std.proofs.Common.{subst, inl, inr, arith, append_assoc}
use Rattle.std.proofs.Common.{lt-ltb, ltb-true, ltb-false, le-ltb}
use Rattle.std.specs.Prelude.{nat_lt}
use Rattle.std.proofs.lemmas.List.{append-nil}
use Rattle.rt_base.specs.declared.data.Phase.TheVariants as phase
use Rattle.rt_base.specs.declared.data.Program.{Program}
use Rattle.rt_base.specs.State.{State, Task, phase_of}
use Rattle.task_machine.proofs.Items.{either_place}
use Rattle.task_machine.proofs.Others.{leaves_others}
use Rattle.shared_lists.specs.Deeds.{deed, how_many, state_seen, is_offered}
use Rattle.shared_lists.specs.Sound.{MayDo, IsSoundAfter}
use Rattle.shared_lists.specs.Laws.{StartedWereOffered}
use Rattle.shared_lists.proofs.Pairs.{how_many-append, how_many-own, how_many-else, state_seen-step, state_seen-else}
use Rattle.shared_lists.proofs.Since.{waits_first}

-- what is offered stays offered
pub offered_more : (t : ℕ) (xs ys : List (ℕ × ℕ)) → is_offered t xs ≡ true → is_offered t (xs ++ ys) ≡ true
offered_more t xs ys offered =
    lt-ltb 0 (how_many (t + 1) (xs ++ ys)) (omega (arith, ltb-true 0 (how_many (t + 1) xs) offered, how_many-append (t + 1) xs ys))

-- an offer, and every other pair
pub offered-own : (t c : ℕ) (xs : List (ℕ × ℕ)) → is_offered t (xs ++ (c, t + 1) ∷ []) ≡ true
offered-own t c xs = lt-ltb 0 (how_many (t + 1) (xs ++ (c, t + 1) ∷ [])) (omega (arith, how_many-own (t + 1) c xs))

pub offered-else : (t c m : ℕ) (xs : List (ℕ × ℕ)) → m ≢ t + 1 → is_offered t (xs ++ (c, m) ∷ []) ≡ is_offered t xs
offered-else t c m xs other = ap (nat_lt 0) (how_many-else (t + 1) c m xs other)

not_before : (t : ℕ) (xs ys : List (ℕ × ℕ)) → is_offered t (xs ++ ys) ≡ false → is_offered t xs ≡ false
not_before t xs ys none =
    le-ltb 0 (how_many (t + 1) xs) (omega (arith, ltb-false 0 (how_many (t + 1) (xs ++ ys)) none, how_many-append (t + 1) xs ys))

abbrev Waits : Program → ℕ → List (ℕ × ℕ) → Type 0
Waits p t pairs = is_offered t pairs ≡ false → phase_of (state_seen p pairs) t ≡ Some phase.Waiting

waits_on : (p : Program) (w t : ℕ) (before : List (ℕ × ℕ)) (c m : ℕ) → Waits p t before → MayDo p w before c (deed (length p.tasks.items) m)
    → Waits p t (before ++ (c, m) ∷ [])
waits_on p w t before c zero waits may = λ none.
    let first = not_before t before ((c, zero) ∷ []) none in
    elim (either_place t c) [
      | inl same ↦
          let asked = may.1 (subst (λ (d : ℕ). phase_of (state_seen p before) d ≡ Some phase.Waiting) same (waits first)) in
          absurd (cc (first, subst (λ (d : ℕ). is_offered d before ≡ true) (sym same) asked))
      | inr other ↦
          ap (λ (s : State). phase_of s t) (state_seen-step p before c)
          ∙ ap (λ (o : Option Task). option_map (λ (task : Task). task.phase) o) (leaves_others p w (state_seen p before) c may.0 t other)
          ∙ waits first
    ]
waits_on p w t before c (suc n) waits may = λ none.
    ap (λ (s : State). phase_of s t) (state_seen-else p before c n) ∙ waits (not_before t before ((c, suc n) ∷ []) none)

waits_after : (p : Program) (w t : ℕ) (before pairs : List (ℕ × ℕ)) → Waits p t before → IsSoundAfter p w before pairs → Waits p t (before ++ pairs)
waits_after p w t before [] waits sound = subst (Waits p t) (sym (append-nil before)) waits
waits_after p w t before (pair ∷ pairs) waits sound =
    subst (Waits p t) (append_assoc before (pair ∷ []) pairs)
    (waits_after p w t (before ++ pair ∷ []) pairs (waits_on p w t before pair.0 pair.1 waits sound.0) sound.1)

pub started_offered : StartedWereOffered
started_offered p w pairs sound t exists started = by_test (is_offered t pairs) refl where
  by_test : (b : Bool) → is_offered t pairs ≡ b → is_offered t pairs ≡ true
  by_test true test = test
  by_test false test = absurd (started (waits_after p w t [] pairs (λ none. waits_first p t exists) sound test))
