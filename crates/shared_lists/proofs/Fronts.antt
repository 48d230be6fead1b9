-- Sound lists in two parts, and their steps.
use Rattle.std.proofs.Common.{ℕ, zero, suc, Bool, true, false, cond, List, [], ◌∷◌, ◌++◌, length, sym, subst, append_assoc}
use Rattle.std.specs.Prelude.{nat_le}
use Rattle.std.proofs.lemmas.List.{append-nil}
use Rattle.rt_base.specs.declared.data.Program.{Program}
use Rattle.rt_base.specs.State.{State}
use Rattle.task_machine.specs.Legal.{IsDefined}
use Rattle.shared_lists.specs.Deeds.{moves, state_seen}
use Rattle.shared_lists.specs.Sound.{IsSoundAfter, IsSound}
use Rattle.shared_lists.specs.Laws.{SoundListsGrow, FrontsAreSound, SoundListsRun, LongerIsSound}
use Rattle.shared_lists.proofs.Pairs.{state_seen-step, state_seen-else}

pub sound_split : (p : Program) (w : ℕ) (before xs ys : List (ℕ × ℕ)) → IsSoundAfter p w before (xs ++ ys)
    → IsSoundAfter p w before xs × IsSoundAfter p w (before ++ xs) ys
sound_split p w before [] ys sound = (tt, subst (λ (b : List (ℕ × ℕ)). IsSoundAfter p w b ys) (sym (append-nil before)) sound)
sound_split p w before (x ∷ xs) ys sound =
    let rest = sound_split p w (before ++ x ∷ []) xs ys sound.1 in
    ((sound.0, rest.0), subst (λ (b : List (ℕ × ℕ)). IsSoundAfter p w b ys) (append_assoc before (x ∷ []) xs) rest.1)

pub sound_join : (p : Program) (w : ℕ) (before xs ys : List (ℕ × ℕ)) → IsSoundAfter p w before xs → IsSoundAfter p w (before ++ xs) ys
    → IsSoundAfter p w before (xs ++ ys)
sound_join p w before [] ys first second = subst (λ (b : List (ℕ × ℕ)). IsSoundAfter p w b ys) (append-nil before) second
sound_join p w before (x ∷ xs) ys first second = (
  first.0,
  sound_join p w (before ++ x ∷ []) xs ys first.1
      (subst (λ (b : List (ℕ × ℕ)). IsSoundAfter p w b ys) (sym (append_assoc before (x ∷ []) xs)) second),
)

pub sound_push : SoundListsGrow
sound_push p w pairs c number sound may = sound_join p w [] pairs ((c, number) ∷ []) sound (may, tt)

pub sound_fronts : FrontsAreSound
sound_fronts p w pairs later sound = sound_split p w [] pairs later sound

runs_after : (p : Program) (w : ℕ) (before pairs : List (ℕ × ℕ)) → IsSoundAfter p w before pairs → IsDefined p w (state_seen p before) (moves pairs)
runs_after p w before [] sound = tt
runs_after p w before ((c, zero) ∷ pairs) sound = (
  sound.0.0,
  subst (λ (s : State). IsDefined p w s (moves pairs)) (state_seen-step p before c) (runs_after p w (before ++ (c, zero) ∷ []) pairs sound.1),
)
runs_after p w before ((c, suc n) ∷ pairs) sound =
    subst (λ (s : State). IsDefined p w s (moves pairs)) (state_seen-else p before c n) (runs_after p w (before ++ (c, suc n) ∷ []) pairs sound.1)

pub sound_runs : SoundListsRun
sound_runs p w pairs sound = runs_after p w [] pairs sound

-- the steps behind a front are a run from the state after it
pub runs_since : (p : Program) (w : ℕ) (pairs since : List (ℕ × ℕ)) → IsSound p w (pairs ++ since) → IsDefined p w (state_seen p pairs) (moves since)
runs_since p w pairs since sound = runs_after p w pairs since (sound_split p w [] pairs since sound).1

pub sound_longer : LongerIsSound
sound_longer p w one other first second = by_test (nat_le (length other) (length one)) where
  by_test : (b : Bool) → IsSound p w (cond b one other)
  by_test true = first
  by_test false = second
