-- What a longer list leaves: tasks that did nothing, complete requests, and quiet.
use Rattle.std.proofs.Common.{◌≡◌, ◌≢◌, ℕ, zero, suc, ◌<◌, true, List, [], ◌∷◌, length, Option, Some, option_map, refl, sym, ap, ◌∙◌, subst, arith, eq-eqb}
use Rattle.std.specs.Prelude.{⊤}
use Rattle.rt_base.specs.declared.data.ReqNo.{ReqNo}
use Rattle.rt_base.specs.declared.data.Phase.TheVariants as phase
use Rattle.rt_base.specs.declared.data.Program.{Program}
use Rattle.rt_base.specs.Completion.{is_complete}
use Rattle.rt_base.specs.State.{State, Task, opening, waiting_task, phase_of}
use Rattle.task_machine.specs.Machine.{step}
use Rattle.task_machine.specs.Legal.{IsDefined, IsQuiet, state_after}
use Rattle.task_machine.proofs.Items.{at_replicate}
use Rattle.task_machine.proofs.Others.{leaves_others, complete_stays, enabled_stays, polls_follow}
use Rattle.pass_table.specs.Passes.{times}
use Rattle.shared_lists.specs.Deeds.{moves, state_seen}
use Rattle.shared_lists.specs.Said.{IsStill}
use Rattle.shared_lists.specs.Laws.{OthersLeaveTasks, RecordsStandOn, CompleteSince, NewCallersWait, QuietStays}
use Rattle.shared_lists.proofs.Pairs.{state_seen-append}
use Rattle.shared_lists.proofs.Fronts.{runs_since, sound_runs}

-- the task is none of these callers
abbrev IsAbsent : ℕ → List ℕ → Type 0
IsAbsent t [] = ⊤
IsAbsent t (c ∷ cs) = (t ≢ c) × IsAbsent t cs

not_first : (t c number : ℕ) (pairs : List (ℕ × ℕ)) → times t ((c, number) ∷ pairs) ≡ 0 → t ≢ c
not_first t c number pairs none same =
    let once : times t ((c, number) ∷ []) ≡ 1 = rw (eq-eqb c t (sym same)) (omega arith) in absurd (omega (arith, once, none))

absent : (t : ℕ) (pairs : List (ℕ × ℕ)) → times t pairs ≡ 0 → IsAbsent t (moves pairs)
absent t [] none = tt
absent t ((c, zero) ∷ pairs) none = (not_first t c zero pairs none, absent t pairs (omega (arith, none)))
absent t ((c, suc n) ∷ pairs) none = absent t pairs (omega (arith, none))

-- what others do takes nothing from a task
others_leave : (p : Program) (w : ℕ) (s : State) (cs : List ℕ) (t : ℕ) → IsDefined p w s cs → IsAbsent t cs → IsStill p t s (state_after p s cs)
others_leave p w s [] t runs none = record { task = refl; may = λ may. may }
others_leave p w s (c ∷ cs) t runs none =
    let rest = others_leave p w (step p s c).state cs t runs.1 none.1 in
    record {
      task = rest.task ∙ leaves_others p w s c runs.0 t none.0;
      may = λ may. rest.may (enabled_stays p w s c runs.0 t none.0 may);
    }

pub still_since : OthersLeaveTasks
still_since p w pairs since sound t none =
    subst (IsStill p t (state_seen p pairs)) (sym (state_seen-append p pairs since))
    (others_leave p w (state_seen p pairs) (moves since) t (runs_since p w pairs since sound) (absent t since none))

pub stands_on : RecordsStandOn
stands_on p held old new stands still = record {
  same = stands.same;
  def = stands.def;
  task = stands.task;
  is_def = stands.is_def;
  is_task = still.task ∙ stands.is_task;
  stands = stands.stands;
}

complete_after : (p : Program) (w : ℕ) (s : State) (cs : List ℕ) (req : ReqNo) → IsDefined p w s cs → is_complete p s.exchange req ≡ true
    → is_complete p (state_after p s cs).exchange req ≡ true
complete_after p w s [] req runs complete = complete
complete_after p w s (c ∷ cs) req runs complete = complete_after p w (step p s c).state cs req runs.1 (complete_stays p w s c runs.0 req complete)

pub complete_since : CompleteSince
complete_since p w pairs since sound req complete =
    subst (λ (s : State). is_complete p s.exchange req ≡ true) (sym (state_seen-append p pairs since))
    (complete_after p w (state_seen p pairs) (moves since) req (runs_since p w pairs since sound) complete)

pub quiet_since : QuietStays
quiet_since p w pairs since sound quiet =
    subst (IsQuiet p) (sym (state_seen-append p pairs since))
    ((polls_follow p w (state_seen p pairs) (moves since) quiet (runs_since p w pairs since sound)).2)

-- at the opening all tasks wait
pub waits_first : (p : Program) (t : ℕ) → t < length p.tasks.items → phase_of (opening p) t ≡ Some phase.Waiting
waits_first p t exists = ap (λ (o : Option Task). option_map (λ (task : Task). task.phase) o) (at_replicate (length p.tasks.items) waiting_task t exists)

pub new_waits : NewCallersWait
new_waits p w pairs sound t exists none =
    let still = others_leave p w (opening p) (moves pairs) t (sound_runs p w pairs sound) (absent t pairs none) in
    ap (λ (o : Option Task). option_map (λ (task : Task). task.phase) o) still.task ∙ waits_first p t exists
