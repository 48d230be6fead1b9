-- The statements that stand outside tasks, and those that stand anywhere.
use Rattle.std.proofs.Common.{◌≡◌, ◌≢◌, ℕ, zero, suc, ◌+◌, ◌<◌, ◌≤◌, Bool, true, false, List, [], ◌∷◌, ◌++◌, length, get_or, Option, Some, None}
use Rattle.std.proofs.Common.{Result, Ok, Err, refl, sym, ap, ◌∙◌, subst, arith, length-append}
use Rattle.std.specs.Prelude.{All, AllPairs, sum, ℤ, nat_eq}
use Rattle.std.specs.List.{list_any}
use Rattle.std.proofs.lemmas.Bool.Decides.{nat_tests}
use Rattle.std.proofs.lemmas.List.Elements.{All-weaker, All-push, All-get_or}
use Rattle.std.proofs.lemmas.List.Quantifiers.{all_pairs_push}
use Rattle.std.proofs.lemmas.List.Sums.{sum_by_push}
use Rattle.rt_base.specs.declared.data.FaultKind.TheVariants as fault
use Rattle.rt_base.specs.declared.data.LimitName.TheVariants as limit
use Rattle.rt_base.specs.declared.data.Access.{Access}
use Rattle.rt_base.specs.declared.data.Op.{Op}
use Rattle.rt_base.specs.declared.data.TaskDef.{TaskDef}
use Rattle.rt_base.specs.declared.data.Program.{Program}
use Rattle.rt_base.specs.WellFormed.{IsTask}
use Rattle.task_tree.specs.Term.{Term}
use Rattle.task_names.specs.declared.meaning.Meaning.{Meaning}
use Rattle.task_names.specs.declared.meaning.Meaning.TheVariants as meaning
use Rattle.task_names.specs.Scopes.{Names, meaning_of, with_meaning, as_array, may_be_set, may_be_made}
use Rattle.task_names.specs.Values.{value}
use Rattle.task_unroll.specs.Unrolling.{at}
use Rattle.task_unroll.specs.States.{Counts, State, scene}
use Rattle.task_unroll.specs.Counting.{kept, stepped}
use Rattle.task_unroll.specs.Checks.{check, passed}
use Rattle.task_unroll.specs.Acts.{sized, with_variable, variable_set, taskwait_met, shown, array_made, comm_made}
use Rattle.task_unroll.proofs.Results.{Holds, passed_first}
use Rattle.task_unroll.proofs.Cells.{both_false}
use Rattle.task_unroll.proofs.Chains.{at_step, stepped_leaves, bind_at, bind_kept, bind_stepped}
use Rattle.task_unroll.proofs.Sound.{Stage, Continues, HasArrays, HasCounts, InTurn, IsBegun, HasNames, IsSound, IsMain, continues_less}
use Rattle.task_unroll.proofs.KeptNames.{array_is, names_with, names_weaker}

counts_step : (opened n : ℕ) (counts : Counts) (tasks : List TaskDef) (accesses : List Access) (body : List Op) → HasCounts opened counts tasks accesses body
    → HasCounts opened (record counts { steps = n }) tasks accesses body
counts_step opened n counts tasks accesses body has = record {
  task_count = has.task_count;
  access_count = has.access_count;
  few_accesses = has.few_accesses;
  access_cells = has.access_cells;
  few_access_cells = has.few_access_cells;
  operations = has.operations;
  few_operations = has.few_operations;
  requests = has.requests;
  few_requests = has.few_requests;
  handles = has.handles;
  few_handles = has.few_handles;
  message_cells = has.message_cells;
  few_message_cells = has.few_message_cells;
}

-- a step changes nothing that is kept
pub step_sound : (g : Stage) (n : ℕ) (s : State) → IsSound g s → IsSound g (at_step n s)
step_sound g n s sound = record {
  rank = sound.rank;
  size = sound.size;
  below = sound.below;
  arrays = sound.arrays;
  counts = counts_step g.opened n s.counts s.tasks s.accesses s.body sound.counts;
  turn = sound.turn;
  tasks = sound.tasks;
  begun = sound.begun;
  names = sound.names;
  before = sound.before;
}

-- a variable changes no request
pub with_variable_sound : (g : Stage) (name : List ℕ) (x : ℤ) (s : State) → IsSound g s → IsSound g (with_variable name x s)
with_variable_sound g name x s sound = record {
  rank = sound.rank;
  size = sound.size;
  below = sound.below;
  arrays = sound.arrays;
  counts = sound.counts;
  turn = sound.turn;
  tasks = sound.tasks;
  begun = sound.begun;
  names = names_with g.arrays g.comms s.names s.body name (meaning.Variable x) sound.names tt (λ n is. absurd (cc));
  before = sound.before;
}

-- the facts of a state that a statement in no task and in every task keeps
pub record Kept (g : Stage) (s t : State) : Type 0 where
  pub sound : IsSound g t
  pub accesses : t.accesses ≡ s.accesses
  pub body : t.body ≡ s.body

pub variable_set_sound : (g : Stage) (line : ℕ) (name : List ℕ) (e : Term) (s : State) → IsSound g s → Holds (Kept g s) (variable_set line name e s)
unfolding variable_set
variable_set_sound g line name e s sound = bind_stepped (Kept g s) s _ (λ n.
    bind_at (Kept g s) line (may_be_set (meaning_of s.names name)) _ (λ free is.
    bind_at (Kept g s) line (value (scene (at_step n s)) e) _ (λ x value_is.
    record { sound = with_variable_sound g name x (at_step n s) (step_sound g n s sound); accesses = refl; body = refl })))

turn_later : (rank epoch : ℕ) (tasks : List TaskDef) → InTurn rank epoch tasks → InTurn rank (epoch + 1) tasks
turn_later rank epoch tasks turn = record {
  order = turn.order;
  past = All-weaker (λ (task : TaskDef). (task.rank ≤ rank) × (task.rank ≡ rank → task.epoch ≤ epoch)) (λ (task : TaskDef). (task.rank ≤ rank)
      × (task.rank ≡ rank → task.epoch ≤ epoch + 1))
      (λ task was. (was.0, λ same. let below = was.1 same in omega arith)) tasks turn.past;
}

pub taskwait_met_sound : (g : Stage) (s : State) → IsSound g s → Holds (Kept g s) (taskwait_met s)
unfolding taskwait_met
taskwait_met_sound g s sound = bind_stepped (Kept g s) s _ (λ n.
    let step = step_sound g n s sound in
    record {
      sound = record {
        rank = step.rank;
        size = step.size;
        below = step.below;
        arrays = step.arrays;
        counts = step.counts;
        turn = turn_later s.rank s.epoch s.tasks step.turn;
        tasks = step.tasks;
        begun = step.begun;
        names = step.names;
        before = step.before;
      };
      accesses = refl;
      body = refl;
    })

-- a number that stands nowhere in a list differs from each
pub none_same : (array : ℕ) (shows : List ℕ) → list_any (nat_eq array) shows ≡ false → (k d : ℕ) → k < length shows → get_or shows k d ≢ array
none_same array [] none k d below = absurd (omega arith)
none_same array (x ∷ shows) none zero d below =
    let first = (both_false (nat_eq array x) (list_any (nat_eq array) shows) none).0 in
    λ same. absurd (grind (arith, nat_tests))
none_same array (x ∷ shows) none (suc k) d below = none_same array shows (both_false (nat_eq array x) (list_any (nat_eq array) shows) none).1 k d (omega arith)

pub shown_sound : (g : Stage) (line : ℕ) (name : List ℕ) (s : State) → IsSound g s → Holds (Kept g s) (shown line name s)
unfolding shown
shown_sound g line name s sound = bind_stepped (Kept g s) s _ (λ n.
    bind_at (Kept g s) line (as_array (meaning_of s.names name)) _ (λ array array_of.
    bind_at (Kept g s) line (passed (check fault.NameTaken (list_any (nat_eq array) s.shows) ∷ [])) _ (λ once is.
    let step = step_sound g n s sound in
    let arrays = sound.arrays in
    let below : array < g.arrays = sound.names.fit name (meaning.Array array) (array_is (meaning_of s.names name) array array_of) in
    let none = (passed_first (check fault.NameTaken (list_any (nat_eq array) s.shows)) [] tt is).0 in
    record {
      sound = record {
        rank = step.rank;
        size = step.size;
        below = step.below;
        arrays = record {
          count = arrays.count;
          each_len = arrays.each_len;
          few = arrays.few;
          sum_cells = arrays.sum_cells;
          few_cells = arrays.few_cells;
          shown = All-push (λ (a : ℕ). a < g.arrays) s.shows array arrays.shown below;
          once = all_pairs_push (λ (one other : ℕ). one ≢ other) s.shows array arrays.once (none_same array s.shows none);
          comm_count = arrays.comm_count;
          some_comm = arrays.some_comm;
          few_comms = arrays.few_comms;
        };
        counts = step.counts;
        turn = step.turn;
        tasks = step.tasks;
        begun = step.begun;
        names = step.names;
        before = step.before;
      };
      accesses = refl;
      body = refl;
    })))
