-- The statements that make arrays and communicators.
use Rattle.std.proofs.Common.{◌≡◌, ◌≢◌, ℕ, zero, suc, ◌+◌, ◌<◌, ◌≤◌, Bool, true, false, List, [], ◌∷◌, ◌++◌, length, get_or, Option, Some, None}
use Rattle.std.proofs.Common.{Result, Ok, Err, refl, sym, ap, ◌∙◌, subst, arith, length-append}
use Rattle.std.specs.Prelude.{All, AllPairs, sum, ℤ}
use Rattle.std.proofs.lemmas.List.{append-nil}
use Rattle.std.proofs.lemmas.List.Elements.{All-weaker}
use Rattle.std.proofs.lemmas.List.Sums.{sum_by_push}
use Rattle.rt_base.specs.declared.data.FaultKind.TheVariants as fault
use Rattle.rt_base.specs.declared.data.LimitName.TheVariants as limit
use Rattle.rt_base.specs.declared.data.Access.{Access}
use Rattle.rt_base.specs.declared.data.Op.{Op}
use Rattle.rt_base.specs.declared.data.TaskDef.{TaskDef}
use Rattle.rt_base.specs.declared.data.Program.{Program}
use Rattle.rt_base.specs.WellFormed.{IsTask}
use Rattle.task_tree.specs.Term.{Term}
use Rattle.task_names.specs.declared.meaning.Meaning.{Meaning}
use Rattle.task_names.specs.declared.meaning.Meaning.TheVariants as meaning
use Rattle.task_names.specs.Scopes.{Names, meaning_of, with_meaning, as_array, may_be_set, may_be_made}
use Rattle.task_names.specs.Values.{value}
use Rattle.task_unroll.specs.Unrolling.{at}
use Rattle.task_unroll.specs.States.{Counts, State, scene}
use Rattle.task_unroll.specs.Counting.{kept, stepped}
use Rattle.task_unroll.specs.Acts.{sized, array_made, comm_made}
use Rattle.task_unroll.proofs.Results.{Holds}
use Rattle.task_unroll.proofs.Chains.{at_step, bind_at, bind_kept, bind_stepped}
use Rattle.task_unroll.proofs.Sound.{Stage, Continues, HasArrays, HasCounts, InTurn, IsBegun, AreTasks, HasNames, IsSound, IsMain, continues_less}
use Rattle.task_unroll.proofs.KeptNames.{names_with, names_weaker}
use Rattle.task_unroll.proofs.Outer.{step_sound}

-- the tasks and the open task stay right, as arrays and communicators are made
tasks_more : (g : Stage) (rank size comms more : ℕ) (lens rest : List ℕ) (tasks : List TaskDef) → comms ≤ more → AreTasks g rank size comms lens tasks
    → AreTasks g rank size more (lens ++ rest) tasks
tasks_more g rank size comms more lens rest tasks above are p c = are p (continues_less g.prior rank size comms more lens rest p above c)

begun_more : (prior : List ℕ) (rank size comms more : ℕ) (lens rest : List ℕ) (accesses : List Access) (body : List Op) → comms ≤ more
    → IsBegun prior rank size comms lens accesses body → IsBegun prior rank size more (lens ++ rest) accesses body
begun_more prior rank size comms more lens rest accesses body above begun = record {
  regions = λ p c. begun.regions p (continues_less prior rank size comms more lens rest p above c);
  apart = begun.apart;
  operations = λ p c. begun.operations p (continues_less prior rank size comms more lens rest p above c);
  follows = begun.follows;
}

-- the rank has one more array
abbrev pub one_array : Stage → Stage
one_array g = record g { arrays = g.arrays + 1 }

arrays_more : (g : Stage) (cells : ℕ) (arrays : List (List ℕ)) (lens shows : List ℕ) (comms : ℕ) (name : List ℕ) (size : ℕ) → length arrays + 1 ≤ 1024
    → cells + size ≤ 16777216
    → HasArrays g cells arrays lens shows comms → HasArrays (one_array g) (cells + size) (arrays ++ name ∷ []) (lens ++ size ∷ []) shows comms
arrays_more g cells arrays lens shows comms name size few few_cells has =
    let count = has.count in
    let each_len = has.each_len in
    let sum_cells = has.sum_cells in
    record {
      count = omega (arith, length-append arrays (name ∷ []), count);
      each_len = omega (arith, length-append lens (size ∷ []), each_len);
      few = omega (arith, count, few);
      sum_cells = omega (arith, sum_by_push (λ (x : ℕ). x) lens size, sum_cells);
      few_cells = few_cells;
      shown = All-weaker (λ (a : ℕ). a < g.arrays) (λ (a : ℕ). a < g.arrays + 1) (λ a below. omega arith) shows has.shown;
      once = has.once;
      comm_count = has.comm_count;
      some_comm = has.some_comm;
      few_comms = has.few_comms;
    }

-- what holds outside tasks, and nothing is open
pub array_made_sound : (g : Stage) (line : ℕ) (name : List ℕ) (len : Term) (s : State) → IsMain g s → Holds (IsMain (one_array g)) (array_made line name len s)
unfolding array_made
array_made_sound g line name len s main = bind_stepped (IsMain (one_array g)) s _ (λ n.
    bind_at (IsMain (one_array g)) line (may_be_made (meaning_of s.names name)) _ (λ free free_is.
    bind_at (IsMain (one_array g)) line (value (scene (at_step n s)) len) _ (λ number number_is.
    bind_at (IsMain (one_array g)) line (sized number) _ (λ size size_is.
    bind_kept (IsMain (one_array g)) limit.Arrays (length s.arrays + 1) _ (λ few.
    bind_kept (IsMain (one_array g)) limit.Cells (s.counts.cells + size) _ (λ few_cells.
    let sound = main.sound in
    let step = step_sound g n s sound in
    let count = sound.arrays.count in
    record {
      sound = record {
        rank = step.rank;
        size = step.size;
        below = step.below;
        arrays = arrays_more g s.counts.cells s.arrays s.lens s.shows s.comms name size few few_cells sound.arrays;
        counts = record {
          task_count = step.counts.task_count;
          access_count = step.counts.access_count;
          few_accesses = step.counts.few_accesses;
          access_cells = step.counts.access_cells;
          few_access_cells = step.counts.few_access_cells;
          operations = step.counts.operations;
          few_operations = step.counts.few_operations;
          requests = step.counts.requests;
          few_requests = step.counts.few_requests;
          handles = step.counts.handles;
          few_handles = step.counts.few_handles;
          message_cells = step.counts.message_cells;
          few_message_cells = step.counts.few_message_cells;
        };
        turn = step.turn;
        tasks = tasks_more g s.rank s.size s.comms s.comms s.lens (size ∷ []) s.tasks (omega arith) step.tasks;
        begun = begun_more g.prior s.rank s.size s.comms s.comms s.lens (size ∷ []) s.accesses s.body (omega arith) step.begun;
        names = names_with (g.arrays + 1) g.comms s.names s.body name (meaning.Array (length s.arrays))
            (names_weaker g.arrays g.comms (g.arrays + 1) g.comms s.names s.body (omega arith) (omega arith) step.names) (omega (
              arith,
              count,
            )) (λ k is. absurd (cc));
        before = names_weaker g.arrays g.comms (g.arrays + 1) g.comms s.before [] (omega arith) (omega arith) step.before;
      };
      no_accesses = main.no_accesses;
      no_body = main.no_body;
      closed = main.closed;
    }))))))

-- the rank has one more communicator
abbrev pub one_comm : Stage → Stage
one_comm g = record g { comms = g.comms + 1 }

pub comm_made_sound : (g : Stage) (line : ℕ) (name : List ℕ) (s : State) → IsMain g s → Holds (IsMain (one_comm g)) (comm_made line name s)
unfolding comm_made
comm_made_sound g line name s main = bind_stepped (IsMain (one_comm g)) s _ (λ n.
    bind_at (IsMain (one_comm g)) line (may_be_made (meaning_of s.names name)) _ (λ free free_is.
    bind_kept (IsMain (one_comm g)) limit.Comms (s.comms + 1) _ (λ few.
    let sound = main.sound in
    let step = step_sound g n s sound in
    let arrays = sound.arrays in
    let comm_count = arrays.comm_count in
    let tasks = tasks_more g s.rank s.size s.comms (s.comms + 1) s.lens [] s.tasks (omega arith) step.tasks in
    let begun = begun_more g.prior s.rank s.size s.comms (s.comms + 1) s.lens [] s.accesses s.body (omega arith) step.begun in
    record {
      sound = record {
        rank = step.rank;
        size = step.size;
        below = step.below;
        arrays = record {
          count = arrays.count;
          each_len = arrays.each_len;
          few = arrays.few;
          sum_cells = arrays.sum_cells;
          few_cells = arrays.few_cells;
          shown = arrays.shown;
          once = arrays.once;
          comm_count = omega (arith, comm_count);
          some_comm = omega arith;
          few_comms = omega (arith, comm_count, few);
        };
        counts = step.counts;
        turn = step.turn;
        tasks = subst (λ (lens : List ℕ). AreTasks g s.rank s.size (s.comms + 1) lens s.tasks) (append-nil s.lens) tasks;
        begun = subst (λ (lens : List ℕ). IsBegun g.prior s.rank s.size (s.comms + 1) lens s.accesses s.body) (append-nil s.lens) begun;
        names = names_with g.arrays (g.comms + 1) s.names s.body name (meaning.Communicator s.comms)
            (names_weaker g.arrays g.comms g.arrays (g.comms + 1) s.names s.body (omega arith) (omega arith) step.names) (omega (
              arith,
              comm_count,
            )) (λ k is. absurd (cc));
        before = names_weaker g.arrays g.comms g.arrays (g.comms + 1) s.before [] (omega arith) (omega arith) step.before;
      };
      no_accesses = main.no_accesses;
      no_body = main.no_body;
      closed = main.closed;
    })))
