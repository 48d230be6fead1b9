-- One more operation of the open task keeps what is kept of the state.
use Rattle.std.proofs.Common.{◌≡◌, ◌≢◌, ℕ, zero, suc, ◌+◌, ◌*◌, ◌<◌, ◌≤◌, Bool, true, false, List, [], ◌∷◌, ◌++◌, length, Option, Some, None, Result}
use Rattle.std.proofs.Common.{Ok, Err, refl, sym, ap, ◌∙◌, subst, inl, inr, arith, length-append}
use Rattle.std.specs.Prelude.{All, sum_by, if◌then◌else◌}
use Rattle.std.proofs.lemmas.List.Elements.{All-push}
use Rattle.std.proofs.lemmas.List.Sums.{sum_by_push}
use Rattle.rt_base.specs.declared.data.Access.{Access}
use Rattle.rt_base.specs.declared.data.Op.{Op}
use Rattle.rt_base.specs.declared.data.TaskDef.{TaskDef}
use Rattle.rt_base.specs.declared.data.Program.{Program}
use Rattle.rt_base.specs.Operations.{is_posting, postings}
use Rattle.rt_base.specs.InUse.{posts}
use Rattle.rt_base.specs.WellFormed.{IsOperation, NamesOpen, Follows, names_of, cells_sent}
use Rattle.task_names.specs.Scopes.{Names}
use Rattle.task_unroll.specs.States.{Counts, State}
use Rattle.task_unroll.specs.Checks.{Check}
use Rattle.task_unroll.proofs.Bodies.{last_or_before}
use Rattle.task_unroll.proofs.Chains.{at_operation, Operated, Tested, at_done}
use Rattle.task_unroll.proofs.Sound.{Stage, Continues, HasCounts, IsBegun, HasNames, IsSound, IsInside}
use Rattle.task_unroll.proofs.Placed.{Passes, passes_of, HasOperands, is_operation}

follows_more : (accesses : List Access) (body : List Op) (operation : Op)
    → ((earlier later : List Op) (o : Op) → body ≡ earlier ++ o ∷ later → Follows accesses earlier o) → Follows accesses body operation
    → (earlier later : List Op) (o : Op) → body ++ operation ∷ [] ≡ earlier ++ o ∷ later → Follows accesses earlier o
follows_more accesses body operation each last earlier later o is = elim (last_or_before body earlier later operation o is) [
  | inl same ↦ subst (λ (x : Op). Follows accesses earlier x) same.1 (subst (λ (xs : List Op). Follows accesses xs operation) same.0 last)
  | inr before ↦ each earlier before.0 o before.1
]

begun_grows : (prior : List ℕ) (rank size comms : ℕ) (lens : List ℕ) (accesses : List Access) (body : List Op) (handles : Check) (operation : Op)
    → HasOperands size comms lens operation
    → Passes accesses body handles operation → NamesOpen body operation → IsBegun prior rank size comms lens accesses body
    → IsBegun prior rank size comms lens accesses (body ++ operation ∷ [])
begun_grows prior rank size comms lens accesses body handles operation has passes names begun = record {
  regions = begun.regions;
  apart = begun.apart;
  operations = λ p c task same_rank same_accesses. All-push (IsOperation p task) body operation (begun.operations p c task same_rank same_accesses)
      (is_operation prior size comms lens p task body handles operation (subst (λ (r : ℕ). Continues prior r size comms lens p) (sym same_rank) c) has
      (subst (λ (xs : List Access). Passes xs body handles operation) (sym same_accesses) passes));
  follows = follows_more accesses body operation begun.follows (record { handles = names; free = passes.free });
}

counts_grow : (opened n requests handles : ℕ) (counts : Counts) (tasks : List TaskDef) (accesses : List Access) (body : List Op) (operation : Op)
    → requests ≡ posts operation → handles ≡ names_of operation → counts.operations + 1 ≤ 1048576 → counts.requests + requests ≤ 262144
    → counts.handles + handles ≤ 1048576
    → counts.message_cells + cells_sent operation ≤ 67108864 → HasCounts opened counts tasks accesses body
    → HasCounts opened (record counts {
      steps = n;
      operations = counts.operations + 1;
      requests = counts.requests + requests;
      handles =
          counts.handles + handles;
      message_cells = counts.message_cells + cells_sent operation;
    })
    tasks accesses (body ++ operation ∷ [])
counts_grow opened n requests handles counts tasks accesses body operation posted named few_operations few_requests few_handles few_cells has =
    let operations = has.operations in
    let old_requests = has.requests in
    let old_handles = has.handles in
    let cells = has.message_cells in
    let more = length-append body (operation ∷ []) in
    let more_requests : postings (body ++ operation ∷ []) ≡ postings body + posts operation =
    sum_by_push (λ (o : Op). if is_posting o then 1 else 0) body operation in
    let more_handles = sum_by_push names_of body operation in
    let more_cells = sum_by_push cells_sent body operation in
    record {
      task_count = has.task_count;
      access_count = has.access_count;
      few_accesses = has.few_accesses;
      access_cells = has.access_cells;
      few_access_cells = has.few_access_cells;
      operations = omega (arith, operations, more);
      few_operations = few_operations;
      requests = omega (arith, old_requests, more_requests, posted);
      few_requests = few_requests;
      handles = omega (arith, old_handles, more_handles, named);
      few_handles = few_handles;
      message_cells = omega (arith, cells, more_cells);
      few_message_cells = few_cells;
    }

-- the state with the operation, and with what its names mean then
abbrev pub grown : ℕ → ℕ → ℕ → Op → Names → List ℕ → State → State
grown n requests handles operation names lines s = record (at_done operation (at_operation n requests handles s)) { names = names; lines = lines }

pub grown_sound : (g : Stage) (n requests handles : ℕ) (s : State) (test : Check) (operation : Op) (names : Names) (lines : List ℕ) → IsInside g s
    → Operated requests handles s (at_operation n requests handles s) → Tested test operation (at_operation n requests handles s)
    → HasOperands s.size s.comms s.lens operation → NamesOpen s.body operation → requests ≡ posts operation → handles ≡ names_of operation
    → HasNames g.arrays g.comms names (s.body ++ operation ∷ []) → IsInside g (grown n requests handles operation names lines s)
grown_sound g n requests handles s test operation names lines inside counted tested has open_names posted named fit =
    let sound = inside.sound in
    record {
      sound = record {
        rank = sound.rank;
        size = sound.size;
        below = sound.below;
        arrays = sound.arrays;
        counts = counts_grow g.opened n requests handles s.counts s.tasks s.accesses s.body operation posted named counted.operations counted.posted
            counted.named tested.cells sound.counts;
        turn = sound.turn;
        tasks = sound.tasks;
        begun = begun_grows g.prior s.rank s.size s.comms s.lens s.accesses s.body test operation has (passes_of s.accesses s.body test operation tested.fine)
            open_names sound.begun;
        names = fit;
        before = sound.before;
      };
      one = inside.one;
    }
