-- A task ends.
use Rattle.std.proofs.Common.{◌≡◌, ◌≢◌, ℕ, zero, suc, ◌+◌, ◌<◌, ◌≤◌, Bool, true, false, List, [], ◌∷◌, ◌++◌, length, get_or, Option, Some, None}
use Rattle.std.proofs.Common.{Result, Ok, Err, refl, sym, ap, ◌∙◌, subst, arith, length-append}
use Rattle.std.specs.Prelude.{All, AllPairs, sum, sum_by, ⊤}
use Rattle.std.proofs.lemmas.List.Elements.{All-push, All-nil}
use Rattle.std.proofs.lemmas.List.Quantifiers.{all_pairs_push}
use Rattle.std.proofs.lemmas.List.Sums.{sum_by_push}
use Rattle.rt_base.specs.declared.data.Access.{Access}
use Rattle.rt_base.specs.declared.data.Op.{Op}
use Rattle.rt_base.specs.declared.data.TaskDef.{TaskDef}
use Rattle.rt_base.specs.declared.data.Program.{Program}
use Rattle.rt_base.specs.Spans.{span_len, Overlaps}
use Rattle.rt_base.specs.Operations.{postings}
use Rattle.rt_base.specs.InUse.{left_after}
use Rattle.rt_base.specs.WellFormed.{IsSpan, IsOperation, Follows, InOrder, region_cells, over_operations, names_of, cells_sent, IsTask}
use Rattle.task_unroll.specs.Unrolling.{at}
use Rattle.task_unroll.specs.States.{Counts, State}
use Rattle.task_unroll.specs.Acts.{listed, none_left, task_ended}
use Rattle.task_unroll.proofs.Results.{Holds, bind}
use Rattle.task_unroll.proofs.Sound.{none_follow, Stage, Continues, HasArrays, HasCounts, InTurn, IsBegun, AreTasks, HasNames, IsSound, IsMain, IsInside}
use Rattle.task_unroll.proofs.Opening.{closing}

nothing_left : (lines left : List ℕ) (u : ⊤) → none_left lines left ≡ Ok u → left ≡ []
nothing_left lines [] u is = refl
nothing_left lines (n ∷ more) u is = absurd (cc)

-- the task that the state has open
abbrev pub ended : ℕ → State → TaskDef
ended line s = record { rank = s.rank; line = line; epoch = s.epoch; accesses = listed s.accesses; body = listed s.body }

counts_end : (line : ℕ) (s : State) → HasCounts 1 s.counts s.tasks s.accesses s.body → HasCounts 0 s.counts (s.tasks ++ ended line s ∷ []) [] []
counts_end line s has =
    let task_count = has.task_count in
    let more_tasks = length-append s.tasks (ended line s ∷ []) in
    let access_count = has.access_count in
    let more_accesses = sum_by_push (λ (task : TaskDef). length task.accesses.items) s.tasks (ended line s) in
    let access_cells = has.access_cells in
    let more_access_cells = sum_by_push region_cells s.tasks (ended line s) in
    let operations = has.operations in
    let more_operations = sum_by_push (λ (task : TaskDef). length task.body.items) s.tasks (ended line s) in
    let requests = has.requests in
    let more_requests = sum_by_push (λ (task : TaskDef). postings task.body.items) s.tasks (ended line s) in
    let handles = has.handles in
    let more_handles = sum_by_push (λ (task : TaskDef). sum_by names_of task.body.items) s.tasks (ended line s) in
    let cells = has.message_cells in
    let more_cells = sum_by_push (λ (task : TaskDef). sum_by cells_sent task.body.items) s.tasks (ended line s) in
    record {
      task_count = omega (arith, task_count, more_tasks);
      access_count = omega (arith, access_count, more_accesses);
      few_accesses = has.few_accesses;
      access_cells = omega (arith, access_cells, more_access_cells);
      few_access_cells = has.few_access_cells;
      operations = omega (arith, operations, more_operations);
      few_operations = has.few_operations;
      requests = omega (arith, requests, more_requests);
      few_requests = has.few_requests;
      handles = omega (arith, handles, more_handles);
      few_handles = has.few_handles;
      message_cells = omega (arith, cells, more_cells);
      few_message_cells = has.few_message_cells;
    }

turn_ended : (line : ℕ) (s : State) → InTurn s.rank s.epoch s.tasks → InTurn s.rank s.epoch (s.tasks ++ ended line s ∷ [])
turn_ended line s turn = record {
  order = all_pairs_push InOrder s.tasks (ended line s) turn.order turn.past;
  past = All-push (λ (task : TaskDef). (task.rank ≤ s.rank) × (task.rank ≡ s.rank → task.epoch ≤ s.epoch)) s.tasks (ended line s) turn.past (
    omega arith,
    λ same. omega arith,
  );
}

is_task : (g : Stage) (line : ℕ) (s : State) (p : Program) → left_after 0 s.body ≡ [] → IsSound g s → Continues g.prior s.rank s.size s.comms s.lens p
    → IsTask p (ended line s)
is_task g line s p none sound c =
    let below = sound.below in
    let ranks = c.ranks in
    record {
      rank = omega (arith, below, ranks);
      regions = sound.begun.regions p c;
      apart = sound.begun.apart;
      body = sound.begun.operations p c (ended line s) refl refl;
      follows = sound.begun.follows;
      none_left = none;
    }

pub begun_none : (prior : List ℕ) (rank size comms : ℕ) (lens : List ℕ) → IsBegun prior rank size comms lens [] []
begun_none prior rank size comms lens = record {
  regions = λ p c. All-nil (λ (access : Access). IsSpan p rank access.span);
  apart = λ i j d low high. absurd (omega arith);
  operations = λ p c task same_rank same_accesses. All-nil (IsOperation p task);
  follows = none_follow [] [] refl;
}

pub task_ended_sound : (g : Stage) (line : ℕ) (s : State) → IsInside g s → Holds (IsMain (closing g)) (task_ended line s)
unfolding task_ended
task_ended_sound g line s inside = bind (IsMain (closing g)) (none_left s.lines (left_after 0 s.body)) _ (λ named named_is.
    let sound = inside.sound in
    let none = nothing_left s.lines (left_after 0 s.body) named named_is in
    record {
      sound = record {
        rank = sound.rank;
        size = sound.size;
        below = sound.below;
        arrays = record {
          count = sound.arrays.count;
          each_len = sound.arrays.each_len;
          few = sound.arrays.few;
          sum_cells = sound.arrays.sum_cells;
          few_cells = sound.arrays.few_cells;
          shown = sound.arrays.shown;
          once = sound.arrays.once;
          comm_count = sound.arrays.comm_count;
          some_comm = sound.arrays.some_comm;
          few_comms = sound.arrays.few_comms;
        };
        counts = counts_end line s (subst (λ (n : ℕ). HasCounts n s.counts s.tasks s.accesses s.body) inside.one sound.counts);
        turn = turn_ended line s sound.turn;
        tasks = λ p c old. All-push (IsTask p) s.tasks (ended line s) (sound.tasks p c old) (is_task g line s p none sound c);
        begun = begun_none g.prior s.rank s.size s.comms s.lens;
        names = sound.before;
        before = sound.before;
      };
      no_accesses = refl;
      no_body = refl;
      closed = refl;
    })
