-- A task begins, declares its accesses, and ends.
use Rattle.std.proofs.Common.{◌≡◌, ◌≢◌, ℕ, zero, suc, ◌+◌, ◌<◌, ◌≤◌, Bool, true, false, List, [], ◌∷◌, ◌++◌, length, get_or, Option, Some, None}
use Rattle.std.proofs.Common.{Result, Ok, Err, refl, sym, ap, ◌∙◌, subst, arith, length-append}
use Rattle.std.specs.Prelude.{All, AllPairs, sum, sum_by, ◌||◌}
use Rattle.std.specs.List.{list_any}
use Rattle.std.proofs.lemmas.List.Elements.{All-weaker, All-push, All-nil}
use Rattle.std.proofs.lemmas.List.Quantifiers.{all_pairs_push}
use Rattle.std.proofs.lemmas.List.Sums.{sum_by_push}
use Rattle.rt_base.specs.declared.data.FaultKind.TheVariants as fault
use Rattle.rt_base.specs.declared.data.LimitName.TheVariants as limit
use Rattle.rt_base.specs.declared.data.Mode.{Mode}
use Rattle.rt_base.specs.declared.data.Span.{Span}
use Rattle.rt_base.specs.declared.data.Access.{Access}
use Rattle.rt_base.specs.declared.data.Op.{Op}
use Rattle.rt_base.specs.declared.data.TaskDef.{TaskDef}
use Rattle.rt_base.specs.declared.data.Program.{Program}
use Rattle.rt_base.specs.Spans.{span_len, Overlaps}
use Rattle.rt_base.specs.Touched.{shares, shares_any}
use Rattle.rt_base.specs.InUse.{left_after}
use Rattle.rt_base.specs.WellFormed.{IsSpan, IsOperation, InOrder, region_cells, over_operations, names_of, cells_sent, IsTask}
use Rattle.task_tree.specs.declared.tree.SpanText.{SpanText}
use Rattle.task_unroll.specs.Unrolling.{at}
use Rattle.task_unroll.specs.States.{Counts, State}
use Rattle.task_unroll.specs.Counting.{kept, stepped}
use Rattle.task_unroll.specs.Checks.{check, passed, access_checks}
use Rattle.task_unroll.specs.Operands.{span_of}
use Rattle.task_unroll.specs.Acts.{listed, task_begun, access_made, none_left, task_ended}
use Rattle.task_unroll.proofs.Results.{Holds, bind, holds_of, passed_first}
use Rattle.task_unroll.proofs.Cells.{both_false, apart_by}
use Rattle.task_unroll.proofs.Chains.{at_step, bind_at, bind_kept, bind_stepped}
use Rattle.task_unroll.proofs.Sound.{none_follow, Stage, Continues, HasArrays, HasCounts, InTurn, IsBegun, AreTasks, HasNames, IsSound, IsMain, IsInside}
use Rattle.task_unroll.proofs.Outer.{step_sound}
use Rattle.task_unroll.proofs.Regions.{InLens, span_in, span_of_program}

-- a task is open
abbrev pub opening : Stage → Stage
opening g = record g { opened = 1 }

abbrev pub closing : Stage → Stage
closing g = record g { opened = 0 }

-- a task is open that has no operation yet
pub record IsFresh (g : Stage) (s : State) : Type 0 where
  pub inside : IsInside g s
  pub no_body : s.body ≡ []

names_none : (arrays comms : ℕ) (s : State) → s.body ≡ [] → HasNames arrays comms s.names s.body → HasNames arrays comms s.names []
names_none arrays comms s none has = subst (λ (body : List Op). HasNames arrays comms s.names body) none has

pub task_begun_sound : (g : Stage) (line : ℕ) (s : State) → IsMain g s → Holds (IsFresh (opening g)) (task_begun line s)
unfolding task_begun
task_begun_sound g line s main = bind_stepped (IsFresh (opening g)) s _ (λ n.
    bind_kept (IsFresh (opening g)) limit.Tasks (length s.tasks + 1) _ (λ few.
    bind_at (IsFresh (opening g)) line (passed (check fault.Place s.in_task ∷ [])) _ (λ alone alone_is.
    let step = step_sound g n s main.sound in
    record {
      inside = record {
        sound = record {
          rank = step.rank;
          size = step.size;
          below = step.below;
          arrays = record {
            count = step.arrays.count;
            each_len = step.arrays.each_len;
            few = step.arrays.few;
            sum_cells = step.arrays.sum_cells;
            few_cells = step.arrays.few_cells;
            shown = step.arrays.shown;
            once = step.arrays.once;
            comm_count = step.arrays.comm_count;
            some_comm = step.arrays.some_comm;
            few_comms = step.arrays.few_comms;
          };
          counts = record {
            task_count = few;
            access_count = step.counts.access_count;
            few_accesses = step.counts.few_accesses;
            access_cells = step.counts.access_cells;
            few_access_cells = step.counts.few_access_cells;
            operations = step.counts.operations;
            few_operations = step.counts.few_operations;
            requests = step.counts.requests;
            few_requests = step.counts.few_requests;
            handles = step.counts.handles;
            few_handles = step.counts.few_handles;
            message_cells = step.counts.message_cells;
            few_message_cells = step.counts.few_message_cells;
          };
          turn = step.turn;
          tasks = step.tasks;
          begun = step.begun;
          names = step.names;
          before = names_none g.arrays g.comms s main.no_body step.names;
        };
        one = refl;
      };
      no_body = main.no_body;
    })))

-- an access that shares no cell with those before it
apart_from : (accesses : List Access) (span : Span) → list_any (λ (access : Access). shares_any (access.span ∷ []) span) accesses ≡ false
    → (k : ℕ) (d : Access) → k < length accesses → ¬ Overlaps (get_or accesses k d).span span
apart_from [] span none k d below = absurd (omega arith)
apart_from (access ∷ accesses) span none zero d below =
    let first = (both_false (shares span access.span || false) (list_any (λ (one : Access). shares_any (one.span ∷ []) span) accesses) none).0 in
    apart_by span access.span (both_false (shares span access.span) false first).0
apart_from (access ∷ accesses) span none (suc k) d below =
    apart_from accesses span (both_false (shares span access.span || false) (list_any (λ (one : Access). shares_any (one.span ∷ []) span) accesses) none).1 k
    d (omega arith)

accesses_more : (prior : List ℕ) (rank size comms : ℕ) (lens : List ℕ) (accesses : List Access) (mode : Mode) (span : Span) (body : List Op) → body ≡ []
    → InLens lens span
    → list_any (λ (access : Access). shares_any (access.span ∷ []) span) accesses ≡ false
    → IsBegun prior rank size comms lens accesses body → IsBegun prior rank size comms lens (accesses ++ record { mode = mode; span = span } ∷ []) body
accesses_more prior rank size comms lens accesses mode span body none is apart begun = record {
  regions = λ p c. All-push (λ (access : Access). IsSpan p rank access.span) accesses (record {
    mode = mode;
    span =
        span;
  }) (begun.regions p c) (span_of_program prior rank size comms lens p span c is);
  apart = all_pairs_push (λ (one other : Access). ¬ Overlaps one.span other.span) accesses (record {
    mode = mode;
    span =
        span;
  }) begun.apart (apart_from accesses span apart);
  operations = λ p c task same_rank same_accesses. subst (λ (ops : List Op). All (IsOperation p task) ops) (sym none) (All-nil (IsOperation p task));
  follows = none_follow (accesses ++ record { mode = mode; span = span } ∷ []) body none;
}

counts_access : (opened : ℕ) (counts : Counts) (tasks : List TaskDef) (accesses : List Access) (body : List Op) (mode : Mode) (span : Span)
    → counts.accesses + 1 ≤ 4194304 → counts.access_cells + span_len span ≤ 134217728 → HasCounts opened counts tasks accesses body
    → HasCounts opened (record counts {
      accesses = counts.accesses + 1;
      access_cells =
          counts.access_cells + span_len span;
    }) tasks (accesses ++ record { mode = mode; span = span } ∷ []) body
counts_access opened counts tasks accesses body mode span few few_cells has =
    let count = has.access_count in
    let cells = has.access_cells in
    let more_cells = sum_by_push (λ (access : Access). span_len access.span) accesses (record { mode = mode; span = span }) in
    let more = length-append accesses (record { mode = mode; span = span } ∷ []) in
    record {
      task_count = has.task_count;
      access_count = omega (arith, count, more);
      few_accesses = few;
      access_cells = omega (arith, cells, more_cells);
      few_access_cells = few_cells;
      operations = has.operations;
      few_operations = has.few_operations;
      requests = has.requests;
      few_requests = has.few_requests;
      handles = has.handles;
      few_handles = has.few_handles;
      message_cells = has.message_cells;
      few_message_cells = has.few_message_cells;
    }

pub access_made_sound : (g : Stage) (line : ℕ) (mode : Mode) (text : SpanText) (s : State) → IsFresh g s → Holds (IsFresh g) (access_made line mode text s)
unfolding access_made
access_made_sound g line mode text s fresh = bind_stepped (IsFresh g) s _ (λ n.
    bind_at (IsFresh g) line (span_of (at_step n s) text) _ (λ span span_is.
    bind_at (IsFresh g) line (passed (access_checks s.accesses span)) _ (λ fine fine_is.
    bind_kept (IsFresh g) limit.Accesses (s.counts.accesses + 1) _ (λ few.
    bind_kept (IsFresh g) limit.AccessCells (s.counts.access_cells + span_len span) _ (λ few_cells.
    let step = step_sound g n s fresh.inside.sound in
    let is = holds_of (InLens s.lens) (span_of (at_step n s) text) span (span_in (at_step n s) text) span_is in
    let apart = (passed_first (check fault.AccessOverlap (list_any (λ (access : Access). shares_any (access.span ∷ []) span) s.accesses)) [] tt fine_is).0 in
    record {
      inside = record {
        sound = record {
          rank = step.rank;
          size = step.size;
          below = step.below;
          arrays = step.arrays;
          counts = counts_access g.opened (at_step n s).counts s.tasks s.accesses s.body mode span few few_cells step.counts;
          turn = step.turn;
          tasks = step.tasks;
          begun = accesses_more g.prior s.rank s.size s.comms s.lens s.accesses mode span s.body fresh.no_body is apart step.begun;
          names = step.names;
          before = step.before;
        };
        one = fresh.inside.one;
      };
      no_body = fresh.no_body;
    })))))
