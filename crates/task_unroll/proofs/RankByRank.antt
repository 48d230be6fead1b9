-- What is kept from one rank to the next.
use Rattle.std.proofs.Common.{◌≡◌, ◌≢◌, ℕ, zero, suc, ◌+◌, ◌*◌, ◌<◌, ◌≤◌, Bool, true, false, List, [], ◌∷◌, ◌++◌, length, Option, Some, None, Result}
use Rattle.std.proofs.Common.{Ok, Err, refl, sym, ap, ◌∙◌, subst, arith, append_assoc, length-append}
use Rattle.std.specs.Prelude.{All, AllPairs, sum, sum_by, ⊤}
use Rattle.std.proofs.Math.Nat.{suc-mul}
use Rattle.std.proofs.lemmas.List.Elements.{All-weaker, All-nil}
use Rattle.std.proofs.lemmas.List.Sums.{sum_by-append}
use Rattle.rt_base.specs.declared.data.Access.{Access}
use Rattle.rt_base.specs.declared.data.Op.{Op}
use Rattle.rt_base.specs.declared.data.TaskDef.{TaskDef}
use Rattle.rt_base.specs.declared.data.Program.{Program}
use Rattle.rt_base.specs.Layout.{array_count}
use Rattle.rt_base.specs.WellFormed.{IsTask}
use Rattle.task_tree.specs.Blocks.{Block, Place as place, Nested}
use Rattle.task_names.specs.declared.meaning.Meaning.{Meaning}
use Rattle.task_unroll.specs.States.{Counts, State, begun, nothing_counted}
use Rattle.task_unroll.specs.Blocks.{unrolled}
use Rattle.task_unroll.specs.Ranks.{Ranks, next_rank, more_ranks, first_rank}
use Rattle.task_unroll.proofs.Results.{Holds, bind, bind_by}
use Rattle.task_unroll.proofs.Sound.{Stage, Continues, HasArrays, HasCounts, InTurn, AreTasks, HasNames, IsSound, IsMain}
use Rattle.task_unroll.proofs.Ending.{begun_none}
use Rattle.task_unroll.proofs.Unrolled.{arrays_after, comms_after, stage_after, top_keeps}

-- a rank begins behind these lengths and these tasks
abbrev pub fresh : List ℕ → List TaskDef → ℕ → ℕ → Stage
fresh prior old rank size = record { prior = prior; old = old; rank = rank; size = size; arrays = 0; comms = 1; opened = 0 }

no_names : (arrays comms : ℕ) → HasNames arrays comms [] []
no_names arrays comms = record {
  fit = λ name m is. absurd (cc);
  once = λ name other n is also. absurd (cc);
}

begun_sound : (prior : List ℕ) (counts : Counts) (tasks : List TaskDef) (rank size : ℕ) → rank < size → counts.cells ≡ sum prior → counts.cells ≤ 16777216
    → HasCounts 0 counts tasks [] [] → InTurn rank 0 tasks
    → IsMain (fresh prior tasks rank size) (begun counts tasks rank size)
begun_sound prior counts tasks rank size below cells few_cells has turn = record {
  sound = record {
    rank = refl;
    size = refl;
    below = below;
    arrays = record {
      count = refl;
      each_len = refl;
      few = omega arith;
      sum_cells = omega (arith, cells);
      few_cells = few_cells;
      shown = All-nil (λ (array : ℕ). array < 0);
      once = λ i j d low high. absurd (omega arith);
      comm_count = refl;
      some_comm = omega arith;
      few_comms = omega arith;
    };
    counts = has;
    turn = turn;
    tasks = λ p c old. old;
    begun = begun_none prior rank size 1 [];
    names = no_names 0 1;
    before = no_names 0 1;
  };
  no_accesses = refl;
  no_body = refl;
  closed = refl;
}

-- a program that has the arrays and communicators of the text on each rank, and the lengths of the ranks so far
pub record Fits (whole : Block) (size : ℕ) (lens : List ℕ) (p : Program) : Type 0 where
  pub ranks : p.ranks ≡ size
  pub comms : p.comms ≡ comms_after whole 1
  pub count : array_count p ≡ arrays_after whole 0
  pub after : List ℕ
  pub laid : p.lens.items ≡ lens ++ after

-- the ranks so far, of which the last has this number
pub record AreSound (whole : Block) (size rank : ℕ) (r : Ranks) : Type 0 where
  pub prior : List ℕ
  pub old : List TaskDef
  pub main : IsMain (stage_after whole (fresh prior old rank size)) r.last
  pub laid : r.lens ≡ prior ++ r.last.lens
  pub place : length prior ≡ rank * arrays_after whole 0
  pub before : (p : Program) → Fits whole size prior p → All (IsTask p) old

-- the tasks so far are right
pub tasks_so_far : (whole : Block) (size rank : ℕ) (r : Ranks) (p : Program) → AreSound whole size rank r → Fits whole size r.lens p
    → All (IsTask p) r.last.tasks
tasks_so_far whole size rank r p are fits =
    let sound = are.main.sound in
    let comm_count = sound.arrays.comm_count in
    let comms = fits.comms in
    let each_len = sound.arrays.each_len in
    let count = fits.count in
    let laid : p.lens.items ≡ are.prior ++ (r.last.lens ++ fits.after) = fits.laid ∙ ap (λ (zs : List ℕ). zs ++ fits.after) are.laid
    ∙ append_assoc are.prior r.last.lens fits.after in
    sound.tasks p
    (record {
      ranks = fits.ranks ∙ sym sound.size;
      most_comms = omega (arith, comm_count, comms);
      after = fits.after;
      laid = laid;
      place = are.place ∙ ap (λ (n : ℕ). n * arrays_after whole 0) (sym sound.rank) ∙ ap (λ (n : ℕ). r.last.rank * n) (sym count);
      count = omega (arith, each_len, count);
    })
    (are.before p (record { ranks = fits.ranks; comms = fits.comms; count = fits.count; after = r.last.lens ++ fits.after; laid = laid }))

turn_next : (rank epoch : ℕ) (tasks : List TaskDef) → InTurn rank epoch tasks → InTurn (rank + 1) 0 tasks
turn_next rank epoch tasks turn = record {
  order = turn.order;
  past = All-weaker (λ (task : TaskDef). (task.rank ≤ rank) × (task.rank ≡ rank → task.epoch ≤ epoch)) (λ (task : TaskDef). (task.rank ≤ rank + 1)
      × (task.rank ≡ rank + 1 → task.epoch ≤ 0))
      (λ task was. let below = was.0 in (omega (arith, below), λ same. absurd (omega (arith, below, same)))) tasks turn.past;
}

pub first_sound : (whole : Block) (depth size : ℕ) → Nested depth place.Top whole → 0 < size → Holds (AreSound whole size 0) (first_rank whole size)
first_sound whole depth size nested some =
    let start = begun_sound [] nothing_counted [] 0 size some refl (omega arith)
    (record {
      task_count = omega arith;
      access_count = refl;
      few_accesses = omega arith;
      access_cells = refl;
      few_access_cells = omega arith;
      operations = refl;
      few_operations = omega arith;
      requests = refl;
      few_requests = omega arith;
      handles = refl;
      few_handles = omega arith;
      message_cells = refl;
      few_message_cells = omega arith;
    })
    (record { order = λ i j d low high. absurd (omega arith); past = All-nil (λ (task : TaskDef). (task.rank ≤ 0) × (task.rank ≡ 0 → task.epoch ≤ 0)) }) in
    bind_by (IsMain (stage_after whole (fresh [] [] 0 size))) (AreSound whole size 0) (unrolled whole (begun nothing_counted [] 0 size)) _
    (top_keeps (fresh [] [] 0 size) whole depth (begun nothing_counted [] 0 size) nested start) (λ s main.
    record {
      prior = [];
      old = [];
      main = main;
      laid = refl;
      place = omega arith;
      before = λ p fits. All-nil (IsTask p);
    })

plus_one : (n : ℕ) → suc n ≡ n + 1
plus_one n = omega arith

-- the lengths so far
lens_of : (whole : Block) (size rank : ℕ) (r : Ranks) → AreSound whole size rank r → length r.lens ≡ (rank + 1) * arrays_after whole 0
lens_of whole size rank r are =
    let laid = ap (λ (zs : List ℕ). length zs) are.laid in
    let parts = length-append are.prior r.last.lens in
    let each_len = are.main.sound.arrays.each_len in
    let place = are.place in
    let product = suc-mul rank (arrays_after whole 0) in
    let one : suc rank * arrays_after whole 0 ≡ (rank + 1) * arrays_after whole 0 = ap (λ (n : ℕ). n * arrays_after whole 0) (plus_one rank) in
    omega (arith, laid, parts, each_len, place, product, one)

pub next_sound : (whole : Block) (depth size rank : ℕ) (r : Ranks) → Nested depth place.Top whole → rank + 1 < size → AreSound whole size rank r
    → Holds (AreSound whole size (rank + 1)) (next_rank whole r)
next_sound whole depth size rank r nested below are =
    let main = are.main in
    let sound = main.sound in
    let sum_cells = sound.arrays.sum_cells in
    let laid = ap sum are.laid in
    let parts : sum (are.prior ++ r.last.lens) ≡ sum are.prior + sum r.last.lens = sum_by-append (λ (n : ℕ). n) are.prior r.last.lens in
    let counts = subst (λ (body : List Op). HasCounts 0 r.last.counts r.last.tasks [] body) main.no_body
    (subst (λ (accesses : List Access). HasCounts 0 r.last.counts r.last.tasks accesses r.last.body) main.no_accesses sound.counts) in
    let turn = subst (λ (n : ℕ). InTurn n r.last.epoch r.last.tasks) sound.rank sound.turn in
    let start = begun_sound r.lens r.last.counts r.last.tasks (rank + 1) size below (omega (
      arith,
      sum_cells,
      laid,
      parts,
    )) sound.arrays.few_cells counts (turn_next rank r.last.epoch r.last.tasks turn) in
    let same : begun r.last.counts r.last.tasks (rank + 1) size ≡ begun r.last.counts r.last.tasks (r.last.rank + 1) r.last.size =
    ap (λ (n : ℕ). begun r.last.counts r.last.tasks (n + 1) size) (sym sound.rank)
    ∙ ap (λ (n : ℕ). begun r.last.counts r.last.tasks (r.last.rank + 1) n) (sym sound.size) in
    let begins = begun r.last.counts r.last.tasks (r.last.rank + 1) r.last.size in
    let g = fresh r.lens r.last.tasks (rank + 1) size in
    bind_by (IsMain (stage_after whole g)) (AreSound whole size (rank + 1)) (unrolled whole begins) _
    (top_keeps g whole depth begins nested (subst (IsMain g) same start)) (λ s after.
    record {
      prior = r.lens;
      old = r.last.tasks;
      main = after;
      laid = refl;
      place = lens_of whole size rank r are;
      before = λ p fits. tasks_so_far whole size rank r p are fits;
    })

pub more_sound : (whole : Block) (depth size rank n : ℕ) (r : Ranks) → Nested depth place.Top whole → rank + n < size → AreSound whole size rank r
    → Holds (AreSound whole size (rank + n)) (more_ranks whole n r)
more_sound whole depth size rank zero r nested below are = subst (λ (k : ℕ). AreSound whole size k r) (plus_none rank) are
  where
    plus_none : (n : ℕ) → n ≡ n + 0
    plus_none n = omega arith
more_sound whole depth size rank (suc n) r nested below are =
    bind_by (AreSound whole size (rank + 1)) (AreSound whole size (rank + suc n)) (next_rank whole r) (more_ranks whole n)
    (next_sound whole depth size rank r nested (omega arith) are) (λ q after.
    subst (λ (k : ℕ). Holds (AreSound whole size k) (more_ranks whole n q)) (moved rank n)
    (more_sound whole depth size (rank + 1) n q nested (omega arith) after))
  where
    moved : (rank n : ℕ) → rank + 1 + n ≡ rank + suc n
    moved rank n = omega arith
