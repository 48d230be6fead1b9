-- The program of a text is well formed.
use Rattle.std.proofs.Common.{◌≡◌, ℕ, zero, suc, ◌+◌, ◌*◌, ◌<◌, ◌≤◌, List, [], ◌∷◌, ◌++◌, length, Ok, Result, refl, sym, ap, ◌∙◌, subst, arith, length-append}
use Rattle.std.specs.Prelude.{All, sum, sum_by}
use Rattle.std.proofs.Math.Nat.{suc-mul}
use Rattle.std.proofs.lemmas.List.{append-nil}
use Rattle.std.proofs.lemmas.List.Sums.{sum_by-append}
use Rattle.rt_base.specs.declared.data.LimitName.TheVariants as limit
use Rattle.rt_base.specs.declared.data.Access.{Access}
use Rattle.rt_base.specs.declared.data.Op.{Op}
use Rattle.rt_base.specs.declared.data.Program.{Program}
use Rattle.rt_base.specs.Pieces.{pieces}
use Rattle.rt_base.specs.WellFormed.{WellFormed}
use Rattle.task_tree.specs.Blocks.{Block, Place as place, Nested}
use Rattle.task_unroll.specs.Ranks.{Ranks, first_rank, more_ranks, program_of, program}
use Rattle.task_unroll.specs.Laws.{UnrolledIsWellFormed}
use Rattle.task_unroll.proofs.Results.{Holds, bind, bind_by, holds_of}
use Rattle.task_unroll.proofs.Chains.{bind_kept}
use Rattle.task_unroll.proofs.Sound.{HasCounts}
use Rattle.task_unroll.proofs.Unrolled.{arrays_after}
use Rattle.task_unroll.proofs.RankByRank.{AreSound, tasks_so_far, first_sound, more_sound}

well_formed : (whole : Block) (more eager : ℕ) (r : Ranks) → suc more ≤ 64 → eager ≤ 16777216 → pieces r.last.tasks ≤ 16777216
    → AreSound whole (suc more) more r → WellFormed (program_of eager r)
well_formed whole more eager r few small few_pieces are =
    let main = are.main in
    let sound = main.sound in
    let size = sound.size in
    let arrays = sound.arrays in
    let count = arrays.count in
    let each_len = arrays.each_len in
    let comm_count = arrays.comm_count in
    let few_arrays = arrays.few in
    let some_comm = arrays.some_comm in
    let few_comms = arrays.few_comms in
    let place = are.place in
    let lens_laid = ap (λ (zs : List ℕ). length zs) are.laid in
    let lens_parts = length-append are.prior r.last.lens in
    let product = suc-mul more (arrays_after whole 0) in
    let lens_len : length r.lens ≡ suc more * arrays_after whole 0 = omega (arith, lens_laid, lens_parts, each_len, place, product) in
    let sum_cells = arrays.sum_cells in
    let few_cells = arrays.few_cells in
    let sum_laid = ap sum are.laid in
    let sum_parts : sum (are.prior ++ r.last.lens) ≡ sum are.prior + sum r.last.lens = sum_by-append (λ (n : ℕ). n) are.prior r.last.lens in
    let counts = subst (λ (body : List Op). HasCounts 0 r.last.counts r.last.tasks [] body) main.no_body
    (subst (λ (accesses : List Access). HasCounts 0 r.last.counts r.last.tasks accesses r.last.body) main.no_accesses sound.counts) in
    record {
      some_rank = omega (arith, size);
      ranks = omega (arith, size);
      eager = small;
      comms = omega (arith, comm_count, some_comm);
      few_comms = omega (arith, comm_count, few_comms);
      arrays = omega (arith, count, few_arrays);
      lens = lens_len ∙ ap (λ (n : ℕ). n * arrays_after whole 0) (sym size) ∙ ap (λ (n : ℕ). r.last.size * n) (sym count);
      starts = refl;
      cells = omega (arith, sum_cells, few_cells, sum_laid, sum_parts);
      shows = subst (λ (n : ℕ). All (λ (array : ℕ). array < n) r.last.shows) (sym count) arrays.shown;
      shown_once = arrays.once;
      task_count = let n = counts.task_count in omega (arith, n);
      access_count = let n = counts.access_count in let few = counts.few_accesses in omega (arith, n, few);
      access_cells = let n = counts.access_cells in let few = counts.few_access_cells in omega (arith, n, few);
      operations = let n = counts.operations in let few = counts.few_operations in omega (arith, n, few);
      requests = let n = counts.requests in let few = counts.few_requests in omega (arith, n, few);
      handles = let n = counts.handles in let few = counts.few_handles in omega (arith, n, few);
      message_cells = let n = counts.message_cells in let few = counts.few_message_cells in omega (arith, n, few);
      few_pieces = few_pieces;
      order = sound.turn.order;
      tasks = tasks_so_far whole (suc more) more r (program_of eager r) are (record {
        ranks = size;
        comms = comm_count;
        count = count;
        after = [];
        laid =
            sym (append-nil r.lens);
      });
    }

program_sound : (whole : Block) (depth more eager : ℕ) → Nested depth place.Top whole → suc more ≤ 64 → eager ≤ 16777216
    → Holds WellFormed (program whole more eager)
unfolding program
program_sound whole depth more eager nested few small =
    bind_by (AreSound whole (suc more) 0) WellFormed (first_rank whole (suc more)) _ (first_sound whole depth (suc more) nested (omega arith)) (λ first begun.
    bind_by (AreSound whole (suc more) more) WellFormed (more_ranks whole more first) _ (all_ranks whole depth more first nested begun) (λ all done.
    bind_kept WellFormed limit.Pieces (pieces all.last.tasks) _ (λ few_pieces.
    well_formed whole more eager all few small few_pieces done)))
  where
    from_none : (n : ℕ) → 0 + n ≡ n
    from_none n = omega arith

    all_ranks : (whole : Block) (depth more : ℕ) (first : Ranks) → Nested depth place.Top whole → AreSound whole (suc more) 0 first
        → Holds (AreSound whole (suc more) more) (more_ranks whole more first)
    all_ranks whole depth more first nested begun =
        subst (λ (k : ℕ). Holds (AreSound whole (suc more) k) (more_ranks whole more first)) (from_none more)
        (more_sound whole depth (suc more) 0 more first nested (omega arith) begun)

-- every program that unrolling gives
pub all_well_formed : UnrolledIsWellFormed
all_well_formed whole depth more eager result nested few small is =
    holds_of WellFormed (program whole more eager) result (program_sound whole depth more eager nested few small) is
