use Rattle.std.proofs.Common.{◌≡◌, ℕ, ◌-◌, ◌^◌, ◌<◌, ◌≤◌, List, length, map, sym, arith}
use Rattle.std.specs.List.{All}
use Rattle.std.proofs.lemmas.List.{length-map}
use Rattle.std.proofs.lemmas.List.Elements.{All-map, All-same}
use Rattle.std.proofs.lemmas.List.Sums.{sum_by-le}
use Rattle.ready_bag.specs.Closing.{count_put}
use Rattle.ready_bag.specs.Passes.{PassIs, account}
use Rattle.ready_bag.proofs.tests.close.Goals as goal

-- few passes, each with few puts
few_in_all : {T : Type 0} (passes : List (PassIs T)) (workers : ℕ) → length passes ≡ workers → workers ≤ 64 →
    All (λ pass. length pass.account.put < 4294967296) passes →
    count_put (map account passes) < 2 ^ 64 - 1
few_in_all passes workers all narrow few =
    let each : All (λ a. length a.put ≤ 4294967296) (map account passes) =
    All-map (λ a. length a.put ≤ 4294967296) account passes (λ k d lt. let here = few k d lt in omega (arith, here)) in
    omega (arith, sum_by-le (λ a. length a.put) 4294967296 (map account passes) each, length-map passes account, all, narrow)

pub close-requires-clause-few : goal.close-requires-clause-few
close-requires-clause-few g c = few_in_all _ _ c.requires.all c.requires.workers
    (All-same (λ pass. length pass.account.put < 4294967296) c.args.passes.items c.as_slice.result.now (sym c.as_slice.ensures.value) c.stop_at_many.ensures)
