use Rattle.std.proofs.Common.{◌≡◌, ◌++◌, length, List, ℤ, drop, ap, ◌∙◌, sym, rules, arith}
use Rattle.task_local.specs.Placed.{cells_at}
use Rattle.task_local.proofs.Beside.{length-part, takes_same, placed_value_is, written_between, between_is_part}
use Rattle.task_local.proofs.compute.run_over_left.Goals as goal

pub run_kernel_over_left-requires : goal.run_kernel_over_left-requires
run_kernel_over_left-requires c =
    let placed = c.args.placed.now in
    let copy = c.args.copy.now in
    let outer = c.split_at_mut-front in
    let inner = c.split_at_mut-cells in
    let cells = inner.result.0.now in
    let whole : outer.result.0.now ++ (cells ++ inner.result.1.now) ≡ copy =
    sym (outer.ensures.value ∙ ap (λ (rest : List ℤ). outer.result.0.now ++ rest) inner.ensures.value) in
    let with = c.cells_beside-with.ensures cells (omega arith) ∙ ap (λ (all : List ℤ). cells_at placed.right.at placed.right.count all) whole in
    takes_same placed.kernel placed.dst.count _ placed.left.count _ placed.right.count _ placed.value _ (omega arith)
    (inner.ensures.front_len ∙ c.requires.over.0.1)
    (ap length with ∙ length-part placed.right.at placed.right.count copy c.requires.fits.right)
    (search rules) c.requires.fits.takes

pub returns : goal.returns
returns c =
    let placed = c.args.placed.now in
    let copy = c.args.copy.now in
    let outer = c.split_at_mut-front in
    let inner = c.split_at_mut-cells in
    let cells = inner.result.0.now in
    let whole : outer.result.0.now ++ (cells ++ inner.result.1.now) ≡ copy =
    sym (outer.ensures.value ∙ ap (λ (rest : List ℤ). outer.result.0.now ++ rest) inner.ensures.value) in
    let from = between_is_part placed.dst.at placed.dst.count placed.left.at placed.left.count copy _ cells _ whole (omega arith)
    inner.ensures.front_len c.requires.over.0 in
    let with = c.cells_beside-with.ensures cells (omega arith) ∙ ap (λ (all : List ℤ). cells_at placed.right.at placed.right.count all) whole in
    let back = inner.ensures.back ∙ ap (λ (rest : List ℤ). drop placed.dst.count rest) outer.ensures.back in
    written_between placed.dst.at placed.dst.count copy outer.result.0.now inner.result.1.now c.run_kernel_over_left.new.dst outer.ensures.front back
    (c.run_kernel_over_left.auto.dst ∙ inner.ensures.front_len)
    ∙ placed_value_is placed copy _ _ _ _ _ _ inner.ensures.front_len from with (search rules) (search rules) c.run_kernel_over_left.ensures
