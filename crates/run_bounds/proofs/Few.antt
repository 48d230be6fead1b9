-- How much a program's tasks can do: their moves and their operations are counted in 32 bits.
use Rattle.std.proofs.Common.{◌≡◌, ℕ, zero, suc, ◌+◌, ◌*◌, ◌^◌, ◌<◌, ◌≤◌, List, [], ◌∷◌, length, slice_get, Some, refl, ap, arith}
use Rattle.std.specs.Prelude.{sum_by}
use Rattle.std.proofs.lemmas.List.Sums.{sum_by-cons}
use Rattle.rt_base.specs.declared.data.TaskDef.{TaskDef}
use Rattle.rt_base.specs.declared.data.Program.{Program}
use Rattle.rt_base.specs.WellFormed.{WellFormed}
use Rattle.task_machine.specs.Course.{most_moves}

most_moves_split : (defs : List TaskDef) → most_moves defs ≡ 2 * sum_by (λ (def : TaskDef). length def.body.items) defs + 3 * length defs
most_moves_split [] = refl
most_moves_split (def ∷ defs) =
    let whole = sum_by-cons (λ (def : TaskDef). 2 * length def.body.items + 3) def defs in
    let parts = sum_by-cons (λ (def : TaskDef). length def.body.items) def defs in
    let rest = most_moves_split defs in
    omega arith

pub one_of_sum : (f : TaskDef → ℕ) (defs : List TaskDef) (t : ℕ) (def : TaskDef) → slice_get defs t ≡ Some def → f def ≤ sum_by f defs
one_of_sum f [] t def here = absurd (cc)
one_of_sum f (d ∷ defs) zero def here =
    let whole = sum_by-cons f d defs in
    let same : f d ≡ f def = ap f (cc) in
    omega arith
one_of_sum f (d ∷ defs) (suc t) def here =
    let whole = sum_by-cons f d defs in
    let rest = one_of_sum f defs t def here in
    omega arith

-- a program has room for the moves of its tasks in a 32-bit number
pub most_moves_few : (p : Program) → WellFormed p → most_moves p.tasks.items ≤ 2293760
most_moves_few p well =
    let split = most_moves_split p.tasks.items in
    let operations : sum_by (λ (def : TaskDef). length def.body.items) p.tasks.items ≤ 1048576 = well.operations in
    let tasks : length p.tasks.items ≤ 65536 = well.task_count in
    omega arith

pub few_moves : (p : Program) → WellFormed p → most_moves p.tasks.items < 2 ^ 32
few_moves p well = omega (arith, most_moves_few p well)

pub few_operations : (p : Program) (t : ℕ) (def : TaskDef) → WellFormed p → slice_get p.tasks.items t ≡ Some def → length def.body.items < 2 ^ 32
few_operations p t def well is_def =
    let one = one_of_sum (λ (def : TaskDef). length def.body.items) p.tasks.items t def is_def in
    let operations : sum_by (λ (def : TaskDef). length def.body.items) p.tasks.items ≤ 1048576 = well.operations in
    omega arith
